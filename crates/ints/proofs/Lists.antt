-- Lists by membership: what a function makes of the elements, the elements that pass a test, and whether one passes or all do. And a list from a place on.
-- Assumes nothing.
use mathlib.Core.Path.{◌≡◌, refl, sym, ap, ap₂, ◌∙◌}
use mathlib.Core.Bool.{Bool, true, false, ◌||◌, cond}
use mathlib.Core.List.Memᴰ
use mathlib.Core.List.{List, [], ◌∷◌, ◌++◌, map, Memᴰ}
use mathlib.Core.Logic.{⊎_elim}
use Prim.Native.Nat.{ℕ, zero, suc, ◌-◌, ◌≤◌, ◌<◌}
use native.Mathlib.Omega.{arith}
use lib.ListN.{length, get_or, take, drop, length-drop}
use lib.Seq.{take_all}
unfoldable pub use Rattle.ints.specs.Lists.{passing, some, every}
use Rattle.ints.proofs.Parts.{true_false}
use Rattle.ints.proofs.Truth.{false_of, or_left, or_right, and_true, and_left, and_right}

-- ---- places

-- a part of a slice from k to its end
pub part_from : {A : Type 0} (k : ℕ) (s : List A) → take (length s - k) (drop k s) ≡ drop k s
part_from k s = take_all (length s - k) (drop k s) (omega (arith, length-drop k s))

pub element_in : {A : Type 0} (d : A) (xs : List A) (i : ℕ) → i < length xs → Memᴰ (get_or xs i d) xs
element_in d [] i h = absurd (omega arith)
element_in d (x ∷ xs) zero h = Memᴰ.head refl
element_in d (x ∷ xs) (suc i) h = Memᴰ.tail (element_in d xs i (omega arith))

-- ---- what a function makes of the elements

pub map-has : {A B : Type 0} (f : A → B) (xs : List A) {a : A} → Memᴰ a xs → Memᴰ (f a) (map f xs)
map-has f [] m = absurd (Memᴰ.not-nil m)
map-has f (b ∷ bs) m =
    ⊎_elim (λ p. Memᴰ.head (ap f p)) (λ k. Memᴰ.tail (map-has f bs k)) (Memᴰ.cases_cons m)

pub map_in : {A B : Type 0} (f : A → B) (xs : List A) {b : B} → Memᴰ b (map f xs) → (a : A) × Memᴰ a xs × (b ≡ f a)
map_in f [] m = absurd (Memᴰ.not-nil m)
map_in f (a ∷ xs) m =
    ⊎_elim (λ p. (a, Memᴰ.head refl, p)) (λ k. let r = map_in f xs k in (r.0, Memᴰ.tail r.1, r.2)) (Memᴰ.cases_cons m)

pub map-append : {A B : Type 0} (f : A → B) (xs ys : List A) → map f (xs ++ ys) ≡ map f xs ++ map f ys
map-append f [] ys = refl
map-append {A} {B} f (x ∷ xs) ys = ap (λ (l : List B). f x ∷ l) (map-append f xs ys)

-- ---- the elements that pass

pub passing_in : {A : Type 0} (f : A → Bool) (xs : List A) {a : A} → Memᴰ a (passing f xs) → Memᴰ a xs × (f a ≡ true)
unfolding passing
passing_in f [] m = absurd (Memᴰ.not-nil m)
passing_in {A} f (b ∷ bs) {a} m = go (f b) refl m (λ k. passing_in f bs k)
  where
    go : (t : Bool) → f b ≡ t → Memᴰ a (cond t (b ∷ passing f bs) (passing f bs)) → (Memᴰ a (passing f bs) → Memᴰ a bs × (f a ≡ true)) → Memᴰ a (b ∷ bs) × (f a ≡ true)
    go true e k ih =
        ⊎_elim (λ (p : a ≡ b). (Memᴰ.head p, ap f p ∙ e)) (λ n. let r = ih n in (Memᴰ.tail r.0, r.1)) (Memᴰ.cases_cons k)
    go false e k ih = let r = ih k in (Memᴰ.tail r.0, r.1)

pub passing_has : {A : Type 0} (f : A → Bool) (xs : List A) {a : A} → Memᴰ a xs → f a ≡ true → Memᴰ a (passing f xs)
unfolding passing
passing_has f [] m h = absurd (Memᴰ.not-nil m)
passing_has {A} f (b ∷ bs) {a} m h = go (f b) refl (λ k. passing_has f bs k h)
  where
    go : (t : Bool) → f b ≡ t → (Memᴰ a bs → Memᴰ a (passing f bs)) → Memᴰ a (cond t (b ∷ passing f bs) (passing f bs))
    go true e ih = ⊎_elim (λ p. Memᴰ.head p) (λ k. Memᴰ.tail (ih k)) (Memᴰ.cases_cons m)
    go false e ih = ⊎_elim (λ (p : a ≡ b). absurd (true_false (sym h ∙ ap f p ∙ e))) ih (Memᴰ.cases_cons m)

-- two tests that agree on a list pass the same elements
pub passing_same : {A : Type 0} (f g : A → Bool) (xs : List A) → ((a : A) → Memᴰ a xs → f a ≡ g a) → passing f xs ≡ passing g xs
unfolding passing
passing_same f g [] h = refl
passing_same {A} f g (a ∷ xs) h =
    let rest = passing_same f g xs (λ b m. h b (Memᴰ.tail m)) in
    ap₂ (λ (t : Bool) (more : List A). cond t (a ∷ more) more) (h a (Memᴰ.head refl)) rest

pub passing_append : {A : Type 0} (f : A → Bool) (xs ys : List A) → passing f (xs ++ ys) ≡ passing f xs ++ passing f ys
unfolding passing
passing_append f [] ys = refl
passing_append {A} f (x ∷ xs) ys = go (f x) (passing_append f xs ys)
  where
    go : (t : Bool) → passing f (xs ++ ys) ≡ passing f xs ++ passing f ys → cond t (x ∷ passing f (xs ++ ys)) (passing f (xs ++ ys)) ≡ cond t (x ∷ passing f xs) (passing f xs) ++ passing f ys
    go true e = ap (λ (l : List A). x ∷ l) e
    go false e = e

-- where all pass, and where none does
pub passing_all : {A : Type 0} (f : A → Bool) (xs : List A) → ((a : A) → Memᴰ a xs → f a ≡ true) → passing f xs ≡ xs
unfolding passing
passing_all f [] h = refl
passing_all {A} f (x ∷ xs) h =
    rw (h x (Memᴰ.head refl)) (ap (λ (l : List A). x ∷ l) (passing_all f xs (λ a m. h a (Memᴰ.tail m))))

pub passing_none : {A : Type 0} (f : A → Bool) (xs : List A) → ((a : A) → Memᴰ a xs → f a ≡ false) → passing f xs ≡ []
unfolding passing
passing_none f [] h = refl
passing_none f (x ∷ xs) h = rw (h x (Memᴰ.head refl)) (passing_none f xs (λ a m. h a (Memᴰ.tail m)))

-- they are no more than there are elements
pub passing_few : {A : Type 0} (f : A → Bool) (xs : List A) → length (passing f xs) ≤ length xs
unfolding passing
passing_few f [] = omega arith
passing_few f (a ∷ xs) = go (f a) (passing_few f xs)
  where
    go : (t : Bool) → length (passing f xs) ≤ length xs → length (cond t (a ∷ passing f xs) (passing f xs)) ≤ suc (length xs)
    go true i = omega arith
    go false i = omega arith

-- of those that pass a test g, all that pass f, where f passes no element that g does not
pub passing_twice : {A : Type 0} (f g : A → Bool) (xs : List A) → ((a : A) → f a ≡ true → g a ≡ true) → passing f (passing g xs) ≡ passing f xs
unfolding passing
passing_twice f g [] h = refl
passing_twice {A} f g (x ∷ xs) h = go (g x) refl (f x) refl (passing_twice f g xs h)
  where
    go : (t : Bool) → g x ≡ t → (u : Bool) → f x ≡ u → passing f (passing g xs) ≡ passing f xs
        → passing f (cond t (x ∷ passing g xs) (passing g xs)) ≡ cond u (x ∷ passing f xs) (passing f xs)
    go true e u k same = rw (k, same)
    go false e true k same = absurd (true_false (sym (h x k) ∙ e))
    go false e false k same = same

-- what a function makes of the elements that pass, of one element more
pub map-passing : {A B : Type 0} (g : A → B) (f : A → Bool) (a : A) (xs : List A)
    → map g (passing f (a ∷ xs)) ≡ cond (f a) (g a ∷ map g (passing f xs)) (map g (passing f xs))
unfolding passing
map-passing g f a xs = go (f a)
  where
    go : (t : Bool) → map g (cond t (a ∷ passing f xs) (passing f xs)) ≡ cond t (g a ∷ map g (passing f xs)) (map g (passing f xs))
    go true = refl
    go false = refl

-- ---- whether one passes

pub some_passes : {A : Type 0} (f : A → Bool) (xs : List A) → some f xs ≡ true → (a : A) × Memᴰ a xs × (f a ≡ true)
unfolding some
some_passes f [] h = absurd (true_false (sym h))
some_passes {A} f (b ∷ bs) h = go (f b) refl h (λ k. some_passes f bs k)
  where
    go : (t : Bool) → f b ≡ t → t || some f bs ≡ true → (some f bs ≡ true → (a : A) × Memᴰ a bs × (f a ≡ true)) → (a : A) × Memᴰ a (b ∷ bs) × (f a ≡ true)
    go true e k ih = (b, Memᴰ.head refl, e)
    go false e k ih = let r = ih k in (r.0, Memᴰ.tail r.1, r.2)

pub passes_some : {A : Type 0} (f : A → Bool) (xs : List A) {a : A} → Memᴰ a xs → f a ≡ true → some f xs ≡ true
unfolding some
passes_some f [] m h = absurd (Memᴰ.not-nil m)
passes_some {A} f (b ∷ bs) {a} m h =
    ⊎_elim (λ (p : a ≡ b). or_left (f b) (some f bs) (sym (ap f p) ∙ h))
    (λ k. or_right (f b) (some f bs) (passes_some f bs k h))
    (Memᴰ.cases_cons m)

-- where none passes, each one fails, and none of some of them passes
pub none_passes : {A : Type 0} (f : A → Bool) (xs : List A) {a : A} → some f xs ≡ false → Memᴰ a xs → f a ≡ false
none_passes f xs {a} n m = false_of (f a) (λ h. true_false (sym (passes_some f xs m h) ∙ n))

pub passing_some : {A : Type 0} (f g : A → Bool) (xs : List A) → some f xs ≡ false → some f (passing g xs) ≡ false
passing_some f g xs n =
    false_of (some f (passing g xs)) (λ h.
    let a = some_passes f (passing g xs) h in
    true_false (sym (passes_some f xs (passing_in g xs a.1).0 a.2) ∙ n))

pub some_map : {A B : Type 0} (f : B → Bool) (g : A → B) (xs : List A) → some f (map g xs) ≡ some (λ a. f (g a)) xs
unfolding some
some_map f g [] = refl
some_map f g (x ∷ xs) = ap (λ (t : Bool). f (g x) || t) (some_map f g xs)

-- ---- whether all pass

pub every_each : {A : Type 0} (f : A → Bool) (xs : List A) {a : A} → every f xs ≡ true → Memᴰ a xs → f a ≡ true
unfolding every
every_each f [] h m = absurd (Memᴰ.not-nil m)
every_each {A} f (b ∷ bs) {a} h m =
    ⊎_elim (λ (p : a ≡ b). ap f p ∙ and_left (f b) (every f bs) h)
    (λ k. every_each f bs (and_right (f b) (every f bs) h) k)
    (Memᴰ.cases_cons m)

pub each_every : {A : Type 0} (f : A → Bool) (xs : List A) → ((a : A) → Memᴰ a xs → f a ≡ true) → every f xs ≡ true
unfolding every
each_every f [] h = refl
each_every f (a ∷ xs) h = and_true (f a) (every f xs) (h a (Memᴰ.head refl)) (each_every f xs (λ b m. h b (Memᴰ.tail m)))
