-- Marks by number: which are set by a list of numbers. And how many numbers of a stretch pass a test.
-- Assumes nothing.
use mathlib.Core.Path.{◌≡◌, refl, ap, ap₂, ◌∙◌}
use mathlib.Core.Bool.{Bool, true, false, ◌&&◌, not, cond, and-true, and-false}
use mathlib.Core.List.Memᴰ
use mathlib.Core.List.{List, [], ◌∷◌, ◌++◌, Memᴰ}
use mathlib.Core.Logic.{◌⊎◌, inl, inr, ⊎_elim, dite}
use Prim.Native.Nat.{ℕ, zero, suc, ◌+◌, ◌≤◌, ◌<◌}
use native.Mathlib.Decide.{ℕ_discrete, dec_lt}
use native.Mathlib.Omega.{arith}
use lib.Dec.{eqb}
use lib.ListN.{length, get_or, set, replicate, length-replicate, get_or-replicate, get_or-eq_default}
use lib.Seq.{get_or-set_same, get_or-set_other, lt-length-set}
use borrow.Author.Tests.{eq-eqb, ne_eqb, eqb-false, not-true}

-- ---- marks

-- the marks with those of some numbers set
unfoldable pub marked : List ℕ → List ℕ → List ℕ
marked found [] = found
marked found (n ∷ ns) = marked (set found n 1) ns

pub marked_more : (found ms ns : List ℕ) → marked (marked found ms) ns ≡ marked found (ms ++ ns)
unfolding marked
marked_more found [] ns = refl
marked_more found (m ∷ ms) ns = marked_more (set found m 1) ms ns

set_or_stays : (found : List ℕ) (m n : ℕ) → n < length found → get_or found n 0 ≡ 1 → get_or (set found m 1) n 0 ≡ 1
set_or_stays found m n h e =
    dite (ℕ_discrete n m) (λ (p : n ≡ m). rw (← p) (get_or-set_same found n 1 0 h)) (λ p. get_or-set_other found m n 1 0 p ∙ e)

mark_stays : (found ns : List ℕ) (n : ℕ) → n < length found → get_or found n 0 ≡ 1 → get_or (marked found ns) n 0 ≡ 1
unfolding marked
mark_stays found [] n h e = e
mark_stays found (m ∷ ms) n h e = mark_stays (set found m 1) ms n (lt-length-set found m 1 h) (set_or_stays found m n h e)

mark_set : (found ns : List ℕ) (n : ℕ) → n < length found → Memᴰ n ns → get_or (marked found ns) n 0 ≡ 1
unfolding marked
mark_set found [] n h m = absurd (Memᴰ.not-nil m)
mark_set found (k ∷ ks) n h m =
    ⊎_elim
    (λ (p : n ≡ k). mark_stays (set found k 1) ks n (lt-length-set found k 1 h) (rw (← p) (get_or-set_same found n 1 0 h)))
    (λ i. mark_set (set found k 1) ks n (lt-length-set found k 1 h) i)
    (Memᴰ.cases_cons m)

mark_from : (found ns : List ℕ) (n : ℕ) → (get_or (marked found ns) n 0 ≡ get_or found n 0) ⊎ Memᴰ n ns
unfolding marked
mark_from found [] n = inl refl
mark_from found (k ∷ ks) n =
    dite (ℕ_discrete n k) (λ p. inr (Memᴰ.head p))
    (λ p. ⊎_elim (λ e. inl (e ∙ get_or-set_other found k n 1 0 p)) (λ m. inr (Memᴰ.tail m)) (mark_from (set found k 1) ks n))

abbrev zeros : ℕ → List ℕ
zeros k = replicate k 0

pub no_marks : (k n : ℕ) → ◌≡◌ {A = ℕ} (get_or (zeros k) n 0) 0
no_marks k n =
    dite (dec_lt n k) (λ h. get_or-replicate k n 0 0 h)
    (λ h. let l : length (zeros k) ≤ n = omega (arith, length-replicate {A = ℕ} k 0) in get_or-eq_default (zeros k) 0 l)

-- of marks set by a list of numbers, whether the mark of n is not 0
abbrev pub is_marked : ℕ → List ℕ → ℕ → Bool
is_marked k ns n = not (eqb (get_or (marked (replicate k 0) ns) n 0) 0)

pub in_marked : (k : ℕ) (ns : List ℕ) (n : ℕ) → n < k → Memᴰ n ns → is_marked k ns n ≡ true
in_marked k ns n h m =
    let l : n < length (zeros k) = omega (arith, length-replicate {A = ℕ} k 0) in
    rw (mark_set (zeros k) ns n l m)

pub marked_in : (k : ℕ) (ns : List ℕ) (n : ℕ) → is_marked k ns n ≡ true → Memᴰ n ns
marked_in k ns n h =
    ⊎_elim
    (λ (e : get_or (marked (zeros k) ns) n 0 ≡ get_or (zeros k) n 0). absurd (eqb-false _ 0 (not-true _ h) (e ∙ no_marks k n)))
    (λ m. m)
    (mark_from (zeros k) ns n)

-- ---- how many

abbrev pub bit : Bool → ℕ
bit t = cond t 1 0

-- of the n numbers from `from` on, how many pass
unfoldable pub counted : (ℕ → Bool) → ℕ → ℕ → ℕ
counted f from zero = 0
counted f from (suc n) = bit (f from) + counted f (suc from) n

pub counted_few : (f : ℕ → Bool) (from n : ℕ) → counted f from n ≤ n
unfolding counted
counted_few f from zero = omega arith
counted_few f from (suc n) = go (f from) (counted_few f (suc from) n)
  where
    go : (t : Bool) → counted f (suc from) n ≤ n → bit t + counted f (suc from) n ≤ suc n
    go true h = omega arith
    go false h = omega arith

pub counted_same : (f g : ℕ → Bool) (from n : ℕ) → ((i : ℕ) → from ≤ i → i < from + n → f i ≡ g i) → counted f from n ≡ counted g from n
unfolding counted
counted_same f g from zero h = refl
counted_same f g from (suc n) h =
    ap₂ (λ (t : Bool) (more : ℕ). bit t + more) (h from (omega arith) (omega arith))
    (counted_same f g (suc from) n (λ i k l. h i (omega arith) (omega arith)))

pub counted_none : (f : ℕ → Bool) (from n : ℕ) → ((i : ℕ) → from ≤ i → i < from + n → f i ≡ false) → counted f from n ≡ 0
unfolding counted
counted_none f from zero h = refl
counted_none f from (suc n) h =
    rw (h from (omega arith) (omega arith)) (omega (arith, counted_none f (suc from) n (λ i k l. h i (omega arith) (omega arith))))

-- the test that passes all but m
abbrev pub without : (ℕ → Bool) → ℕ → ℕ → Bool
without f m i = f i && not (eqb i m)

pub without_other : (f : ℕ → Bool) (m i : ℕ) → (i ≡ m → ⊥) → without f m i ≡ f i
without_other f m i n = rw (ne_eqb i m n) (and-true (f i))

pub without_same : (f : ℕ → Bool) (m i : ℕ) → i ≡ m → without f m i ≡ false
without_same f m i e = rw (eq-eqb i m e) (and-false (f i))

-- one number apart from the others
pub counted_apart : (f : ℕ → Bool) (m from n : ℕ) → from ≤ m → m < from + n → counted f from n ≡ bit (f m) + counted (without f m) from n
unfolding counted
counted_apart f m from zero h k = absurd (omega arith)
counted_apart f m from (suc n) h k =
    dite (ℕ_discrete from m)
    (λ (e : from ≡ m).
    let rest = counted_same (without f m) f (suc from) n (λ i j l. without_other f m i (λ p. omega arith)) in
    omega (arith, ap bit (without_same f m from e), ap (λ (i : ℕ). bit (f i)) e))
    (λ e.
    let rest = counted_apart f m (suc from) n (omega arith) (omega arith) in
    omega (arith, ap bit (without_other f m from e)))
