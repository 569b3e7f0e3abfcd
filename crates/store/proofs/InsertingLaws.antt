-- The laws of inserting. A record put in at its place, and several one after the other: how many there are then, which they are, that the order, the
-- ids apart and whatever each record has are kept, and that records with different ids may be put in in any order. Then one put in as a change of the
-- words.
-- Assumes nothing.
use mathlib.Core.Path.{◌≡◌, refl, sym, ap, ◌∙◌}
use mathlib.Core.Bool.{Bool, true, false, cond, ◌||◌, or_assoc}
use mathlib.Core.List.Memᴰ
use mathlib.Core.List.{List, [], ◌∷◌, Memᴰ, ◌++◌, append_assoc}
use mathlib.Core.Logic.{◌⊎◌, inl, inr, ⊎_elim}
use Prim.Native.Nat.{ℕ, suc, ◌+◌, ◌-◌, ◌*◌, ◌≤◌, ◌<◌}
use native.Mathlib.Omega.{arith}
use lib.IntN.{ℤ, pos}
use lib.ListN.{length, set, take, drop, length-append, length-take, length-drop}
use lib.Seq.{paste, take-add, drop-drop, take_at, drop_at, length-take-le}
use Rattle.std.specs.List.{copy_within}
use Rattle.ints.specs.Whole.{eq_z}
use Rattle.ints.specs.Lists.{some, every}
use Rattle.ints.proofs.Parts.{true_false}
use Rattle.ints.proofs.Truth.{and_left, and_right, or_swap}
use Rattle.ints.proofs.Same.{same_comm}
use Rattle.ints.proofs.Lists.{none_passes, every_each, each_every}
use Rattle.grid.specs.Units.{capacity}
use Rattle.records.specs.Order.{precedes, is_sorted, has_id}
use Rattle.records.specs.Soundness.{ids_distinct}
use Rattle.records.specs.declared.Record.{Record}
use Rattle.records.specs.Records.{record_words, now_of, held_of, records_of, words_of, words_of_all, header, store_of}
use Rattle.records.specs.Places.{HasWords, first_of}
use Rattle.records.proofs.OrderLaws.{precedes_trans, precedes_asym, precedes_total, sorted_all, sorted_rest, sorted_cons, before_all}
use Rattle.records.proofs.OrderLaws.{first_other, rest_other, first_alone, rest_distinct, distinct_cons}
use Rattle.records.proofs.RecordsLaws.{words_length, held_records}
use Rattle.records.proofs.PlacesLaws.{first_within}
use Rattle.store.specs.Inserting.{inserted, inserted_all}
use Rattle.store.specs.Finding.{place_of}
use Rattle.store.proofs.WritingLaws.{words_append, front, zeros, front_length, store_split, more_zeros}

-- ---- one record

pub inserted_length : (r : Record) (rs : List Record) → length (inserted r rs) ≡ suc (length rs)
unfolding inserted
inserted_length r [] = refl
inserted_length r (a ∷ rs) = go (precedes r a) (inserted_length r rs)
  where
    go : (t : Bool) → length (inserted r rs) ≡ suc (length rs) → length (cond t (r ∷ a ∷ rs) (a ∷ inserted r rs)) ≡ suc (suc (length rs))
    go true e = refl
    go false e = ap suc e

pub has_inserted : (id : ℤ) (r : Record) (rs : List Record) → has_id id (inserted r rs) ≡ eq_z r.report.id id || has_id id rs
unfolding inserted some
has_inserted id r [] = refl
has_inserted id r (a ∷ rs) = go (precedes r a) (has_inserted id r rs)
  where
    go :
        (t : Bool)
        → has_id id (inserted r rs) ≡ eq_z r.report.id id || has_id id rs
        → has_id id (cond t (r ∷ a ∷ rs) (a ∷ inserted r rs)) ≡ eq_z r.report.id id || (eq_z a.report.id id || has_id id rs)
    go true e = refl
    go false e =
        ap (λ (x : Bool). eq_z a.report.id id || x) e ∙ or_swap (eq_z a.report.id id) (eq_z r.report.id id) (has_id id rs)

pub inserted_from : {x : Record} (r : Record) (rs : List Record) → Memᴰ x (inserted r rs) → (x ≡ r) ⊎ Memᴰ x rs
unfolding inserted
inserted_from r [] m = Memᴰ.cases_cons m
inserted_from {x} r (a ∷ rs) m = go (precedes r a) (inserted_from r rs) m
  where
    more : (x ≡ r) ⊎ Memᴰ x rs → (x ≡ r) ⊎ Memᴰ x (a ∷ rs)
    more (inl e) = inl e
    more (inr k) = inr (Memᴰ.tail k)

    go : (t : Bool) → (Memᴰ x (inserted r rs) → (x ≡ r) ⊎ Memᴰ x rs) → Memᴰ x (cond t (r ∷ a ∷ rs) (a ∷ inserted r rs)) → (x ≡ r) ⊎ Memᴰ x (a ∷ rs)
    go true f k = Memᴰ.cases_cons k
    go false f k = ⊎_elim (λ e. inr (Memᴰ.head e)) (λ n. more (f n)) (Memᴰ.cases_cons k)

-- it comes first where it precedes each
pub inserted_front : (r : Record) (rs : List Record) → ((x : Record) → Memᴰ x rs → precedes r x ≡ true) → inserted r rs ≡ r ∷ rs
unfolding inserted
inserted_front r [] o = refl
inserted_front r (a ∷ rs) o = rw (o a (Memᴰ.head refl))

-- what it and the others have, all have
pub inserted_every : (f : Record → Bool) (r : Record) (rs : List Record) → f r ≡ true → every f rs ≡ true → every f (inserted r rs) ≡ true
inserted_every f r rs h k =
    each_every f (inserted r rs) (λ x m. ⊎_elim (λ e. ap f e ∙ h) (λ n. every_each f rs k n) (inserted_from r rs m))

pub inserted_sorted : (r : Record) (rs : List Record) → is_sorted rs ≡ true → has_id r.report.id rs ≡ false → is_sorted (inserted r rs) ≡ true
unfolding inserted
inserted_sorted r [] h n = sorted_cons r [] (λ x m. absurd (Memᴰ.not-nil m)) h
inserted_sorted r (a ∷ rs) h n = go (precedes r a) refl (inserted_sorted r rs (sorted_rest a rs h) (rest_other r.report.id a rs n))
  where
    go : (b : Bool) → precedes r a ≡ b → is_sorted (inserted r rs) ≡ true → is_sorted (cond b (r ∷ a ∷ rs) (a ∷ inserted r rs)) ≡ true
    go true e i = sorted_cons r (a ∷ rs) (before_all r a rs e h) h
    go false e i =
        let after = precedes_total r a (first_other r a rs n) e in
        sorted_cons a (inserted r rs) (λ x m. ⊎_elim (λ q. rw q after) (λ k. sorted_all a rs h k) (inserted_from r rs m)) i

pub inserted_distinct : (r : Record) (rs : List Record) → has_id r.report.id rs ≡ false → ids_distinct rs ≡ true → ids_distinct (inserted r rs) ≡ true
unfolding inserted
inserted_distinct r [] n d = distinct_cons r [] n d
inserted_distinct r (a ∷ rs) n d =
    go (precedes r a) (inserted_distinct r rs (rest_other r.report.id a rs n) (rest_distinct a rs d))
  where
    other : has_id a.report.id (inserted r rs) ≡ false
    other = has_inserted a.report.id r rs ∙ rw (first_other r a rs n, first_alone a rs d)

    go : (t : Bool) → ids_distinct (inserted r rs) ≡ true → ids_distinct (cond t (r ∷ a ∷ rs) (a ∷ inserted r rs)) ≡ true
    go true k = distinct_cons r (a ∷ rs) n d
    go false k = distinct_cons a (inserted r rs) other k

-- two records with different ids may be put in in either order
pub inserted_swap : (a b : Record) (rs : List Record) → eq_z a.report.id b.report.id ≡ false → inserted a (inserted b rs) ≡ inserted b (inserted a rs)
unfolding inserted
inserted_swap a b [] n = go (precedes a b) refl (precedes b a) refl
  where
    go : (t : Bool) → precedes a b ≡ t → (u : Bool) → precedes b a ≡ u → cond t (a ∷ b ∷ []) (b ∷ a ∷ []) ≡ cond u (b ∷ a ∷ []) (a ∷ b ∷ [])
    go true e true f = absurd (true_false (sym f ∙ precedes_asym a b e))
    go true e false f = refl
    go false e true f = refl
    go false e false f = absurd (true_false (sym (precedes_total a b n e) ∙ f))
inserted_swap a b (c ∷ rs) n = go (precedes a c) refl (precedes b c) refl (inserted_swap a b rs n)
  where
    front :
        (x y : Record)
        → eq_z x.report.id y.report.id ≡ false
        → precedes x c ≡ true
        → precedes y c ≡ true
        → (t : Bool)
        → precedes x y ≡ t
        → cond t (x ∷ y ∷ c ∷ rs) (y ∷ inserted x (c ∷ rs)) ≡ inserted y (x ∷ c ∷ rs)
    front x y m p q true e = rw (precedes_asym x y e, q)
    front x y m p q false e = rw (precedes_total x y m e, p)

    between : (x y : Record) → precedes x c ≡ false → precedes y c ≡ true → precedes x y ≡ false
    between x y p q = go₂ (precedes x y) refl
      where
        go₂ : (t : Bool) → precedes x y ≡ t → t ≡ false
        go₂ true e = absurd (true_false (sym (precedes_trans x y c e q) ∙ p))
        go₂ false e = refl

    go :
        (t : Bool)
        → precedes a c ≡ t
        → (u : Bool)
        → precedes b c ≡ u
        → inserted a (inserted b rs) ≡ inserted b (inserted a rs)
        → inserted a (cond u (b ∷ c ∷ rs) (c ∷ inserted b rs)) ≡ inserted b (cond t (a ∷ c ∷ rs) (c ∷ inserted a rs))
    go true e true f k = front a b n e f (precedes a b) refl
    go true e false f k = rw (e, between b a f e, f)
    go false e true f k = rw (between a b e f, e, f)
    go false e false f k = rw (e, f, k)

-- ---- several, one after the other

pub inserted_all_swap : (r : Record) (more rs : List Record) → has_id r.report.id more ≡ false → inserted_all more (inserted r rs) ≡ inserted r (inserted_all more rs)
unfolding inserted_all
inserted_all_swap r [] rs n = refl
inserted_all_swap r (a ∷ more) rs n =
    ap (inserted_all more) (sym (inserted_swap r a rs (first_other r a more n)))
    ∙ inserted_all_swap r more (inserted a rs) (rest_other r.report.id a more n)

pub all_length : (ds rs : List Record) → length (inserted_all ds rs) ≡ length ds + length rs
unfolding inserted_all
all_length [] rs = omega arith
all_length (d ∷ ds) rs = omega (arith, all_length ds (inserted d rs), inserted_length d rs)

pub all_every : (f : Record → Bool) (ds rs : List Record) → every f ds ≡ true → every f rs ≡ true → every f (inserted_all ds rs) ≡ true
unfolding inserted_all every
all_every f [] rs h k = k
all_every f (d ∷ ds) rs h k =
    all_every f ds (inserted d rs) (and_right (f d) (every f ds) h) (inserted_every f d rs (and_left (f d) (every f ds) h) k)

pub has_all : (id : ℤ) (ds rs : List Record) → has_id id (inserted_all ds rs) ≡ has_id id ds || has_id id rs
unfolding inserted_all some
has_all id [] rs = refl
has_all id (d ∷ ds) rs =
    has_all id ds (inserted d rs)
    ∙ ap (λ (b : Bool). has_id id ds || b) (has_inserted id d rs)
    ∙ or_swap (has_id id ds) (eq_z d.report.id id) (has_id id rs)
    ∙ sym (or_assoc (eq_z d.report.id id) (has_id id ds) (has_id id rs))

-- records to be put in, whose ids differ from one another and from those there
pub record Apart (ds ks : List Record) : Type 0 where
  pub distinct : ids_distinct ds ≡ true
  pub others : (d : Record) → Memᴰ d ds → has_id d.report.id ks ≡ false

apart_next : (d : Record) (ds ks : List Record) → Apart (d ∷ ds) ks → Apart ds (inserted d ks)
apart_next d ds ks a =
    let alone = first_alone d ds a.distinct in
    record {
      distinct = rest_distinct d ds a.distinct;
      others = λ e m.
          let other = same_comm d.report.id e.report.id ∙ none_passes (λ r. eq_z r.report.id d.report.id) ds alone m in
          has_inserted e.report.id d ks ∙ rw (other, a.others e (Memᴰ.tail m));
    }

pub all_sorted : (ds ks : List Record) → Apart ds ks → is_sorted ks ≡ true → is_sorted (inserted_all ds ks) ≡ true
unfolding inserted_all
all_sorted [] ks a s = s
all_sorted (d ∷ ds) ks a s =
    all_sorted ds (inserted d ks) (apart_next d ds ks a) (inserted_sorted d ks s (a.others d (Memᴰ.head refl)))

-- ---- one record, as a change of the words

pub inserted_at : (r : Record) (rs : List Record) → inserted r rs ≡ take (place_of r rs) rs ++ (r ∷ drop (place_of r rs) rs)
unfolding first_of inserted
inserted_at r [] = refl
inserted_at r (a ∷ rs) = go (precedes r a) (inserted_at r rs)
  where
    go :
        (b : Bool)
        → inserted r rs ≡ take (first_of (precedes r) rs) rs ++ (r ∷ drop (first_of (precedes r) rs) rs)
        → cond b (r ∷ a ∷ rs) (a ∷ inserted r rs) ≡ take (cond b 0 (suc (first_of (precedes r) rs))) (a ∷ rs) ++ (r ∷ drop (cond b 0 (suc (first_of (precedes r) rs))) (a ∷ rs))
    go true h = refl
    go false h = ap (λ (l : List Record). a ∷ l) h

-- the words from a place on moved up by seven, and seven written over there
opened :
    (a b z e v m : List ℤ) (k n : ℕ)
    → length a ≡ k
    → length z ≡ record_words
    → length b ≡ n
    → (s : List ℤ)
    → s ≡ a ++ (b ++ (z ++ e))
    → m ≡ paste s (k + record_words) (drop k s) n
    → take k m ++ (v ++ drop (k + record_words) m) ≡ a ++ (v ++ (b ++ e))
opened a b z e v m k n ka kz kn s es em =
    let t = take record_words (drop k s) in
    let tk : take k s ≡ a = ap (take k) es ∙ take_at a (b ++ (z ++ e)) k ka in
    let dk : drop k s ≡ b ++ (z ++ e) = ap (drop k) es ∙ drop_at a (b ++ (z ++ e)) k ka in
    let ld : record_words ≤ length (drop k s) = rw dk (simp length-append (omega arith)) in
    let lt : length t ≡ record_words = length-take-le record_words (drop k s) ld in
    let first : take (k + record_words) s ≡ a ++ t = take-add k record_words s ∙ ap (λ (l : List ℤ). l ++ t) tk in
    let moved : take n (drop k s) ≡ b = ap (take n) dk ∙ take_at b (z ++ e) n kn in
    let bz : length (b ++ z) ≡ record_words + n = simp length-append (omega arith) in
    let far : k + record_words + n ≡ k + (record_words + n) = omega arith in
    let rest : drop (k + record_words + n) s ≡ e =
    ap (λ (j : ℕ). drop j s) far
    ∙ sym (drop-drop (record_words + n) k s)
    ∙ ap (drop (record_words + n)) (dk ∙ sym (append_assoc b z e))
    ∙ drop_at (b ++ z) e (record_words + n) bz in
    let mt : m ≡ a ++ (t ++ (b ++ e)) =
    em ∙ (λ i. (first i ++ moved i) ++ rest i) ∙ append_assoc (a ++ t) b e ∙ append_assoc a t (b ++ e) in
    let la : length (a ++ t) ≡ k + record_words = simp length-append (omega arith) in
    let tm : take k m ≡ a = ap (take k) mt ∙ take_at a (t ++ (b ++ e)) k ka in
    let dm : drop (k + record_words) m ≡ b ++ e =
    ap (drop (k + record_words)) (mt ∙ sym (append_assoc a t (b ++ e))) ∙ drop_at (a ++ t) (b ++ e) (k + record_words) la in
    λ i. tm i ++ (v ++ dm i)

store_with :
    (now : ℤ) (r : Record) (rs : List Record) (i : ℕ)
    → store_of now (take i rs ++ (r ∷ drop i rs)) ≡ front now (suc (length rs)) i rs ++ (words_of r ++ (words_of_all (drop i rs) ++ zeros (record_words * (capacity - suc (length rs)))))
unfolding store_of words_of_all
store_with now r rs i =
    let front = words_of_all (take i rs) in
    let back = words_of r ++ words_of_all (drop i rs) in
    let w : words_of_all (take i rs ++ (r ∷ drop i rs)) ≡ front ++ back = words_append (take i rs) (r ∷ drop i rs) in
    let n : length (take i rs ++ (r ∷ drop i rs)) ≡ suc (length rs) =
    simp (length-append, length-take, length-drop) (omega arith) in
    (λ j. header now (n j) ++ (w j ++ zeros (record_words * (capacity - n j))))
    ∙ ap
    (λ (l : List ℤ). header now (suc (length rs)) ++ l)
    (append_assoc front back (zeros (record_words * (capacity - suc (length rs)))))

pub insert_done :
    (s : List ℤ) (r : Record) (n p : ℕ)
    → HasWords s
    → length (records_of s) < capacity
    → n ≡ held_of s
    → p ≡ place_of r (records_of s)
    → (m₁ m₂ m : List ℤ)
    → let k = record_words * p + record_words in
    m₁ ≡ copy_within s k (record_words * n + record_words) (k + record_words)
    → m₂ ≡ take k m₁ ++ (words_of r ++ drop (k + record_words) m₁)
    → m ≡ set m₂ 1 (pos (n + 1))
    → m ≡ store_of (now_of s) (inserted r (records_of s))
insert_done s r n p q few en ep m₁ m₂ m e₁ e₂ em =
    let now = now_of s in
    let rs = records_of s in
    let k = record_words * p + record_words in
    let e = record_words * n + record_words in
    let a = front now (length rs) p rs in
    let b = words_of_all (drop p rs) in
    let z = zeros (record_words * (capacity - suc (length rs))) in
    let count : length rs ≡ n = held_records s ∙ sym en in
    let within : p ≤ length rs = omega (arith, first_within (precedes r) rs) in
    let es : s ≡ a ++ (b ++ (zeros record_words ++ z)) =
    q.words ∙ store_split now rs p ∙ ap (λ (l : List ℤ). a ++ (b ++ l)) (more_zeros (length rs) few) in
    let lw : length b ≡ record_words * (length rs - p) = words_length (drop p rs) ∙ ap (λ (j : ℕ). record_words * j) (length-drop p rs) in
    let lb : length b ≡ e - k = omega arith in
    let o = opened a b (zeros record_words) z (words_of r) m₁ k (e - k) (front_length now (length rs) p rs within) refl lb s es e₁ in
    let next : n + 1 ≡ suc (length rs) = omega arith in
    em
    ∙ ap (λ (l : List ℤ). set l 1 (pos (n + 1))) (e₂ ∙ o)
    ∙ ap (λ (j : ℕ). front now j p rs ++ (words_of r ++ (b ++ z))) next
    ∙ sym (store_with now r rs p)
    ∙ ap (λ (j : ℕ). store_of now (take j rs ++ (r ∷ drop j rs))) ep
    ∙ ap (store_of now) (sym (inserted_at r rs))
