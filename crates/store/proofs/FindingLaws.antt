-- The laws of finding a record in a store, whose records are read as chunks of seven words: the first of an id, and the place among sorted ones.
-- Assumes nothing.
use mathlib.Core.Path.{◌≡◌, refl, sym, ap, ◌∙◌}
use mathlib.Core.Bool.{Bool, true, false, cond, not}
use mathlib.Core.List.{List, [], ◌∷◌, Memᴰ}
use Prim.Native.Nat.{ℕ, zero, suc, ◌+◌, ◌-◌, ◌*◌, ◌/◌, ◌≤◌, ◌<◌}
use native.Mathlib.Omega.{arith}
use lib.IntN.{ℤ}
use mathlib.Core.Logic.{dite}
use native.Mathlib.Decide.{dec_lt}
use lib.ListN.{length, get_or, take, drop, length-drop}
use lib.Seq.{drop-nil, drop-cons, length-take-le}
use Rattle.std.specs.Simd.{first_chunks}
use Rattle.std.specs.List.Sorted.{IsPartitionedBy, IsPartitionPoint}
use borrow.Author.Tests.{ltb-true, ltb-false}
use Rattle.std.specs.List.{position, position_or_len}
use Rattle.std.specs.Prelude.{Some, None, nat_lt}
use Rattle.ints.proofs.Parts.{true_false}
use Rattle.records.specs.Records.{record_words, record_from, held_of, read_records, records_of, all_records}
use Rattle.records.specs.Order.{precedes, is_sorted}
use Rattle.records.specs.Places.{first_of}
use Rattle.store.specs.Finding.{place_of, has_that, index_of, found_at}
use Rattle.store.proofs.SortingListsLaws.{all_count, first_chunk, chunk_listed}
use Rattle.records.specs.declared.Record.{Record}
use Rattle.records.proofs.RecordsLaws.{read_length}
use Rattle.records.proofs.PlacesLaws.{read_front, first_within}
use Rattle.records.proofs.OrderLaws.{before_all, sorted_rest}

-- ---- the records of a store, as a part of its words

pub part_records :
    (s : List ℤ) (n : ℕ)
    → record_words * n + record_words ≤ length s
    → n ≡ held_of s
    → all_records (take (record_words * n + record_words - record_words) (drop record_words s)) ≡ records_of s
unfolding records_of
part_records s n h en =
    let e : record_words * n + record_words - record_words ≡ record_words * n = omega arith in
    let behind : record_words * n ≤ length (drop record_words s) = simp length-drop (omega arith) in
    ap (λ (j : ℕ). all_records (take j (drop record_words s))) e
    ∙ all_count n (take (record_words * n) (drop record_words s)) (length-take-le (record_words * n) (drop record_words s) behind)
    ∙ read_front n (drop record_words s) behind
    ∙ ap (λ (j : ℕ). read_records j (drop record_words s)) en

-- ---- the first record of an id

module _ (id : ℤ) where
  -- whether the record in seven words has it
  abbrev pub is_of : List ℤ → Bool
  is_of words = has_that id (record_from words 0)

  chunk_count : (k : ℕ) (w : List ℤ) → length (first_chunks record_words k w) ≡ k
  chunk_count zero w = refl
  chunk_count (suc k) w = ap suc (chunk_count k (drop record_words w))

  -- one chunk more
  step : Bool → ℕ → ℕ
  step b n = cond (not b) (1 + n) 0

  step_is : (b : Bool) (n : ℕ) → step b n ≡ cond b 0 (suc n)
  unfolding step
  step_is true n = refl
  step_is false n = omega arith

  chunk_place : (k : ℕ) (w : List ℤ) → position_or_len is_of (first_chunks record_words k w) ≡ first_of (has_that id) (read_records k w)
  unfolding first_of read_records step
  chunk_place zero w = refl
  chunk_place (suc k) w =
      let here = has_that id (record_from w 0) in
      (λ i. step (has_that id (first_chunk w i)) (chunk_place k (drop record_words w) i))
      ∙ step_is here (first_of (has_that id) (read_records k (drop record_words w)))

  pub index_found : (w : List ℤ) (chunks : List (List ℤ)) → chunks ≡ first_chunks record_words (length w / record_words) w → position is_of chunks ≡ found_at id (all_records w)
  index_found w chunks e =
      let k = length w / record_words in
      let count = chunk_count k w ∙ sym (read_length k w) in
      ap (position is_of) e ∙ (λ i. cond (nat_lt (chunk_place k w i) (count i)) (Some (chunk_place k w i)) None)

-- ---- a search among sorted records

-- the record at m is the first of those left there
abbrev pub IsAt : ℕ → Record → List Record → Type 0
IsAt m a rs = (more : List Record) × (drop m rs ≡ a ∷ more)

-- of two lists that are the same the first records are
pub first_same : (a b : Record) (rs more : List Record) → a ∷ rs ≡ b ∷ more → a ≡ b
first_same a b rs more e = ap (λ (l : List Record). get_or l 0 a) e

at_index : (m : ℕ) (d : Record) (rs : List Record) → m < length rs → IsAt m (get_or rs m d) rs
at_index m d rs h = (drop (suc m) rs, drop-cons rs m d h)

none_at : (m : ℕ) (a : Record) → IsAt m a [] → ⊥
none_at m a at = let k = ap length (sym (drop-nil {A = Record} m) ∙ at.1) in omega arith

at_member : (m : ℕ) (a : Record) (rs : List Record) → IsAt m a rs → Memᴰ a rs
at_member m a [] at = absurd (none_at m a at)
at_member zero a (b ∷ rs) at = Memᴰ.head (sym (first_same b a rs at.0 at.1))
at_member (suc m) a (b ∷ rs) at = Memᴰ.tail (at_member m a rs at)

module _ (r : Record) where
  -- the place of r is not behind a record that it precedes
  place_below : (m : ℕ) (a : Record) (rs : List Record) → IsAt m a rs → precedes r a ≡ true → place_of r rs ≤ m
  unfolding first_of
  place_below m a [] at h = absurd (none_at m a at)
  place_below zero a (b ∷ rs) at h = rw (ap (precedes r) (first_same b a rs at.0 at.1) ∙ h) (omega arith)
  place_below (suc m) a (b ∷ rs) at h = go (precedes r b) (place_below m a rs at h)
    where
      go : (t : Bool) → place_of r rs ≤ m → cond t 0 (suc (place_of r rs)) ≤ suc m
      go true k = omega arith
      go false k = omega arith

  -- and behind one that it does not precede
  place_above : (m : ℕ) (a : Record) (rs : List Record) → IsAt m a rs → is_sorted rs ≡ true → precedes r a ≡ false → m < place_of r rs
  unfolding first_of
  place_above m a [] at o h = absurd (none_at m a at)
  place_above zero a (b ∷ rs) at o h = rw (ap (precedes r) (first_same b a rs at.0 at.1) ∙ h) (omega arith)
  place_above (suc m) a (b ∷ rs) at o h = go (precedes r b) refl (place_above m a rs at (sorted_rest b rs o) h)
    where
      go : (t : Bool) → precedes r b ≡ t → m < place_of r rs → suc m < cond t 0 (suc (place_of r rs))
      go true e k = absurd (true_false (sym (before_all r b rs e o a (Memᴰ.tail (at_member m a rs at))) ∙ h))
      go false e k = omega arith

not_true : (b : Bool) → not b ≡ true → b ≡ false
not_true true e = sym e
not_true false e = refl

not_false : (b : Bool) → not b ≡ false → b ≡ true
not_false true e = refl
not_false false e = sym e

-- whether a record in seven words is one that r comes behind
abbrev pub is_behind : Record → List ℤ → Bool
is_behind r words = not (precedes r (record_from words 0))

module _
    (r : Record) (w : List ℤ) (chunks : List (List ℤ)) (e : chunks ≡ first_chunks record_words (length w / record_words) w)
    (l : length chunks ≡ length w / record_words) (o : is_sorted (all_records w) ≡ true) where
  abbrev none : Record
  none = record_from [] 0

  abbrev here : ℕ → Record
  here j = get_or (all_records w) j none

  long : length (all_records w) ≡ length chunks
  long = read_length (length w / record_words) w ∙ sym l

  tested : (j : ℕ) (d : List ℤ) → j < length chunks → is_behind r (get_or chunks j d) ≡ not (precedes r (here j))
  tested j d h =
      ap (λ (c : List (List ℤ)). is_behind r (get_or c j d)) e
      ∙ ap (λ (a : Record). not (precedes r a)) (chunk_listed (length w / record_words) j w d none (omega arith))

  not_behind : (j : ℕ) → j < length chunks → precedes r (here j) ≡ true → place_of r (all_records w) ≤ j
  not_behind j h t = let k = long in place_below r j (here j) (all_records w) (at_index j none (all_records w) (omega arith)) t

  is_after : (j : ℕ) → j < length chunks → precedes r (here j) ≡ false → j < place_of r (all_records w)
  is_after j h t = let k = long in place_above r j (here j) (all_records w) (at_index j none (all_records w) (omega arith)) o t

  -- those that r comes behind stand before the others
  pub parted : IsPartitionedBy (is_behind r) chunks
  parted i j d h k t = go (precedes r (here i)) refl
    where
      behind : j < place_of r (all_records w)
      behind = is_after j k (not_true (precedes r (here j)) (sym (tested j d k) ∙ t))

      go : (b : Bool) → precedes r (here i) ≡ b → is_behind r (get_or chunks i d) ≡ true
      go true f = absurd (omega (arith, behind, not_behind i (omega arith) f))
      go false f = tested i d (omega arith) ∙ ap not f

  -- so the place is where they end
  pub place_found : (i : ℕ) → i ≤ length chunks → IsPartitionPoint (λ c. is_behind r c ≡ true) (λ c. is_behind r c ≡ false) chunks i → i ≡ place_of r (all_records w)
  place_found i h p = omega (arith, low i refl, high)
    where
      low : (j : ℕ) → j ≡ i → i ≤ place_of r (all_records w)
      low zero f = omega arith
      low (suc j) f = omega (arith, is_after j (omega arith) (not_true (precedes r (here j)) (sym (tested j [] (omega arith)) ∙ p.0 j [] (omega arith) (omega arith))))

      high : place_of r (all_records w) ≤ i
      high = dite (dec_lt i (length chunks))
          (λ k. not_behind i k (not_false (precedes r (here i)) (sym (tested i [] k) ∙ p.1 i [] (omega arith) k)))
          (λ k. omega (arith, long, first_within (precedes r) (all_records w)))

-- ---- the number found, if there is one

-- what a caller learns
pub some_found : (id : ℤ) (rs : List Record) (i : ℕ) → Some i ≡ found_at id rs → (i ≡ index_of id rs) × (i < length rs)
some_found id rs i e = go (nat_lt (index_of id rs) (length rs)) refl e
  where
    go : (b : Bool) → nat_lt (index_of id rs) (length rs) ≡ b → Some i ≡ cond b (Some (index_of id rs)) None → (i ≡ index_of id rs) × (i < length rs)
    go true t f =
        let same : i ≡ index_of id rs = cc in
        let within = ltb-true (index_of id rs) (length rs) t in
        (same, omega arith)
    go false t f = absurd (cc)

pub none_found : (id : ℤ) (rs : List Record) → None ≡ found_at id rs → length rs ≤ index_of id rs
none_found id rs e = go (nat_lt (index_of id rs) (length rs)) refl e
  where
    go : (b : Bool) → nat_lt (index_of id rs) (length rs) ≡ b → None ≡ cond b (Some (index_of id rs)) None → length rs ≤ index_of id rs
    go true t f = absurd (cc)
    go false t f = ltb-false (index_of id rs) (length rs) t
