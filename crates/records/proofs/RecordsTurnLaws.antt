-- One turn of each loop over the records of a store: what is left at record i is that record and what is left at record i + 1.
-- Assumes nothing.
use mathlib.Core.Path.{◌≡◌, refl, sym, ap, ap₂, ◌∙◌}
use mathlib.Core.Bool.{Bool, true, ◌&&◌, and_assoc, and-true}
use mathlib.Core.List.{List, [], ◌∷◌, ◌++◌}
use mathlib.Core.Logic.{dite}
use Prim.Native.Nat.{ℕ, suc, ◌+◌, ◌-◌, ◌*◌, ◌/◌, ◌≤◌, ◌<◌}
use native.Mathlib.Decide.{dec_lt}
use native.Mathlib.Numerals.{add-one}
use native.Mathlib.Omega.{arith}
use lib.IntN.{ℤ, pos}
use lib.ListN.{length, get_or, drop, drop_of_length-le, length-append}
use lib.Seq.{drop-cons, drop-drop, drop_at, take_at}
use Rattle.ints.specs.Lists.{every}
use Rattle.ints.specs.Whole.{eq_z}
use Rattle.ints.proofs.Truth.{and_left, and_right}
use Rattle.records.specs.Records.{record_words, record_from, read_records, all_records}
use Rattle.records.specs.Order.{precedes, is_sorted}
use Rattle.records.specs.Soundness.{all_zero, is_ranged, all_ranged}
use Rattle.records.specs.declared.Record.{Record}
use Rattle.records.proofs.PlacesLaws.{record_at, same_first}

-- ---- words

zero-at : (w : List ℤ) (i : ℕ) → i < length w → all_zero (drop i w) ≡ eq_z (get_or w i (pos 0)) (pos 0) && all_zero (drop (i + 1) w)
unfolding every
zero-at w i h = rw (drop-cons w i (pos 0) h, add-one)

-- zero: whether the words before the i-th are
module _ (w : List ℤ) (i : ℕ) (zero : Bool) (e : all_zero w ≡ zero && all_zero (drop i w)) where
  pub zero-so_far : i < length w → all_zero w ≡ (zero && eq_z (get_or w i (pos 0)) (pos 0)) && all_zero (drop (i + 1) w)
  zero-so_far h =
      e ∙ ap (λ (t : Bool). zero && t) (zero-at w i h) ∙ sym (and_assoc zero (eq_z (get_or w i (pos 0)) (pos 0)) (all_zero (drop (i + 1) w)))

  pub zero_to_the_end : length w ≤ i → zero ≡ all_zero w
  unfolding every
  zero_to_the_end h = sym (e ∙ ap (λ (t : Bool). zero && t) (ap all_zero (drop_of_length-le w h)) ∙ and-true zero)

-- ---- the first record of some words, and those after it

first_and_rest : (first w : List ℤ) → length first ≡ record_words → all_records (first ++ w) ≡ record_from first 0 ∷ all_records w
unfolding read_records
first_and_rest first w seven =
    let count : length (first ++ w) / record_words ≡ suc (length w / record_words) = omega (arith, length-append first w) in
    let words : record_from (first ++ w) 0 ≡ record_from first 0 =
    sym (same_first record_words (first ++ w) (omega arith)) ∙ ap (λ (l : List ℤ). record_from l 0) (take_at first w record_words seven) in
    ap (λ (n : ℕ). read_records n (first ++ w)) count ∙ ap₂ ◌∷◌ words (ap (read_records (length w / record_words)) (drop_at first w record_words seven))

pub no_record : (w : List ℤ) → length w < record_words → all_records w ≡ []
unfolding read_records
no_record w h = let e : length w / record_words ≡ 0 = omega arith in ap (λ (n : ℕ). read_records n w) e

-- a turn of a loop over the records of some words: first: the seven words of this turn
pub next_record : (r : Record) (w first rest : List ℤ) → r ≡ record_from first 0 → w ≡ first ++ rest → length first ≡ record_words → all_records w ≡ r ∷ all_records rest
next_record r w first rest e parts seven =
    ap all_records parts ∙ first_and_rest first rest seven ∙ ap (λ (a : Record). a ∷ all_records rest) (sym e)

pub ranged_here : (r : Record) (rs later : List Record) → rs ≡ r ∷ later → all_ranged rs ≡ true → (is_ranged r ≡ true) × (all_ranged later ≡ true)
unfolding every
ranged_here r rs later turn e =
    let both : is_ranged r && all_ranged later ≡ true = sym (ap all_ranged turn) ∙ e in
    (and_left (is_ranged r) (all_ranged later) both, and_right (is_ranged r) (all_ranged later) both)

-- ---- the order of records: the record at i and the one before it

-- the records from the i-th on, of n
abbrev pub left : ℕ → ℕ → List ℤ → List Record
left n i w = read_records (n - i) (drop (record_words * i) w)

pub left_at : (n i : ℕ) (w : List ℤ) → i < n → left n i w ≡ record_from w (record_words * i) ∷ left n (i + 1) w
unfolding read_records
left_at n i w h =
    let e : n - i ≡ suc (n - (i + 1)) = omega arith in
    let f : record_words * i + record_words ≡ record_words * (i + 1) = omega arith in
    ap (λ (m : ℕ). read_records m (drop (record_words * i) w)) e
    ∙ ap₂
    ◌∷◌
    (record_at (record_words * i) w)
    (ap (read_records (n - (i + 1))) (drop-drop record_words (record_words * i) w ∙ ap (λ (m : ℕ). drop m w) f))

pub none_left : (n i : ℕ) (w : List ℤ) → n ≤ i → left n i w ≡ []
unfolding read_records
none_left n i w h = let e : n - i ≡ 0 = omega arith in ap (λ (m : ℕ). read_records m (drop (record_words * i) w)) e

sorted_two : (a b : Record) (rs : List Record) → is_sorted (a ∷ b ∷ rs) ≡ precedes a b && is_sorted (b ∷ rs)
unfolding is_sorted
sorted_two a b rs = refl

sorted_one : (n i : ℕ) (w : List ℤ) → n ≤ i + 1 → is_sorted (left n i w) ≡ true
unfolding is_sorted
sorted_one n i w h =
    dite (dec_lt i n)
    (λ l. ap is_sorted (left_at n i w l ∙ ap (λ (rs : List Record). record_from w (record_words * i) ∷ rs) (none_left n (i + 1) w h)))
    (λ m. let l : n ≤ i = omega arith in ap is_sorted (none_left n i w l))

-- `sorted`: whether the records up to the one before i are in order
module _ (n i : ℕ) (w : List ℤ) (sorted : Bool) (from : 1 ≤ i) (e : is_sorted (read_records n w) ≡ sorted && is_sorted (left n (i - 1) w)) where
  two_at : i < n → left n (i - 1) w ≡ record_from w (record_words * (i - 1)) ∷ record_from w (record_words * i) ∷ left n (i + 1) w
  two_at h =
      let s : i - 1 + 1 ≡ i = omega arith in
      left_at n (i - 1) w (omega arith)
      ∙ ap (λ (l : List Record). record_from w (record_words * (i - 1)) ∷ l) (ap (λ (k : ℕ). left n k w) s ∙ left_at n i w h)

  pair_at : i < n → is_sorted (left n (i - 1) w) ≡ precedes (record_from w (record_words * (i - 1))) (record_from w (record_words * i)) && is_sorted (left n i w)
  pair_at h =
      let a = record_from w (record_words * (i - 1)) in
      let b = record_from w (record_words * i) in
      ap is_sorted (two_at h) ∙ sorted_two a b (left n (i + 1) w)
      ∙ ap (λ (rs : List Record). precedes a b && is_sorted rs) (sym (left_at n i w h))

  pub in_order-so_far :
      i < n
      → is_sorted (read_records n w) ≡ (sorted && precedes (record_from w (record_words * (i - 1))) (record_from w (record_words * i))) && is_sorted (left n (i + 1 - 1) w)
  in_order-so_far h =
      let s : i ≡ i + 1 - 1 = omega arith in
      let p = precedes (record_from w (record_words * (i - 1))) (record_from w (record_words * i)) in
      e ∙ ap (λ (b : Bool). sorted && b) (pair_at h)
      ∙ sym (and_assoc sorted p (is_sorted (left n i w)))
      ∙ ap (λ (k : ℕ). (sorted && p) && is_sorted (left n k w)) s

  pub in_order_to_the_end : n ≤ i → sorted ≡ is_sorted (read_records n w)
  in_order_to_the_end h = sym (e ∙ ap (λ (b : Bool). sorted && b) (sorted_one n (i - 1) w (omega arith)) ∙ and-true sorted)
