-- The laws of rows judged in lanes: the rows of a list are valid part by part, those of a block where its lanes of rows are, and those of an empty block.
-- Assumes nothing.
use mathlib.Core.Path.{◌≡◌, refl, sym, ap, ap₂, ◌∙◌, subst}
use mathlib.Core.Bool.{Bool, true, false, ◌&&◌, and-true, and_assoc}
use mathlib.Core.List.{List}
use mathlib.Core.Logic.{dite}
use Prim.Native.Nat.{ℕ, zero, suc, ◌+◌, ◌*◌, ◌-◌, ◌≤◌, ◌<◌}
use native.Mathlib.Nat.{add-zero}
use native.Mathlib.Numerals.{add-one}
use native.Mathlib.Decide.{ℕ_discrete}
use native.Mathlib.Omega.{arith}
use lib.IntN.{ℤ, pos}
use lib.ListN.{length, get_or, take, drop}
use lib.Seq.{drop-drop}
use Rattle.ints.specs.Whole.{eq_z}
use Rattle.ints.proofs.Truth.{and_left, and_right}
use Rattle.ints.proofs.Same.{same_is}
use Rattle.rows.specs.Row.{valid_row, is_empty, same_row}
use Rattle.rows.specs.Table.{row_from, empty_rows, valid_rows}
use Rattle.rows.proofs.RowLaws.{same_numbers}
use Rattle.rows.proofs.TableLaws.{row_drop, row_next}
use Rattle.lanes.specs.Validity.{block_rows, places, place_words, Judged, same_up_to, row_lanes_from, row_lanes_valid}
use Rattle.lanes.proofs.BoundsLaws.{row_take}

-- ---- the rows of a list, one by one and part by part

-- whether those of the first n rows are valid that come from row i on
abbrev pub valid_from : List ℤ → ℕ → ℕ → Bool
valid_from words n i = valid_rows (n - i) (drop (4 * i) words)

pub valid_all : (words : List ℤ) (n : ℕ) → valid_from words n 0 ≡ valid_rows n words
valid_all words n = let e : n - 0 ≡ n = omega arith in ap (λ (x : ℕ). valid_rows x words) e

pub valid_next : (words : List ℤ) (n i : ℕ) → i < n → valid_from words n i ≡ valid_row (row_from words (4 * i)) && valid_from words n (i + 1)
unfolding valid_rows
valid_next words n i h =
    let m = n - (i + 1) in
    let e : n - i ≡ suc m = omega arith in
    let k : 4 * i + 4 ≡ 4 * (i + 1) = omega arith in
    ap (λ (x : ℕ). valid_rows x (drop (4 * i) words)) e
    ∙ ap₂ ◌&&◌ (ap valid_row (row_drop (4 * i) words 0 ∙ ap (row_from words) (add-zero (4 * i)))) (ap (valid_rows m) (drop-drop 4 (4 * i) words ∙ ap (λ (x : ℕ). drop x words) k))

pub none_left : (words : List ℤ) (n i : ℕ) → n ≤ i → valid_from words n i ≡ true
unfolding valid_rows
none_left words n i h = let z : n - i ≡ 0 = omega arith in rw z

-- n rows that are the same
same_valid : (n : ℕ) (a b : List ℤ) → ((i : ℕ) → i < n → row_from a (4 * i) ≡ row_from b (4 * i)) → valid_rows n a ≡ valid_rows n b
unfolding valid_rows
same_valid zero a b each = refl
same_valid (suc n) a b each =
    ap₂ ◌&&◌ (ap valid_row (each 0 (omega arith)))
    (same_valid n (drop 4 a) (drop 4 b) (λ i h. sym (row_next a i) ∙ each (suc i) (omega arith) ∙ row_next b i))

-- n rows, and m after them
pub valid_split : (n m : ℕ) (words : List ℤ) → valid_rows (n + m) words ≡ valid_rows n words && valid_rows m (drop (4 * n) words)
unfolding valid_rows
valid_split zero m words = let z : 0 + m ≡ m = omega arith in rw z
valid_split (suc n) m words =
    let s : suc n + m ≡ suc (n + m) = omega arith in
    let k : 4 + 4 * n ≡ 4 * suc n = omega arith in
    let row = valid_row (row_from words 0) in
    ap (λ (x : ℕ). valid_rows x words) s
    ∙ ap (λ (b : Bool). row && b)
    (valid_split n m (drop 4 words) ∙ ap (λ (xs : List ℤ). valid_rows n (drop 4 words) && valid_rows m xs) (drop-drop (4 * n) 4 words ∙ ap (λ (x : ℕ). drop x words) k))
    ∙ sym (and_assoc row (valid_rows n (drop 4 words)) (valid_rows m (drop (4 * suc n) words)))

-- ---- places judged, lane by lane

-- the places before j are judged
pub record JudgedTo (words : List ℤ) (valid : List Bool) (j : ℕ) : Type 0 where
  pub long : length valid ≡ places
  pub done : (i : ℕ) → i < j → get_or valid i false ≡ valid_row (row_from words i)

-- ---- the lanes of rows

-- one lane more, behind the others
pub lane_more : (valid : List Bool) (n j : ℕ) → row_lanes_from n j valid && get_or valid (4 * (j + n)) false ≡ row_lanes_from (suc n) j valid
unfolding row_lanes_from
lane_more valid zero j = let e : j + 0 ≡ j = omega arith in rw e (sym (and-true _))
lane_more valid (suc n) j =
    let e : j + suc n ≡ suc j + n = omega arith in
    and_assoc (get_or valid (4 * j) false) (row_lanes_from n (suc j) valid) _
    ∙ ap (λ (b : Bool). get_or valid (4 * j) false && b) (rw e (lane_more valid n (suc j)))

lanes_judged : (words : List ℤ) (valid : List Bool) (j n : ℕ) → j + n ≤ block_rows → Judged words valid → row_lanes_from n j valid ≡ valid_rows n (drop (4 * j) words)
unfolding row_lanes_from valid_rows
lanes_judged words valid j zero k h = refl
lanes_judged words valid j (suc n) k h =
    let s : 4 * j + 4 ≡ 4 * suc j = omega arith in
    let row : row_from words (4 * j) ≡ row_from (drop (4 * j) words) 0 = ap (row_from words) (sym (add-zero (4 * j))) ∙ sym (row_drop (4 * j) words 0) in
    ap₂ ◌&&◌ (h.each (4 * j) (omega arith) ∙ ap valid_row row)
    (lanes_judged words valid (suc j) n (omega arith) h ∙ ap (valid_rows n) (sym (drop-drop 4 (4 * j) words ∙ ap (λ (x : ℕ). drop x words) s)))

-- the rows of a block, by its lanes
pub block_judged : (words : List ℤ) (valid : List Bool) → Judged words valid → row_lanes_valid valid ≡ valid_rows block_rows words
block_judged words valid h = lanes_judged words valid 0 block_rows (omega arith) h

-- ---- a block that is an empty one

pub same_more : (a b : List ℤ) (j : ℕ) (same here : Bool) → same ≡ same_up_to j a b → here ≡ eq_z (get_or a j (pos 0)) (get_or b j (pos 0)) → same && here ≡ same_up_to (j + 1) a b
unfolding same_up_to
same_more a b j same here s h = ap₂ ◌&&◌ s h ∙ ap (λ (n : ℕ). same_up_to n a b) (sym (add-one j))

same_at : (n : ℕ) (a b : List ℤ) → same_up_to n a b ≡ true → (i : ℕ) → i < n → get_or a i (pos 0) ≡ get_or b i (pos 0)
unfolding same_up_to
same_at zero a b t i h = absurd (omega arith)
same_at (suc n) a b t i h =
    dite (ℕ_discrete i n)
    (λ e. subst (λ (x : ℕ). get_or a x (pos 0) ≡ get_or b x (pos 0)) (sym e) (same_is (get_or a n (pos 0)) (get_or b n (pos 0)) (and_right (same_up_to n a b) _ t)))
    (λ e. same_at n a b (and_left (same_up_to n a b) _ t) i (omega arith))

all_empty : valid_rows block_rows (empty_rows block_rows) ≡ true
unfolding valid_rows empty_rows valid_row is_empty same_row eq_z
all_empty = refl

pub block_empty : (words block : List ℤ) → block ≡ empty_rows block_rows → same_up_to places words block ≡ true → valid_rows block_rows words ≡ true
block_empty words block e t =
    let same = subst (λ (b : List ℤ). (i : ℕ) → i < places → get_or words i (pos 0) ≡ get_or b i (pos 0)) e (same_at places words block t) in
    same_valid block_rows words (empty_rows block_rows)
    (λ i h. same_numbers (same (4 * i) (omega arith)) (same (4 * i + 1) (omega arith)) (same (4 * i + 2) (omega arith)) (same (4 * i + 3) (omega arith)))
    ∙ all_empty

-- ---- the rows of a table, block by block

module _ (table : List ℤ) (n number : ℕ) where
  -- the numbers that the places of a block take in
  abbrev pub places_at : List ℤ
  places_at = take place_words (drop (4 * number) table)

  -- what is left is the rows of the block there, and what is left behind it
  pub block_next : number + block_rows ≤ n → valid_from table n number ≡ valid_rows block_rows places_at && valid_from table n (number + block_rows)
  block_next h =
      let m = n - (number + block_rows) in
      let e : n - number ≡ block_rows + m = omega arith in
      let k : 4 * number + 4 * block_rows ≡ 4 * (number + block_rows) = omega arith in
      ap (λ (x : ℕ). valid_rows x (drop (4 * number) table)) e
      ∙ valid_split block_rows m (drop (4 * number) table)
      ∙ ap₂ ◌&&◌
      (same_valid block_rows (drop (4 * number) table) places_at (λ i l. sym (row_take place_words (drop (4 * number) table) (4 * i) (omega arith))))
      (ap (valid_rows m) (drop-drop (4 * block_rows) (4 * number) table ∙ ap (λ (x : ℕ). drop x table) k))
