-- The laws of lanes: one number more is folded by one store, and the bounds of the lane rows after a fold are those before, joined with the bounds of
-- the rows that were folded. Joining is commutative and associative, so it makes no difference in which lane a row goes.
-- Assumes nothing.
use mathlib.Core.Path.{◌≡◌, refl, sym, ap, ap₂, ◌∙◌}
use mathlib.Core.List.{List, [], ◌∷◌, ◌++◌}
use Prim.Native.Nat.{ℕ, zero, suc, ◌+◌, ◌-◌, ◌*◌, ◌≤◌, ◌<◌}
use native.Mathlib.Nat.{add-zero}
use native.Mathlib.Numerals.{add-one}
use native.Mathlib.Omega.{arith}
use lib.IntN.{ℤ, pos}
use lib.ListN.{length, get_or, set, take, drop}
use lib.Seq.{get_or-take}
use Rattle.ints.specs.Whole.{min_z, max_z}
use Rattle.rows.specs.Row.{empty_row, joined, bounds_of}
use Rattle.rows.specs.Table.{row_from, row_place, row_at, slot_rows}
use Rattle.lanes.specs.Lanes.{lanes, lane_row_count, folded, Folded, lane_row, lane_rows, lane_bounds}
use Rattle.lanes.specs.declared.bounds.Lanes.{Lanes}
use Rattle.rows.specs.declared.Row.{Row}
use Rattle.rows.proofs.RowLaws.{same_numbers, joined_comm, joined_same, joined_across, bounds_append}
use Rattle.rows.proofs.TableLaws.{row_drop}

-- ---- a fold, number by number

module _ (f : ℤ → ℤ → ℤ) where
  -- the numbers before j are folded; one store folds the one at j
  fold_more : (vs ls : List ℤ) (j : ℕ) → j < length vs
      → set (folded f (take j vs) ls) j (f (get_or vs j (pos 0)) (get_or (folded f (take j vs) ls) j (pos 0))) ≡ folded f (take (suc j) vs) ls
  unfolding folded
  fold_more [] ls j h = absurd (omega arith)
  fold_more (v ∷ vs) [] zero h = refl
  fold_more (v ∷ vs) [] (suc j) h = refl
  fold_more (v ∷ vs) (l ∷ ls) zero h = refl
  fold_more (v ∷ vs) (l ∷ ls) (suc j) h = ap (λ (x : List ℤ). f v l ∷ x) (fold_more vs ls j (omega arith))

  -- the same of lanes `ls'` as a loop has them
  pub fold_stored : (vs ls ls' : List ℤ) (j : ℕ) (r : ℤ) → j < length vs → ls' ≡ folded f (take j vs) ls → r ≡ f (get_or vs j (pos 0)) (get_or ls' j (pos 0))
      → set ls' j r ≡ folded f (take (j + 1) vs) ls
  fold_stored vs ls ls' j r h e v =
      ap (set ls' j) v
      ∙ ap (λ (x : List ℤ). set x j (f (get_or vs j (pos 0)) (get_or x j (pos 0)))) e
      ∙ fold_more vs ls j h
      ∙ ap (λ (n : ℕ). folded f (take n vs) ls) (sym (add-one j))

  fold_at : (vs ls : List ℤ) (j : ℕ) → j < length vs → j < length ls → get_or (folded f vs ls) j (pos 0) ≡ f (get_or vs j (pos 0)) (get_or ls j (pos 0))
  unfolding folded
  fold_at [] ls j h k = absurd (omega arith)
  fold_at (v ∷ vs) [] j h k = absurd (omega arith)
  fold_at (v ∷ vs) (l ∷ ls) zero h k = refl
  fold_at (v ∷ vs) (l ∷ ls) (suc j) h k = fold_at vs ls j (omega arith) (omega arith)

  length-folded : (vs ls : List ℤ) → length (folded f vs ls) ≡ length ls
  unfolding folded
  length-folded [] ls = refl
  length-folded (v ∷ vs) [] = refl
  length-folded (v ∷ vs) (l ∷ ls) = ap suc (length-folded vs ls)

-- ---- rows joined in lanes

-- a slot's rows in two parts
slot_rows_split : (table : List ℤ) (slot number n m : ℕ) → slot_rows table slot number (n + m) ≡ slot_rows table slot number n ++ slot_rows table slot (number + n) m
unfolding slot_rows
slot_rows_split table slot number zero m = let e : 0 + m ≡ m = omega arith in rw (e, add-zero number)
slot_rows_split table slot number (suc n) m =
    let s : suc n + m ≡ suc (n + m) = omega arith in
    let e : suc number + n ≡ number + suc n = omega arith in
    ap (slot_rows table slot number) s
    ∙ ap (λ (x : List Row). row_at table slot number ∷ x)
    (slot_rows_split table slot (suc number) n m ∙ ap (λ (x : ℕ). slot_rows table slot (suc number) n ++ slot_rows table slot x m) e)

-- a lane row after a fold
module _ (block least greatest : List ℤ) (whole : length block ≡ lanes) (least_whole : length least ≡ lanes) (greatest_whole : length greatest ≡ lanes) where
  lane_row-folded : (j : ℕ) → j < lane_row_count → lane_row (folded min_z block least) (folded max_z block greatest) j ≡ joined (row_from block (4 * j)) (lane_row least greatest j)
  unfolding joined
  lane_row-folded j h =
      same_numbers
      (fold_at min_z block least (4 * j) (omega arith) (omega arith))
      (fold_at max_z block greatest (4 * j + 1) (omega arith) (omega arith))
      (fold_at min_z block least (4 * j + 2) (omega arith) (omega arith))
      (fold_at max_z block greatest (4 * j + 3) (omega arith) (omega arith))

-- the bounds of the lane rows from row j on, and of the one before them too
abbrev pub bounds_from : List ℤ → List ℤ → ℕ → Row
bounds_from least greatest j = bounds_of (lane_rows least greatest j (lane_row_count - j))

pub row_before : (least greatest : List ℤ) (j : ℕ) → 0 < j → j ≤ lane_row_count
    → joined (lane_row least greatest (j - 1)) (bounds_from least greatest j) ≡ bounds_from least greatest (j - 1)
unfolding lane_rows bounds_of
row_before least greatest j h k =
    let count : lane_row_count - (j - 1) ≡ suc (lane_row_count - j) = omega arith in
    let next : suc (j - 1) ≡ j = omega arith in
    rw (count, next)

pub row_take : (n : ℕ) (table : List ℤ) (k : ℕ) → k + 3 < n → row_from (take n table) k ≡ row_from table k
row_take n table k h =
    same_numbers
    (get_or-take n table k (pos 0) (omega arith))
    (get_or-take n table (k + 1) (pos 0) (omega arith))
    (get_or-take n table (k + 2) (pos 0) (omega arith))
    (get_or-take n table (k + 3) (pos 0) (omega arith))

-- the 16 rows of a slot that are a block, from a curve number on
module _ (table : List ℤ) (slot number : ℕ) where
  abbrev pub block_at : List ℤ
  block_at = take lanes (drop (row_place slot number) table)

  row_of-block : (j : ℕ) → j < lane_row_count → row_from block_at (4 * j) ≡ row_at table slot (number + j)
  unfolding row_at
  row_of-block j h =
      let p = row_place slot number in
      let e : p + 4 * j ≡ row_place slot (number + j) = omega arith in
      row_take lanes (drop p table) (4 * j) (omega arith) ∙ row_drop p table (4 * j) ∙ ap (row_from table) e

  -- the bounds of n lane rows, where each is joined with a row of the slot
  lanes_joined :
      (least greatest least' greatest' : List ℤ) (j n : ℕ)
      → ((i : ℕ) → j ≤ i → i < j + n → lane_row least' greatest' i ≡ joined (row_at table slot (number + i)) (lane_row least greatest i))
      → bounds_of (lane_rows least' greatest' j n) ≡ joined (bounds_of (slot_rows table slot (number + j) n)) (bounds_of (lane_rows least greatest j n))
  unfolding lane_rows slot_rows bounds_of
  lanes_joined least greatest least' greatest' j zero each = sym (joined_same empty_row)
  lanes_joined least greatest least' greatest' j (suc n) each =
      let e : number + suc j ≡ suc (number + j) = omega arith in
      ap₂ joined (each j (omega arith) (omega arith))
      (lanes_joined least greatest least' greatest' (suc j) n (λ i h k. each i (omega arith) (omega arith))
      ∙ ap (λ (x : ℕ). joined (bounds_of (slot_rows table slot x n)) (bounds_of (lane_rows least greatest (suc j) n))) e)
      ∙ joined_across (row_at table slot (number + j)) (lane_row least greatest j) (bounds_of (slot_rows table slot (suc (number + j)) n)) (bounds_of (lane_rows least greatest (suc j) n))

  -- a block folded: the bounds of the lanes take in those of its rows
  block_folded :
      (least greatest least' greatest' : List ℤ)
      → length block_at ≡ lanes
      → length least ≡ lanes
      → length greatest ≡ lanes
      → Folded block_at least greatest least' greatest'
      → lane_bounds least' greatest' ≡ joined (bounds_of (slot_rows table slot number lane_row_count)) (lane_bounds least greatest)
  block_folded least greatest least' greatest' a b d h =
      lanes_joined least greatest least' greatest' 0 lane_row_count
      (λ i l k.
      ap₂ (λ (x y : List ℤ). lane_row x y i) h.as_least h.as_greatest
      ∙ lane_row-folded block_at least greatest a b d i k
      ∙ ap (λ (x : Row). joined x (lane_row least greatest i)) (row_of-block i k))
      ∙ ap (λ (x : ℕ). joined (bounds_of (slot_rows table slot x lane_row_count)) (lane_bounds least greatest)) (add-zero number)

-- ---- the rows of a slot taken in, block by block

-- lanes that have taken in the rows of a slot before a curve number
pub record Taken (table : List ℤ) (slot number : ℕ) (m : Lanes) : Type 0 where
  pub least_whole : length m.least ≡ lanes
  pub greatest_whole : length m.greatest ≡ lanes
  pub bounds_so_far : lane_bounds m.least m.greatest ≡ bounds_of (slot_rows table slot 0 number)

-- the bounds of one block of rows more
bounds_of-more : (table : List ℤ) (slot number : ℕ)
    → joined (bounds_of (slot_rows table slot number lane_row_count)) (bounds_of (slot_rows table slot 0 number)) ≡ bounds_of (slot_rows table slot 0 (number + lane_row_count))
bounds_of-more table slot number =
    let xs = slot_rows table slot 0 number in
    let ys = slot_rows table slot number lane_row_count in
    let z : 0 + number ≡ number = omega arith in
    let split = slot_rows_split table slot 0 number lane_row_count ∙ ap (λ (x : ℕ). xs ++ slot_rows table slot x lane_row_count) z in
    joined_comm (bounds_of ys) (bounds_of xs) ∙ sym (ap bounds_of split ∙ bounds_append xs ys)

pub block_taken :
    (table : List ℤ) (slot number : ℕ) (m m' : Lanes)
    → length (block_at table slot number) ≡ lanes
    → Taken table slot number m
    → Folded (block_at table slot number) m.least m.greatest m'.least m'.greatest
    → Taken table slot (number + lane_row_count) m'
block_taken table slot number m m' whole t h =
    record {
      least_whole = ap length h.as_least ∙ length-folded min_z (block_at table slot number) m.least ∙ t.least_whole;
      greatest_whole = ap length h.as_greatest ∙ length-folded max_z (block_at table slot number) m.greatest ∙ t.greatest_whole;
      bounds_so_far =
          block_folded table slot number m.least m.greatest m'.least m'.greatest whole t.least_whole t.greatest_whole h
          ∙ ap (joined (bounds_of (slot_rows table slot number lane_row_count))) t.bounds_so_far
          ∙ bounds_of-more table slot number;
    }
