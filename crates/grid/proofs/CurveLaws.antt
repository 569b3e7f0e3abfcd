-- The curve of the grid (order 5): its two tables hold the quadrant rule's numbers and cells, it visits each cell once, and neighbours on it
-- share a side. ONE test, which antt computes over both tables, gives all of it; the laws below only read the test's parts.
-- Assumes nothing.
use mathlib.Core.Path.{◌≡◌, sym, ap, ◌∙◌}
use mathlib.Core.Bool.{Bool, true, false, ◌&&◌, ◌||◌}
use mathlib.Core.List.{List}
use mathlib.Core.Logic.{◌⊎◌, inl, inr, ⊎_elim}
use Prim.Native.Nat.{ℕ, suc, ◌+◌, ◌*◌, ◌/◌, ◌%◌, ◌<◌}
use native.Mathlib.Nat.{zero-add}
use native.Mathlib.Numerals.{add-one}
use native.Mathlib.Omega.{arith}
use lib.Dec.{T, eqb, eqb→eq, ltb, ltb→lt}
use lib.ListN.{length, get_or}
use lib.Seq.{ext_get_or}
use Rattle.grid.specs.Units.{side, cells}
use Rattle.grid.specs.Places.{same_cell, OnGrid}
use Rattle.grid.specs.Curve.{cell, number_at, cell_at, curve_number, cell_of_number, IsCurve, apart}
use Rattle.grid.specs.declared.Cell.{Cell}
use Rattle.grid.proofs.PlacesLaws.{one_cell}
use Rattle.grid.proofs.CurveEveryLaws.{left, right, at_place}
use Rattle.grid.proofs.CurveTables as Tables

-- the tables' place of a cell, and the cell of a place
abbrev pub place_of : Cell → ℕ
place_of c = c.row * side + c.column

abbrev pub cell_of_place : ℕ → Cell
cell_of_place k = cell (k % side) (k / side)

cells_agree : (a b : Cell) → T (same_cell a b) → a ≡ b
cells_agree a b t =
    one_cell
    (eqb→eq a.column b.column (left (eqb a.column b.column) (eqb a.row b.row) t))
    (eqb→eq a.row b.row (right (eqb a.column b.column) (eqb a.row b.row) t))

-- at place k: the entry is the number of its cell, is a number of the curve, and leads back to the cell
numbered : ℕ → Bool
numbered k =
    let n = get_or Tables.curve k 0 in
    eqb n (curve_number (cell_of_place k)) && (ltb n cells && same_cell (cell_of_number n) (cell_of_place k))

-- at number n: the entry is the place of its cell, the cell is on the grid and leads back to the number
visited : ℕ → Bool
visited n =
    let c = cell_of_number n in
    same_cell (cell_of_place (get_or Tables.cell n 0)) c && (ltb c.column side && (ltb c.row side && eqb (curve_number c) n))

-- at number n: the last one, or its cell shares a side with the next one's
joined : ℕ → Bool
joined n = eqb n 1023 || eqb (apart (cell_of_number n) (cell_of_number (suc n))) 1

test : ℕ → Bool
test k = numbered k && (visited k && joined k)

passed : (k : ℕ) → k < cells → T (test k)
unfolding Tables.curve Tables.cell test numbered visited joined number_at cell_at
passed k h = rw (zero-add k) at (at_place test cells 0 tt k h)

-- ---- the parts of the test

either : (a b : Bool) → T (a || b) → T a ⊎ T b
either true b t = inl tt
either false b t = inr t

module _ (k : ℕ) (h : k < cells) where
  numbered_here : T (numbered k)
  unfolding test
  numbered_here = left (numbered k) _ (passed k h)

  visited_here : T (visited k)
  unfolding test
  visited_here = left (visited k) _ (right (numbered k) _ (passed k h))

  joined_here : T (joined k)
  unfolding test
  joined_here = right (visited k) _ (right (numbered k) _ (passed k h))

  entry_is_number : get_or Tables.curve k 0 ≡ curve_number (cell_of_place k)
  unfolding numbered
  entry_is_number = eqb→eq _ _ (left (eqb (get_or Tables.curve k 0) _) _ numbered_here)

  entry_below : get_or Tables.curve k 0 < cells
  unfolding numbered
  entry_below = ltb→lt _ cells (left (ltb (get_or Tables.curve k 0) cells) _ (right (eqb (get_or Tables.curve k 0) _) _ numbered_here))

  entry_back : cell_of_number (get_or Tables.curve k 0) ≡ cell_of_place k
  unfolding numbered
  entry_back = cells_agree _ _ (right (ltb (get_or Tables.curve k 0) cells) _ (right (eqb (get_or Tables.curve k 0) _) _ numbered_here))

  -- what the cell table holds
  pub table_cell : cell_of_place (get_or Tables.cell k 0) ≡ cell_of_number k
  unfolding visited
  table_cell = cells_agree _ _ (left (same_cell _ (cell_of_number k)) _ visited_here)

  on : T (ltb (cell_of_number k).column side && (ltb (cell_of_number k).row side && eqb (curve_number (cell_of_number k)) k))
  unfolding visited
  on = right (same_cell (cell_of_place (get_or Tables.cell k 0)) (cell_of_number k)) _ visited_here

  -- each number's cell is on the grid
  pub cell_on_grid : OnGrid (cell_of_number k)
  cell_on_grid = record {
    column_on = ltb→lt _ side (left (ltb (cell_of_number k).column side) _ on);
    row_on = ltb→lt _ side (left (ltb (cell_of_number k).row side) _ (right (ltb (cell_of_number k).column side) _ on));
  }

  -- each number is the number of its cell
  pub number_of_its_cell : curve_number (cell_of_number k) ≡ k
  number_of_its_cell = eqb→eq _ k (right (ltb (cell_of_number k).row side) _ (right (ltb (cell_of_number k).column side) _ on))

-- ---- by cell

module _ (c : Cell) (on : OnGrid c) where
  place_below : place_of c < cells
  place_below = omega (arith, on.column_on, on.row_on)

  cell_of_its_place : cell_of_place (place_of c) ≡ c
  cell_of_its_place =
      let u : place_of c % side ≡ c.column = omega (arith, on.column_on) in
      let v : place_of c / side ≡ c.row = omega (arith, on.column_on) in
      one_cell u v

  -- what the curve table holds
  pub table_number : get_or Tables.curve (place_of c) 0 ≡ curve_number c
  table_number = entry_is_number (place_of c) place_below ∙ ap curve_number cell_of_its_place

  pub number_below : curve_number c < cells
  number_below = rw (← table_number) (entry_below (place_of c) place_below)

  -- each cell is the cell of its number, so no two cells share a number
  pub cell_of_its_number : cell_of_number (curve_number c) ≡ c
  cell_of_its_number = rw (← table_number) (entry_back (place_of c) place_below) ∙ cell_of_its_place

-- no two cells share a number
pub visits_once : (a b : Cell) → OnGrid a → OnGrid b → curve_number a ≡ curve_number b → a ≡ b
visits_once a b p q e = sym (cell_of_its_number a p) ∙ ap cell_of_number e ∙ cell_of_its_number b q

-- neighbours on the curve share a side
pub neighbours_share_a_side : (n : ℕ) → n + 1 < cells → apart (cell_of_number n) (cell_of_number (n + 1)) ≡ 1
unfolding joined
neighbours_share_a_side n h =
    ⊎_elim (λ t. absurd (let e : n ≡ 1023 = eqb→eq n 1023 t in omega arith))
    (λ t. rw add-one (eqb→eq _ 1 t))
    (either (eqb n 1023) _ (joined_here n (omega arith)))

-- two curve tables are the same
pub one_curve : (a b : List ℕ) → length a ≡ cells → length b ≡ cells → IsCurve a → IsCurve b → a ≡ b
one_curve a b long long' p q =
    ext_get_or 0 a b (long ∙ sym long')
    (λ i h.
    let c = cell_of_place i in
    let on : OnGrid c = record { column_on = omega arith; row_on = omega arith } in
    let place : i ≡ place_of c = omega arith in
    ap (λ (k : ℕ). get_or a k 0) place ∙ p.numbered c on ∙ sym (q.numbered c on) ∙ ap (λ (k : ℕ). get_or b k 0) (sym place))
