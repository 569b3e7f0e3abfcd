-- A shape drawn in a square: of one cell; of four quarters, one after the other; and what stands in the table then. A place is numbered once, since a
-- shape visits each cell once.
-- Assumes nothing.
use mathlib.Core.Path.{◌≡◌, refl, sym, ap, ap₂, ◌∙◌}
use mathlib.Core.List.{List}
use mathlib.Core.Logic.{dite}
use Prim.Native.Nat.{ℕ, zero, suc, ◌+◌, ◌-◌, ◌*◌, ◌^◌, ◌≤◌, ◌<◌}
use native.Mathlib.Nat.{add-zero, zero-add, add-suc}
use native.Mathlib.Decide.{ℕ_discrete}
use native.Mathlib.Omega.{arith}
use lib.ListN.{length, get_or, set, length-set}
use lib.Dec.{lit≤}
use lib.Seq.{get_or-set_same, get_or-set_other}
use Rattle.grid.specs.Units.{order, side, cells}
use Rattle.grid.specs.Places.{OnGrid}
use Rattle.grid.specs.Curve.{cell, curve_number, IsCurve}
use Rattle.grid.specs.declared.Cell.{Cell}
use Rattle.grid.proofs.PlacesLaws.{one_cell}
use Rattle.grid.proofs.CurveLaws.{number_below}
use Rattle.shapes.specs.Shapes.{Shape, ShapeA, part_of, placed_at, visit}
use Rattle.shapes.specs.Claims.{OnSquare, cell_count}
use Rattle.shapes.proofs.Claims.{one_visit_per_cell, shape_a_is_quadrant_rule}
use Rattle.shapes.proofs.Parts.{visit_part}
use Rattle.drawing.specs.Squares.{table_place, quarter_of, grid_square}
use Rattle.drawing.specs.Needs.{Fits}
use Rattle.drawing.specs.Drawn.{numbered, drawn}
use Rattle.drawing.specs.declared.squares.Square.{Square}
use Rattle.drawing.proofs.SquaresLaws.{half, next_order, four_parts}

module _ (f : Shape) (square : Square) (table : List ℕ) where
  pub drawn_cell : square.order ≡ 0 → drawn f square table ≡ set table (table_place square (cell 0 0)) square.first
  unfolding numbered visit
  drawn_cell e =
      ap (λ (k : ℕ). numbered f square (cell_count k) table) e
      ∙ ap₂ (λ (k n : ℕ). set table (table_place square (visit k f 0)) n) e (add-zero square.first)

-- ---- four quarters

-- a cell of a quarter has one place, counted from the square's start or from the quarter's
place_in_quarter : (square : Square) (part : ℕ) (corner c : Cell) → table_place square (placed_at corner (half square) c) ≡ table_place (quarter_of square part corner) c
place_in_quarter square part corner c =
    let s = half square in
    let u : square.column + (corner.column * s + c.column) ≡ square.column + corner.column * s + c.column = omega arith in
    let v : square.row + (corner.row * s + c.row) ≡ square.row + corner.row * s + c.row = omega arith in
    ap₂ (λ (row column : ℕ). row * side + column) v u

module _ (f : Shape) (square : Square) (more : 0 < square.order) (table : List ℕ) where
  -- the cells of a part
  abbrev few : ℕ
  few = cell_count (square.order - 1)

  abbrev quarter_at : ℕ → Square
  quarter_at j = quarter_of square j (part_of f j).corner

  place_of : (j m : ℕ) → m < few → table_place square (visit square.order f (j * few + m)) ≡ table_place (quarter_at j) (visit (square.order - 1) (part_of f j).shape m)
  place_of j m h =
      let k = square.order - 1 in
      ap (λ (i : ℕ). table_place square (visit i f (j * few + m))) (next_order square more)
      ∙ ap (table_place square) (visit_part k f j m h)
      ∙ place_in_quarter square j (part_of f j).corner (visit k (part_of f j).shape m)

  -- the first m cells of a part, after all the parts before it
  part_numbered : (j m : ℕ) → m ≤ few → numbered f square (j * few + m) table ≡ numbered (part_of f j).shape (quarter_at j) m (numbered f square (j * few) table)
  unfolding numbered
  part_numbered j zero h = ap (λ (n : ℕ). numbered f square n table) (add-zero (j * few))
  part_numbered j (suc m) h =
      let e : square.first + (j * few + m) ≡ square.first + j * few + m = omega arith in
      ap (λ (n : ℕ). numbered f square n table) (add-suc (j * few) m)
      ∙ ap₂ (λ (t : List ℕ) (i : ℕ). set t i (square.first + (j * few + m))) (part_numbered j m (omega arith)) (place_of j m (omega arith))
      ∙ ap (set (numbered (part_of f j).shape (quarter_at j) m (numbered f square (j * few) table)) (table_place (quarter_at j) (visit (square.order - 1) (part_of f j).shape m))) e

  -- a table with the parts before the j-th, and then with it
  next_part :
      (j n : ℕ) {square' : Square} {before after : List ℕ}
      → n ≡ j * few + few
      → square' ≡ quarter_at j
      → before ≡ numbered f square (j * few) table
      → after ≡ drawn (part_of f j).shape square' before
      → after ≡ numbered f square n table
  next_part j n e q b a =
      a
      ∙ ap₂ (drawn (part_of f j).shape) q b
      ∙ sym (part_numbered j few (omega arith))
      ∙ ap (λ (i : ℕ). numbered f square i table) (sym e)

  -- the four quarters drawn one after the other, from table to table
  pub drawn_in_four :
      {a b c d : Square} {one two three four : List ℕ}
      → a ≡ quarter_at 0
      → b ≡ quarter_at 1
      → c ≡ quarter_at 2
      → d ≡ quarter_at 3
      → one ≡ drawn (part_of f 0).shape a table
      → two ≡ drawn (part_of f 1).shape b one
      → three ≡ drawn (part_of f 2).shape c two
      → four ≡ drawn (part_of f 3).shape d three
      → four ≡ drawn f square table
  unfolding numbered
  drawn_in_four a b c d one two three four =
      let none : 0 ≡ 0 * few = omega arith in
      let start : table ≡ numbered f square (0 * few) table = ap (λ (i : ℕ). numbered f square i table) none in
      let all = four_parts square more in
      next_part 3 (cell_count square.order) (omega arith) d
      (next_part 2 (3 * few) (omega arith) c (next_part 1 (2 * few) (omega arith) b (next_part 0 (1 * few) (omega arith) a start one) two) three)
      four

-- ---- what stands in the table

module _ (square : Square) (fits : Fits square) where
  abbrev On : Cell → Type 0
  On = OnSquare (2 ^ square.order)

  place_below : {c : Cell} → On c → table_place square c < cells
  place_below on = omega (arith, fits.columns, fits.rows, on.column_on, on.row_on)

  -- no two cells share a place
  one_place : {a b : Cell} → On a → On b → table_place square a ≡ table_place square b → a ≡ b
  one_place {a} {b} o p e =
      let x = fits.columns in
      let u : a.column ≡ b.column = omega (arith, o.column_on, p.column_on) in
      let v : a.row ≡ b.row = omega arith in
      one_cell u v

  module _ (f : Shape) (table : List ℕ) (long : length table ≡ cells) where
    numbered_long : (n : ℕ) → length (numbered f square n table) ≡ cells
    unfolding numbered
    numbered_long zero = long
    numbered_long (suc n) = length-set (numbered f square n table) _ _ ∙ numbered_long n

    abbrev place : ℕ → ℕ
    place n = table_place square (visit square.order f n)

    on : (n : ℕ) → On (visit square.order f n)
    on = (one_visit_per_cell square.order f).on_square

    -- no two visits share a cell
    one_visit : (m n : ℕ) → m < cell_count square.order → n < cell_count square.order → place m ≡ place n → m ≡ n
    one_visit m n h l e =
        let same : visit square.order f m ≡ visit square.order f n = one_place (on m) (on n) e in
        let once = (one_visit_per_cell square.order f).once (visit square.order f n) (on n) in
        once.only m h same ∙ sym (once.only n l refl)

    numbered_at : (n m : ℕ) → n ≤ cell_count square.order → m < n → get_or (numbered f square n table) (place m) 0 ≡ square.first + m
    unfolding numbered
    numbered_at zero m h l = absurd (omega arith)
    numbered_at (suc n) m h l =
        let before = numbered f square n table in
        dite (ℕ_discrete m n)
        (λ e.
        ap (λ (i : ℕ). get_or (set before (place n) (square.first + n)) (place i) 0) e
        ∙ get_or-set_same before (place n) (square.first + n) 0 (rw (numbered_long n) (place_below (on n)))
        ∙ ap (λ (i : ℕ). square.first + i) (sym e))
        (λ other.
        get_or-set_other before (place n) (place m) (square.first + n) 0 (λ e. other (one_visit m n (omega arith) (omega arith) e))
        ∙ numbered_at n m (omega arith) (omega arith))

    -- the n-th cell visited has the n-th number
    pub drawn_at : (n : ℕ) → n < cell_count square.order → get_or (drawn f square table) (place n) 0 ≡ square.first + n
    drawn_at n h = numbered_at (cell_count square.order) n (omega arith) h

    pub drawn_long : length (drawn f square table) ≡ cells
    drawn_long = numbered_long (cell_count square.order)

-- ---- shape A in the whole grid

pub whole_fits : Fits grid_square
whole_fits = record { orders = lit≤ tt; columns = lit≤ tt; rows = lit≤ tt; numbers = lit≤ tt }

on_square : {c : Cell} → OnGrid c → OnSquare (2 ^ order) c
on_square on = record { column_on = on.column_on; row_on = on.row_on }

-- is the curve table, whatever stood there
pub drawn_is_curve : (blank : List ℕ) → length blank ≡ cells → IsCurve (drawn ShapeA grid_square blank)
drawn_is_curve blank long = record {
  numbered = λ c on.
      let n = curve_number c in
      let visits : visit order ShapeA n ≡ c = (shape_a_is_quadrant_rule order).cell_visited c (on_square on) in
      let place : table_place grid_square c ≡ c.row * side + c.column = omega arith in
      let table = drawn ShapeA grid_square blank in
      ap (λ (i : ℕ). get_or table i 0) (sym place)
      ∙ ap (λ (x : Cell). get_or table (table_place grid_square x) 0) (sym visits)
      ∙ drawn_at grid_square whole_fits ShapeA blank long n (number_below c on)
      ∙ zero-add n;
}
