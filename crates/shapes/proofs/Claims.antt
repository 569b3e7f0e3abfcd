-- The claims on the four shapes, for every order. A shape is the curve, turned: part by part, the part of the shape is the curve's part there, turned as the
-- whole is. What holds of the curve then holds of each shape, since a turn is undone by itself and keeps sides.
-- Assumes nothing.
use mathlib.Core.Path.{◌≡◌, refl, sym, ap, ap₂, ◌∙◌}
use Prim.Native.Nat.{ℕ, zero, suc, ◌+◌, ◌-◌, ◌/◌, ◌%◌, ◌^◌}
use native.Mathlib.Omega.{arith}
use Rattle.ints.specs.Visits.{VisitedOnce}
use Rattle.grid.specs.Curve.{after, entered, in_whole, number_at, cell_at, apart}
use Rattle.grid.specs.declared.Cell.{Cell}
use Rattle.grid.proofs.PlacesLaws.{one_cell}
use Rattle.shapes.specs.Shapes.{Shape, ShapeA, ShapeB, ShapeC, ShapeD, part_of, placed_at, visit}
use Rattle.shapes.specs.Claims.{OnSquare, cell_count, ShapeAIsQuadrantRule, turned, ShapesAreTurned, OneVisitPerCell, NeighboursShareASide}
use Rattle.shapes.proofs.Turns.{turned_on, turned_back, apart_turned}
use Rattle.shapes.proofs.Squares.{twice}
use Rattle.shapes.proofs.Curve as Curve

-- one part: the j-th of the shape is the curve's j-th quadrant, turned as the whole is
turned_part :
    (f : Shape) (j s : ℕ) {c : Cell}
    → OnSquare s c
    → placed_at (part_of f j).corner s (turned (part_of f j).shape s c) ≡ turned f (s + s) (in_whole (after j) s (entered (after j) s c))
unfolding part_of
turned_part ShapeA zero s o = let x = o.column_on in let y = o.row_on in one_cell (omega arith) (omega arith)
turned_part ShapeA (suc zero) s o = let x = o.column_on in let y = o.row_on in one_cell (omega arith) (omega arith)
turned_part ShapeA (suc (suc zero)) s o = let x = o.column_on in let y = o.row_on in one_cell (omega arith) (omega arith)
turned_part ShapeA (suc (suc (suc j))) s o = let x = o.column_on in let y = o.row_on in one_cell (omega arith) (omega arith)
turned_part ShapeB zero s o = let x = o.column_on in let y = o.row_on in one_cell (omega arith) (omega arith)
turned_part ShapeB (suc zero) s o = let x = o.column_on in let y = o.row_on in one_cell (omega arith) (omega arith)
turned_part ShapeB (suc (suc zero)) s o = let x = o.column_on in let y = o.row_on in one_cell (omega arith) (omega arith)
turned_part ShapeB (suc (suc (suc j))) s o = let x = o.column_on in let y = o.row_on in one_cell (omega arith) (omega arith)
turned_part ShapeC zero s o = let x = o.column_on in let y = o.row_on in one_cell (omega arith) (omega arith)
turned_part ShapeC (suc zero) s o = let x = o.column_on in let y = o.row_on in one_cell (omega arith) (omega arith)
turned_part ShapeC (suc (suc zero)) s o = let x = o.column_on in let y = o.row_on in one_cell (omega arith) (omega arith)
turned_part ShapeC (suc (suc (suc j))) s o = let x = o.column_on in let y = o.row_on in one_cell (omega arith) (omega arith)
turned_part ShapeD zero s o = let x = o.column_on in let y = o.row_on in one_cell (omega arith) (omega arith)
turned_part ShapeD (suc zero) s o = let x = o.column_on in let y = o.row_on in one_cell (omega arith) (omega arith)
turned_part ShapeD (suc (suc zero)) s o = let x = o.column_on in let y = o.row_on in one_cell (omega arith) (omega arith)
turned_part ShapeD (suc (suc (suc j))) s o = let x = o.column_on in let y = o.row_on in one_cell (omega arith) (omega arith)

pub shapes_are_turned : ShapesAreTurned
unfolding visit cell_at
shapes_are_turned zero ShapeA n = refl
shapes_are_turned zero ShapeB n = refl
shapes_are_turned zero ShapeC n = refl
shapes_are_turned zero ShapeD n = refl
shapes_are_turned (suc k) f n =
    let s = 2 ^ k in
    let j = n / cell_count k in
    let r = n % cell_count k in
    ap (placed_at (part_of f j).corner s) (shapes_are_turned k (part_of f j).shape r)
    ∙ turned_part f j s (Curve.cell_on k r)
    ∙ ap (λ (w : ℕ). turned f w (in_whole (after j) s (entered (after j) s (cell_at k r)))) (sym (twice k))

pub shape_a_is_quadrant_rule : ShapeAIsQuadrantRule
shape_a_is_quadrant_rule k = record {
  cell_visited = λ c on. shapes_are_turned k ShapeA (number_at k c) ∙ Curve.cell_of_its_number k c on;
  number_visited = λ n h. ap (number_at k) (shapes_are_turned k ShapeA n) ∙ Curve.number_of_its_cell k n h;
}

-- ---- what holds of the curve holds of each shape

visit_on : (k : ℕ) (f : Shape) (n : ℕ) → OnSquare (2 ^ k) (visit k f n)
visit_on k f n = rw (shapes_are_turned k f n) (turned_on f (2 ^ k) (Curve.cell_on k n))

-- the curve's cell of the same number
turned_visit : (k : ℕ) (f : Shape) (n : ℕ) → turned f (2 ^ k) (visit k f n) ≡ cell_at k n
turned_visit k f n = ap (turned f (2 ^ k)) (shapes_are_turned k f n) ∙ turned_back f (2 ^ k) (Curve.cell_on k n)

visited_once : (k : ℕ) (f : Shape) (c : Cell) → OnSquare (2 ^ k) c → VisitedOnce (cell_count k) (visit k f) c
visited_once k f c on =
    let s = 2 ^ k in
    let t = turned f s c in
    let on' = turned_on f s on in
    record {
      number = number_at k t;
      below = Curve.number_below k t on';
      visits = shapes_are_turned k f (number_at k t) ∙ ap (turned f s) (Curve.cell_of_its_number k t on') ∙ turned_back f s on;
      only = λ n h e. sym (Curve.number_of_its_cell k n h) ∙ ap (number_at k) (sym (turned_visit k f n) ∙ ap (turned f s) e);
    }

pub one_visit_per_cell : OneVisitPerCell
one_visit_per_cell k f = record { on_square = visit_on k f; once = visited_once k f }

pub neighbours_share_a_side : NeighboursShareASide
neighbours_share_a_side k f n h =
    ap₂ apart (shapes_are_turned k f n) (shapes_are_turned k f (n + 1))
    ∙ apart_turned f (2 ^ k) (Curve.cell_on k n) (Curve.cell_on k (n + 1))
    ∙ Curve.neighbours_share_a_side k n h
