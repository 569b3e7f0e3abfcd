-- What is claimed of the curve that is drawn: document 02, A1. The proof is in proofs/Claims.antt.
-- Assumes nothing.
use Rattle.std.specs.Prelude.{◌≡◌, List, ℕ, length}
use Rattle.grid.specs.Units.{cells}
use Rattle.grid.specs.Curve.{IsCurve}
use Rattle.shapes.specs.Shapes.{ShapeA}
use Rattle.drawing.specs.Squares.{grid_square}
use Rattle.drawing.specs.Drawn.{drawn}

-- the constant table is the case of order 5: shape A drawn in the whole grid, whatever stood in the table before, is the one table of 1,024 numbers that
-- has the quadrant rule's number of each cell, which is what crates/grid promises of its constant
abbrev pub ConstantTableIsDrawn : Type 0
ConstantTableIsDrawn =
    (constant before : List ℕ)
    → length constant ≡ cells
    → IsCurve constant
    → length before ≡ cells
    → drawn ShapeA grid_square before ≡ constant
