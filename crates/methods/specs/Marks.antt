-- A set of cells as marks by curve number: what choosing hands to the reading of the store.
-- Assumes nothing.
use Rattle.std.specs.Prelude.{List, [], ◌∷◌, ℕ, set, replicate}
use Rattle.grid.specs.Units.{cells}
use Rattle.grid.specs.Curve.{curve_number}
use Rattle.grid.specs.declared.Cell.{Cell}

-- the marks with those of some cells set
unfoldable pub with_cells : List ℕ → List Cell → List ℕ
with_cells marks [] = marks
with_cells marks (c ∷ cs) = with_cells (set marks (curve_number c) 1) cs

-- the marks of a set of cells, by curve number
abbrev pub marks_of : List Cell → List ℕ
marks_of = with_cells (replicate cells 0)
