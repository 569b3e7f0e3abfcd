-- A shape drawn in a square: its cells numbered in the order of its visit.
-- Assumes nothing.
use Rattle.std.specs.Prelude.{List, ℕ, zero, suc, ◌+◌, set}
use Rattle.shapes.specs.Shapes.{Shape, visit}
use Rattle.shapes.specs.Claims.{cell_count}
use Rattle.drawing.specs.Squares.{table_place}
use Rattle.drawing.specs.declared.squares.Square.{Square}

-- a table with the first n cells of a shape numbered
unfoldable pub numbered : Shape → Square → ℕ → List ℕ → List ℕ
numbered f square zero table = table
numbered f square (suc n) table =
    set (numbered f square n table) (table_place square (visit square.order f n)) (square.first + n)

-- with all of them
abbrev pub drawn : Shape → Square → List ℕ → List ℕ
drawn f square = numbered f square (cell_count square.order)
