-- What the inner functions ask of their callers.
-- Assumes nothing.
use Rattle.std.specs.Prelude.{◌≡◌, List, ℕ, ◌+◌, ◌^◌, ◌≤◌, ◌<◌, length}
use Rattle.grid.specs.Units.{order, side, cells}
use Rattle.grid.specs.Curve.{IsCurve}
use Rattle.grid.specs.declared.Cell.{Cell}
use Rattle.shapes.specs.Claims.{cell_count}
use Rattle.drawing.specs.Chart.{line_bytes, chart_bytes}
use Rattle.drawing.specs.declared.squares.Square.{Square}

-- ---- squares and drawn

-- a square of the grid, with numbers of the curve
pub record Fits (square : Square) : Type 0 where
  pub orders : square.order ≤ order
  pub columns : square.column + 2 ^ square.order ≤ side
  pub rows : square.row + 2 ^ square.order ≤ side
  pub numbers : square.first + cell_count square.order ≤ cells

-- one that has quarters, and one of them
pub record Cuts (square : Square) (part : ℕ) (corner : Cell) : Type 0 where
  pub fits : Fits square
  pub more : 0 < square.order
  pub part_of : part < 4
  pub right_of : corner.column < 2
  pub upper_of : corner.row < 2

-- ---- chart

-- the numbers of one row, and room for their line from a place on
pub record LineRoom (at : ℕ) (numbers out : List ℕ) : Type 0 where
  pub long : length numbers ≡ side
  pub room : at + line_bytes ≤ length out

-- the curve table, and bytes for its text
pub record ChartRoom (numbers out : List ℕ) : Type 0 where
  pub long : length numbers ≡ cells
  pub curve : IsCurve numbers
  pub room : length out ≡ chart_bytes
