-- A square of the grid that a shape is drawn in: where its cells stand in the table, and its quarters.
-- Assumes nothing.
use Rattle.std.specs.Prelude.{ℕ, ◌+◌, ◌-◌, ◌*◌, ◌^◌}
use Rattle.grid.specs.Units.{order, side}
use Rattle.grid.specs.declared.Cell.{Cell}
use Rattle.drawing.specs.declared.squares.Square.{Square}

-- the place in the table of a cell of the square, counted from the square's start
abbrev pub table_place : Square → Cell → ℕ
table_place square c = (square.row + c.row) * side + (square.column + c.column)

-- the quarter at a corner, visited as the part of this number
abbrev pub quarter_of : Square → ℕ → Cell → Square
quarter_of square part corner =
    let s = 2 ^ (square.order - 1) in
    record {
      order = square.order - 1;
      column = square.column + corner.column * s;
      row = square.row + corner.row * s;
      first = square.first + part * (s * s);
    }

-- the grid itself
abbrev pub grid_square : Square
grid_square = record { order = order; column = 0; row = 0; first = 0 }
