-- Where a float is at a time, the column and the row of a position, and the span of a cell: document 01, "Units and the places on the grid".
-- Assumes nothing.
use Rattle.std.specs.Prelude.{Bool, true, false, ◌&&◌, ℕ, ◌+◌, ◌-◌, ◌*◌, ◌<◌, eqb, ℤ, pos, ◌+ℤ◌, ◌*ℤ◌}
use Rattle.std.specs.Int.Signed.{le_z}
use Rattle.ints.specs.Whole.{floor_z, raised_or_lowered}
use Rattle.grid.specs.Units.{side, cell_size}
use Rattle.grid.specs.declared.Cell.{Cell}

-- where a float is along one axis, so many seconds after it was at x; before it where elapsed is below 0. Exact, and it may leave the sea
abbrev pub position_after : ℤ → ℤ → ℤ → ℤ
position_after x v elapsed = x +ℤ v *ℤ elapsed

-- the column of a position x: x / 262,144 rounded toward minus infinity, then raised to 0 or lowered to 31
unfoldable pub column_of : ℤ → ℕ
column_of x = raised_or_lowered (side - 1) (floor_z x cell_size)

-- rows likewise from y
abbrev pub row_of : ℤ → ℕ
row_of = column_of

abbrev pub cell_of : ℤ → ℤ → Cell
cell_of x y = record { column = column_of x; row = row_of y }

abbrev pub same_cell : Cell → Cell → Bool
same_cell a b = eqb a.column b.column && eqb a.row b.row

-- the cells that the grid has
pub record OnGrid (c : Cell) : Type 0 where
  pub column_on : c.column < side
  pub row_on : c.row < side

-- one end of a cell along an axis: a last centimetre, or none, where an edge cell reaches outward without end
pub data End : Type 0 where
  endless : End
  at : ℤ → End

pub record Span : Type 0 where
  pub low : End
  pub high : End

abbrev pub end_at : Bool → ℤ → End
end_at true z = endless
end_at false z = at z

-- the span of column i, or of row i: its low is 262,144 × i, its high 262,143 more, and the first has no low end, the last no high end
unfoldable pub cell_span : ℕ → Span
cell_span i = record {
  low = end_at (eqb i 0) (pos (cell_size * i));
  high = end_at (eqb i (side - 1)) (pos (cell_size * i + (cell_size - 1)));
}

abbrev pub not_below : End → ℤ → Bool
not_below endless z = true
not_below (at e) z = le_z e z

abbrev pub not_above : End → ℤ → Bool
not_above endless z = true
not_above (at e) z = le_z z e

-- whether a position lies in a span
unfoldable pub in_span : Span → ℤ → Bool
in_span s z = not_below s.low z && not_above s.high z

-- whether a position lies in a cell
abbrev pub in_cell : Cell → ℤ → ℤ → Bool
in_cell c x y = in_span (cell_span c.column) x && in_span (cell_span c.row) y
