-- The rows that the methods choose by, as a lent table has them: those of one of its slots.
-- Assumes nothing.
use Rattle.std.specs.Prelude.{List, ℕ, ℤ}
use Rattle.grid.specs.Curve.{curve_number}
use Rattle.rows.specs.Table.{row_at}
use Rattle.methods.specs.Methods.{Rows}

-- the rows of a slot, by cell
abbrev pub rows_of_slot : List ℤ → ℕ → Rows
rows_of_slot table slot c = row_at table slot (curve_number c)
