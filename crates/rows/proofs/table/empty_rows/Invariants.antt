-- Every row before row i is empty.
use Rattle.std.proofs.Common.{◌≡◌, ℕ, ◌*◌, ◌<◌}
use Rattle.rows.specs.Row.{empty_row}
use Rattle.rows.specs.Table.{row_from}
use Rattle.rows.proofs.table.empty_rows.Given as goal

abbrev pub invariant-loop-i : goal.invariant-loop-i
invariant-loop-i l = (j : ℕ) → j < l.i → row_from l.words (4 * j) ≡ empty_row
