-- What is left: the rows are valid exactly when those from row i on are.
use Rattle.std.proofs.Common.{◌≡◌, ◌/◌, length}
use Rattle.rows.specs.Table.{valid_rows}
use Rattle.lanes.proofs.ValidityLaws.{valid_from}
use Rattle.lanes.proofs.validity.rows_valid.Given as goal

abbrev pub invariant-loop-i : goal.invariant-loop-i
invariant-loop-i l = let n = length l.words / 4 in valid_rows n l.words ≡ valid_from l.words n l.i
