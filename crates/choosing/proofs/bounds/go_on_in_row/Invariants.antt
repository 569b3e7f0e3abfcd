-- The bounds are those after all cells of the rows before and the cells done of this row.
use Rattle.std.proofs.Common.{◌≡◌, ◌+◌}
use Rattle.methods.specs.BoundsInOnePass.{bounds_after}
use Rattle.choosing.specs.Bounds.{cells_before}
use Rattle.choosing.specs.Slot.{rows_in}
use Rattle.choosing.proofs.bounds.go_on_in_row.Given as goal

abbrev pub invariant-loop-done : goal.invariant-loop-done
invariant-loop-done l = l.bounds ≡ bounds_after (cells_before l.b l.row + l.done) (rows_in l.rows) l.b
