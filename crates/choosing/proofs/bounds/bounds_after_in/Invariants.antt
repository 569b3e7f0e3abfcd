-- The bounds are those after all cells of the rows before `row`, and with the cells left these are k.
use Rattle.std.proofs.Common.{◌≡◌, ◌+◌, ◌≤◌}
use Rattle.methods.specs.BoundsInOnePass.{bounds_after}
use Rattle.choosing.specs.Bounds.{cells_before}
use Rattle.choosing.specs.Slot.{rows_in}
use Rattle.choosing.proofs.bounds.bounds_after_in.Given as goal

abbrev pub invariant-loop-left : goal.invariant-loop-left
invariant-loop-left l = record {
  on_from : l.b.first_row ≤ l.row;
  so_many : cells_before l.b l.row + l.left ≡ l.k;
  so_far : l.bounds ≡ bounds_after (cells_before l.b l.row) (rows_in l.rows) l.b;
}

abbrev pub decreases-loop-left : goal.decreases-loop-left
decreases-loop-left l = l.left
