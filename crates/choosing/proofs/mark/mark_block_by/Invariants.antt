-- The cells of the rows from `row` on are left to mark.
use Rattle.std.proofs.Common.{◌≡◌, length}
use Rattle.grid.specs.Units.{cells}
use Rattle.methods.specs.Reach.{cells_of}
use Rattle.choosing.proofs.MarkPassesLaws.{rows_from}
use Rattle.choosing.proofs.MarkLaws.{Left}
use Rattle.choosing.proofs.mark.mark_block_by.Given as goal

abbrev pub invariant-loop-row : goal.invariant-loop-row
invariant-loop-row l = record {
  one_each : length l.marks ≡ cells;
  left : Left l.initial.marks (cells_of l.b) l.marks (rows_from l.b l.row);
}
