-- The cells from `column` on are left to mark.
use Rattle.std.proofs.Common.{◌≡◌, length}
use Rattle.grid.specs.Units.{cells}
use Rattle.choosing.proofs.MarkPassesLaws.{row_from}
use Rattle.choosing.proofs.MarkLaws.{Left}
use Rattle.choosing.proofs.mark.mark_row.Given as goal

abbrev pub invariant-loop-column : goal.invariant-loop-column
invariant-loop-column l = record {
  one_each : length l.marks ≡ cells;
  left : Left l.initial.marks (row_from l.fn.b l.row l.fn.b.first_column) l.marks (row_from l.fn.b l.row l.column);
}
