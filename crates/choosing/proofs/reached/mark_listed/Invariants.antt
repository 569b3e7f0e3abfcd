-- What meets of the listed places that are left is left to mark.
use Rattle.std.proofs.Common.{◌≡◌, length, drop}
use Rattle.grid.specs.Units.{cells}
use Rattle.methods.specs.Aims.{aim_of}
use Rattle.choosing.specs.Reached.{meeting, Bits}
use Rattle.choosing.specs.Slot.{rows_in}
use Rattle.choosing.proofs.MarkLaws.{Left}
use Rattle.choosing.proofs.reached.mark_listed.Given as goal

abbrev pub invariant-loop-place : goal.invariant-loop-place
invariant-loop-place l = record {
  one_each : length l.marks ≡ cells;
  bits : Bits l.marks;
  left : Left l.initial.marks (meeting (rows_in l.rows) (aim_of l.view) l.listed) l.marks (meeting (rows_in l.rows) (aim_of l.view) (drop l.place-index l.listed));
}
