-- What is kept and what passes of the listed places that are left are all that pass.
use Rattle.std.proofs.Common.{◌≡◌, length, drop}
use Rattle.grid.specs.Units.{cells}
use Rattle.choosing.specs.Reached.{may_meet}
use Rattle.choosing.specs.Slot.{rows_in}
use Rattle.choosing.proofs.ReachedLaws.{Growing}
use Rattle.choosing.proofs.reached.keep_columns.Given as goal

abbrev pub invariant-loop-place : goal.invariant-loop-place
invariant-loop-place l = record {
  one_each : length l.kept ≡ cells;
  grows : Growing (may_meet (rows_in l.rows) l.view) l.listed l.kept l.m (drop l.place-index l.listed);
}
