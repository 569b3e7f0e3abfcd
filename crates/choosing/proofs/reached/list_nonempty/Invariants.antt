-- What is listed and what passes of the places left are all that pass.
use Rattle.std.proofs.Common.{◌≡◌, length}
use Rattle.grid.specs.Units.{cells}
use Rattle.choosing.specs.Reached.{places, has_row}
use Rattle.choosing.specs.Slot.{rows_in}
use Rattle.choosing.proofs.ReachedLaws.{Growing, places_left}
use Rattle.choosing.proofs.reached.list_nonempty.Given as goal

abbrev pub invariant-loop-place : goal.invariant-loop-place
invariant-loop-place l = record {
  one_each : length l.full ≡ cells;
  grows : Growing (has_row (rows_in l.rows)) places l.full l.k (places_left l.place);
}
