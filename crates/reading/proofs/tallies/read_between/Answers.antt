-- The words of those records are one part of the store.
-- Assumes nothing.
use Rattle.std.proofs.Common.{arith}
use Rattle.records.proofs.PlacesLaws.{store_room}
use Rattle.reading.proofs.TalliesLaws.{run_fits, run_read}
use Rattle.reading.proofs.tallies.read_between.Goals as goal

pub part_of-requires : goal.part_of-requires
part_of-requires c = record { ordered = c.requires.ordered; few = omega (arith, c.requires.inside, store_room _ c.requires.store) }

pub offset_bounds-store-part_of : goal.offset_bounds-store-part_of
offset_bounds-store-part_of c = omega (arith, store_room _ c.requires.store, c.requires, c.part_of.ensures)

pub slice_bounds-read_run-end : goal.slice_bounds-read_run-end
slice_bounds-read_run-end c = omega (arith, store_room _ c.requires.store, c.requires, c.part_of.ensures)

pub read_run-requires : goal.read_run-requires
read_run-requires c = run_fits _ _ _ _ _ _ c.requires c.part_of.ensures

pub returns : goal.returns
returns c = run_read _ _ _ _ _ _ c.requires c.part_of.ensures _ _ _ c.read_run.ensures
