-- The set is read in the phase's slot.
-- Assumes nothing.
use Rattle.rows.proofs.PhasesLaws.{slot_on}
use Rattle.asking.proofs.read_in.Goals as goal

pub read_cells-requires : goal.read_cells-requires
read_cells-requires c = record {
  store = c.requires.is_store;
  one_of_three = rw c.slot_of.ensures (slot_on c.args.p);
  one_each = c.told-marks;
  room = c.requires.room;
  small = c.requires.small;
}
