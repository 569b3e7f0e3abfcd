-- The rows of a slot by curve number are those of the whole grid.
use Rattle.std.proofs.Common.{◌∙◌}
use Rattle.choosing.proofs.BoundsLaws.{phase_bounds_are}
use Rattle.choosing.proofs.bounds.phase_bounds.Goals as goal

pub returns : goal.returns
returns c = c.slot_bounds.ensures ∙ phase_bounds_are c.args.table.now c.args.slot
