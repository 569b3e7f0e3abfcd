-- The bounds of the lanes are those of the rows before the block.
use Rattle.std.proofs.Common.{◌*◌}
use Rattle.lanes.specs.Lanes.{lane_row_count}
use Rattle.lanes.proofs.BoundsLaws.{Taken}
use Rattle.lanes.proofs.bounds.slot_bounds.Given as goal

abbrev pub invariant-loop-block : goal.invariant-loop-block
invariant-loop-block l = Taken l.table l.slot (lane_row_count * l.block) l.lanes
