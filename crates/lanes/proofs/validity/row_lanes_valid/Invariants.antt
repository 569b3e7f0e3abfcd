-- The flag says whether the lanes of the rows before row j are valid.
use Rattle.std.proofs.Common.{◌≡◌}
use Rattle.lanes.specs.Validity.{row_lanes_from}
use Rattle.lanes.proofs.validity.row_lanes_valid.Given as goal

abbrev pub invariant-loop-j : goal.invariant-loop-j
invariant-loop-j l = l.all ≡ row_lanes_from l.j 0 l.valid
