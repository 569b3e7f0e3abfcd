-- The lane rows from j on are joined.
use Rattle.std.proofs.Common.{◌≡◌}
use Rattle.lanes.proofs.BoundsLaws.{bounds_from}
use Rattle.lanes.proofs.bounds.Lanes.join.Given as goal

abbrev pub invariant-loop-j : goal.invariant-loop-j
invariant-loop-j l = l.bounds ≡ bounds_from l.self.least l.self.greatest l.j
