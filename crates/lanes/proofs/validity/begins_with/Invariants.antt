-- The flag says whether the numbers before j are the same.
use Rattle.std.proofs.Common.{◌≡◌}
use Rattle.lanes.specs.Validity.{same_up_to}
use Rattle.lanes.proofs.validity.begins_with.Given as goal

abbrev pub invariant-loop-j : goal.invariant-loop-j
invariant-loop-j l = l.same ≡ same_up_to l.j l.words l.block
