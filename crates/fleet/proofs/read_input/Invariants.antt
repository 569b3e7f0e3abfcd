-- What `fleet::read_input` holds fits. The measure is the room that is left.
use Rattle.std.proofs.Common.{length, ◌-◌, ◌≤◌}
use Rattle.fleet.proofs.read_input.Given as goal

abbrev pub invariant-loop-held : goal.invariant-loop-held
invariant-loop-held l = l.held ≤ length l.input

abbrev pub decreases-loop-held : goal.decreases-loop-held
decreases-loop-held l = length l.input - l.held
