-- What `replay::run` has taken of the chunks so far. The measure is how many bytes more it takes at most.
use Rattle.std.proofs.Common.{length, ◌-◌, ◌+◌, ◌≡◌}
use Rattle.replay.specs.Program.{Took}
use Rattle.replay.proofs.run.Given as goal

abbrev pub invariant-loop-taken : goal.invariant-loop-taken
invariant-loop-taken l = Took l.taken l.fn.buffers l.buffers × (l.most + length l.chunk ≡ 18446744073709551615)

abbrev pub decreases-loop-taken : goal.decreases-loop-taken
decreases-loop-taken l = l.most - l.taken
