-- What `replay::answer_chunk` has taken: the bytes before `from`. The measure is what is left of the chunk.
use Rattle.std.proofs.Common.{length, ◌-◌}
use Rattle.replay.specs.Program.{TakesFirst}
use Rattle.replay.proofs.answer_chunk.Given as goal

abbrev pub invariant-loop-from : goal.invariant-loop-from
invariant-loop-from l = TakesFirst l.from l.chunk l.fn.buffers l.buffers

abbrev pub decreases-loop-from : goal.decreases-loop-from
decreases-loop-from l = length l.chunk - l.from
