-- The measure of `streams::Streams::write_out` is what is left to write.
use Rattle.std.proofs.Common.{length}
use Rattle.streams.proofs.Streams.write_told.Given as goal

abbrev pub decreases-loop-rest : goal.decreases-loop-rest
decreases-loop-rest l = length l.rest
