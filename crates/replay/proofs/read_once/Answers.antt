-- `replay::read_once` meets its contract: what is answered are the bytes that came.
use Rattle.replay.proofs.ProgramLaws.{read_taken}
use Rattle.replay.proofs.read_once.Goals as goal

pub returns : goal.returns
returns c = let r = c.read_chunk-read in read_taken r.result r.new.chunk _ _ _ r.ensures c.answer_read.ensures
