-- the record goes and the table stays
use Rattle.std.proofs.Common.{rules}
use Rattle.words.proofs.WordsPlacedLaws.{taken_out_lem}
use Rattle.words.proofs.take_out.Goals as goal

pub returns : goal.returns
returns c = search (rules, taken_out_lem)
