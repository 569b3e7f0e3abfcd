-- A number from 0 to 3 is its size, and the least of it and 3.
use Rattle.std.proofs.Common.{arith}
use Rattle.std.proofs.lemmas.Int.{ints}
use Rattle.ints.proofs.Parts.{signed}
use Rattle.records.proofs.SoundnessRangeLaws.{between_from}
use Rattle.asking.proofs.method_of.Goals as goal

pub returns : goal.returns
returns c = let f = between_from 0 3 c.args.ask.method c.requires in omega (arith, ints, signed)
