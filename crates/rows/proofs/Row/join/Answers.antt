-- Each number is the lesser or the greater of two.
use Rattle.std.proofs.Common.{arith}
use Rattle.std.proofs.lemmas.Int.{to_z-of_z}
use Rattle.ints.proofs.Library.{min-is, max_is}
use Rattle.rows.specs.Row.{joined}
use Rattle.rows.proofs.Row.join.Goals as goal

pub returns : goal.returns
unfolding joined
returns c = grind (arith, to_z-of_z, min-is, max_is)
