-- The product does not wrap.
use Rattle.std.proofs.Common.{arith}
use Rattle.std.proofs.lemmas.Int.{to_z-of_z}
use Rattle.grid.proofs.SmallLaws.{gone}
use Rattle.grid.proofs.moments.Passage.in_time.Goals as goal

pub returns-then-self-d : goal.returns-then-self-d
returns-then-self-d c = grind (arith, to_z-of_z, gone)

pub returns-else-self-d : goal.returns-else-self-d
returns-else-self-d c = grind (arith, to_z-of_z, gone)
