-- By the sign of the speed; the numbers are small, so no difference wraps.
use Rattle.std.proofs.Common.{arith}
use Rattle.std.proofs.lemmas.Int.{ints, to_z-of_z}
use Rattle.grid.specs.Moments.{passage_of}
use Rattle.grid.proofs.moments.Passage.of.Goals as goal

pub returns-then-v-ge0 : goal.returns-then-v-ge0
unfolding passage_of
returns-then-v-ge0 c = grind (arith, ints, to_z-of_z)

pub returns-else-v-ge0 : goal.returns-else-v-ge0
unfolding passage_of
returns-else-v-ge0 c = grind (arith, ints, to_z-of_z)
