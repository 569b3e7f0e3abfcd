-- Each test is made only where those before it passed.
use Rattle.std.proofs.Common.{arith}
use Rattle.std.proofs.lemmas.Int.{to_z-of_z}
use Rattle.grid.specs.Moments.{meeting}
use Rattle.grid.proofs.moments.meet.Goals as goal

pub returns-then-in_turn : goal.returns-then-in_turn
unfolding meeting
returns-then-in_turn c = grind (arith, to_z-of_z)

pub returns-else-in_turn : goal.returns-else-in_turn
unfolding meeting
returns-else-in_turn c = grind (arith, to_z-of_z)
