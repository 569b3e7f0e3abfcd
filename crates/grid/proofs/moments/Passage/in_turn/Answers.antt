-- Neither product wraps.
use Rattle.std.proofs.Common.{arith}
use Rattle.std.proofs.lemmas.Int.{to_z-of_z}
use Rattle.grid.proofs.SmallLaws.{multiplied}
use Rattle.grid.proofs.moments.Passage.in_turn.Goals as goal

pub returns : goal.returns
returns c = grind (arith, to_z-of_z, multiplied)
