-- The seconds between two times are few, so no sum wraps.
use Rattle.std.proofs.Common.{arith}
use Rattle.std.proofs.lemmas.Int.{to_z-of_z}
use Rattle.grid.proofs.position_at.Goals as goal

pub returns : goal.returns
returns c = grind (arith, to_z-of_z)
