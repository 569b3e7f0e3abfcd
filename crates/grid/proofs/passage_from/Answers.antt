-- What the two calls gave back is small.
use Rattle.std.proofs.Common.{arith}
use Rattle.std.proofs.lemmas.Int.{to_z-of_z}
use Rattle.grid.proofs.SmallLaws.{from_small}
use Rattle.grid.proofs.passage_from.Goals as goal

pub of-requires : goal.of-requires
of-requires c = from_small _ _ c.requires (grind (arith, to_z-of_z)) (grind (arith, to_z-of_z))
