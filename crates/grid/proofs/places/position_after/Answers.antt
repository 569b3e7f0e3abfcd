-- The numbers are small, so neither the product nor the sum wraps.
use Rattle.std.proofs.Common.{arith}
use Rattle.std.proofs.lemmas.Int.{to_z-of_z}
use Rattle.grid.proofs.SmallLaws.{gone, position_fits}
use Rattle.grid.proofs.places.position_after.Goals as goal

pub returns : goal.returns
returns c = let total = position_fits c.requires in grind (arith, to_z-of_z, gone)
