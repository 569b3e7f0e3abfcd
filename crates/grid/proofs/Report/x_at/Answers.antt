-- The position along x, as the definition has it.
use Rattle.std.proofs.Common.{arith}
use Rattle.std.proofs.lemmas.Int.{to_z-of_z}
use Rattle.grid.specs.Reports.{x_at}
use Rattle.grid.proofs.Report.x_at.Goals as goal

pub returns : goal.returns
unfolding x_at
returns c = grind (arith, to_z-of_z)
