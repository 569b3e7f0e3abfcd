-- The position along y, as the definition has it.
use Rattle.std.proofs.Common.{arith}
use Rattle.std.proofs.lemmas.Int.{to_z-of_z}
use Rattle.grid.specs.Reports.{y_at}
use Rattle.grid.proofs.Report.y_at.Goals as goal

pub returns : goal.returns
unfolding y_at
returns c = grind (arith, to_z-of_z)
