-- None is listed before its report; from then on the kind of query decides.
use Rattle.std.proofs.Common.{arith}
use Rattle.std.proofs.lemmas.Int.{to_z-of_z}
use Rattle.grid.specs.Reports.{is_listed}
use Rattle.grid.proofs.Report.is_listed.Goals as goal

pub returns-then-self-last : goal.returns-then-self-last
unfolding is_listed
returns-then-self-last c = grind (arith, to_z-of_z)

pub returns-else-self-last : goal.returns-else-self-last
unfolding is_listed
returns-else-self-last c = grind (arith, to_z-of_z)
