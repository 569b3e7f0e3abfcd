-- The two tests are those of the definition.
use Rattle.std.proofs.Common.{arith}
use Rattle.rows.specs.Phases.{is_live}
use Rattle.rows.proofs.phases.is_live.Goals as goal

pub returns : goal.returns
unfolding is_live
returns c = grind arith
