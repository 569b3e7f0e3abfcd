-- The sum is small, so it is read back as it is.
use Rattle.std.proofs.Common.{arith}
use Rattle.std.proofs.lemmas.Int.{ints}
use Rattle.rows.specs.Phases.{reference_time}
use Rattle.rows.proofs.phases.reference_time.Goals as goal

pub returns : goal.returns
unfolding reference_time
returns c = omega (arith, ints)
