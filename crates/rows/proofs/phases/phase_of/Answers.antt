-- From 0 up the division rounds down, and below 0 the phase is 0.
use Rattle.std.proofs.Common.{arith}
use Rattle.std.proofs.lemmas.Int.{to_z-of_z}
use Rattle.rows.specs.Phases.{phase_of}
use Rattle.rows.proofs.phases.phase_of.Goals as goal

pub returns-then-t-lt0 : goal.returns-then-t-lt0
unfolding phase_of
returns-then-t-lt0 c = grind (arith, to_z-of_z)

pub returns : goal.returns
unfolding phase_of
returns c = grind (arith, to_z-of_z)
