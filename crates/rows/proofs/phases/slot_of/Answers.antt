-- The remainder by 3.
use mathlib.Core.Path.{refl}
use Rattle.rows.specs.Phases.{slot_of}
use Rattle.rows.proofs.phases.slot_of.Goals as goal

pub returns : goal.returns
unfolding slot_of
returns c = refl
