-- One number more, told by its bits.
use mathlib.Core.Path.{refl}
use mir.Syntax.{w16}
use Rattle.std.proofs.Common.{rules}
use Rattle.ints.proofs.Library.{bits_equal}
use Rattle.lanes.specs.Validity.{same_up_to}
use Rattle.lanes.proofs.ValidityLaws.{same_more}
use Rattle.lanes.proofs.validity.begins_with.Goals as goal

pub loop-j-init : goal.loop-j-init
unfolding same_up_to
loop-j-init c = refl

pub loop-j-preserved : goal.loop-j-preserved
loop-j-preserved c = same_more _ _ _ _ _ c.loop-j.invariant (bits_equal {w = w16} (search rules) (search rules))
