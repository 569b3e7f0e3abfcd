-- The lesser of the low ends, the greater of the high ends.
use Rattle.std.proofs.Common.{◌∙◌}
use mir.Syntax.{w64}
use Rattle.std.specs.Int.{int_min, int_max}
use Rattle.ints.proofs.Machine.{called₂}
use Rattle.reaching.proofs.ReachingLaws.{same_range, least_is, greatest_is}
use Rattle.reaching.proofs.windows.around_ranges.Goals as goal

pub returns : goal.returns
returns c = same_range
    (search (called₂ w64 int_min) ∙ least_is c.args.a.low c.args.b.low)
    (search (called₂ w64 int_max) ∙ greatest_is c.args.a.high c.args.b.high)
