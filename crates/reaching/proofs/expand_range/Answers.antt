-- Each end is where a float was d seconds before, at the least or the greatest speed.
use Rattle.std.proofs.Common.{◌∙◌, true, false}
use mir.Syntax.{w64}
use Rattle.ints.proofs.Machine.{sign_taken}
use Rattle.reaching.proofs.ReachingLaws.{same_range, expanded_forward, expanded_backward, before_is}
use Rattle.reaching.proofs.expand_range.Goals as goal

pub returns-then-d-ge0 : goal.returns-then-d-ge0
returns-then-d-ge0 c =
    same_range (search before_is) (search before_is)
    ∙ expanded_forward c.args.range c.args.least c.args.greatest c.args.d (sign_taken w64 c.args.d true c.if-d-ge0.true c.ranges.d.sfits)

pub returns-else-d-ge0 : goal.returns-else-d-ge0
returns-else-d-ge0 c =
    same_range (search before_is) (search before_is)
    ∙ expanded_backward c.args.range c.args.least c.args.greatest c.args.d (sign_taken w64 c.args.d false c.if-d-ge0.false c.ranges.d.sfits)
