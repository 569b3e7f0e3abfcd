-- The last column has no high end, any other ends just before the next one starts.
use Rattle.std.proofs.Common.{arith}
use Rattle.std.proofs.lemmas.Int.{ints}
use Rattle.reaching.proofs.ReachingLaws.{high_end}
use Rattle.reaching.proofs.ends_from.Goals as goal

pub returns : goal.returns
returns c = high_end c.args.i _ c.args.z (omega (arith, ints)) c.ranges.z.sfits
