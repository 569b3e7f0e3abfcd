-- The first column has no low end, any other starts at 262,144 times its number.
use Rattle.std.proofs.Common.{arith}
use Rattle.std.proofs.lemmas.Int.{ints}
use Rattle.reaching.proofs.ReachingLaws.{low_end}
use Rattle.reaching.proofs.starts_by.Goals as goal

pub returns : goal.returns
returns c = low_end c.args.i _ c.args.z (omega (arith, ints)) c.ranges.z.sfits
