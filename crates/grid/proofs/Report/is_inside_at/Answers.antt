-- The position at the time is tested against the rectangle.
use Rattle.std.proofs.Common.{arith}
use Rattle.std.proofs.lemmas.Int.{to_z-of_z}
use Rattle.grid.specs.Reports.{inside_at}
use Rattle.grid.proofs.Report.is_inside_at.Goals as goal

pub returns : goal.returns
unfolding inside_at
returns c = grind (arith, to_z-of_z)
