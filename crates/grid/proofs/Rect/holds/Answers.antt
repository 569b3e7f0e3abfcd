-- A position is in a rectangle where both its coordinates are in the ranges.
use Rattle.std.proofs.Common.{arith}
use Rattle.std.proofs.lemmas.Int.{to_z-of_z}
use Rattle.grid.specs.Reports.{in_rect}
use Rattle.grid.proofs.Rect.holds.Goals as goal

pub returns-then-holds : goal.returns-then-holds
unfolding in_rect
returns-then-holds c = grind (arith, to_z-of_z)

pub returns-else-holds : goal.returns-else-holds
unfolding in_rect
returns-else-holds c = grind (arith, to_z-of_z)
