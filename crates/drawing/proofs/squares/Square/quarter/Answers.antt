-- A quarter is of a lower order and lies on the grid.
use Rattle.std.proofs.Common.{arith, refl}
use Rattle.drawing.proofs.SquaresLaws.{quarter_lower, quarter_fits}
use Rattle.drawing.proofs.squares.Square.quarter.Goals as goal

pub returns-clause-lower : goal.returns-clause-lower
returns-clause-lower c = quarter_lower c.args.self c.args.part c.args.corner refl refl (λ e. omega (arith, c.requires.more))

pub returns-clause-fits : goal.returns-clause-fits
returns-clause-fits c = rw c.side_of-side.ensures (quarter_fits c.args.self c.args.part c.args.corner c.requires)
