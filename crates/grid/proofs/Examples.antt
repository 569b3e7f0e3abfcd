-- P1 to P10 hold of the definitions jointly: one tabled fact, which antt computes.
-- Assumes nothing.
use mathlib.Core.Path.{refl}
use Rattle.ints.specs.Examples.{AllAsSaid}
use Rattle.grid.specs.Places.{column_of}
use Rattle.grid.specs.Curve.{number_at}
use Rattle.grid.specs.Examples.{examples}

pub all_as_said : AllAsSaid examples
unfolding examples column_of number_at
all_as_said = refl
