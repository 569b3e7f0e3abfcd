-- The visits that can be read off by hand are as said: one tabled fact, which antt computes.
-- Assumes nothing.
use mathlib.Core.Path.{refl}
use Rattle.ints.specs.Examples.{AllAsSaid}
use Rattle.shapes.specs.Shapes.{part_of, visit}
use Rattle.shapes.specs.Examples.{examples, visits}

pub all_as_said : AllAsSaid examples
unfolding examples visits visit part_of
all_as_said = refl
