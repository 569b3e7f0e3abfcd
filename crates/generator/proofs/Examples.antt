-- The states are as said: one tabled fact, which antt computes.
-- Assumes nothing.
use Rattle.std.proofs.Common.{refl}
use Rattle.ints.specs.Examples.{AllAsSaid}
use Rattle.generator.specs.Generator.{times, jumped}
use Rattle.generator.specs.Examples.{examples}

pub all_as_said : AllAsSaid examples
unfolding examples times jumped
all_as_said = refl
