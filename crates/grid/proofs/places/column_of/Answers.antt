-- A position below 0 is raised to the first column; of another the column is the quotient, lowered to the last.
use Rattle.std.proofs.Common.{arith}
use Rattle.std.proofs.lemmas.Int.{to_z-of_z}
use Rattle.grid.specs.Places.{column_of}
use Rattle.grid.proofs.places.column_of.Goals as goal

pub returns-then-x-lt0 : goal.returns-then-x-lt0
unfolding column_of
returns-then-x-lt0 c = grind (arith, to_z-of_z)

pub returns : goal.returns
unfolding column_of
returns c = grind (arith, to_z-of_z)
