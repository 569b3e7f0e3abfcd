-- The number of each method, by which the definitions know it.
-- Assumes nothing.
use Rattle.std.specs.Prelude.{ℕ}
use Rattle.methods.specs.declared.Method.{Method}
use Rattle.methods.specs.declared.Method.TheVariants.{Naive, SemiNaive, Iterative, Optimal}

abbrev pub number_of : Method → ℕ
number_of Naive = 0
number_of SemiNaive = 1
number_of Iterative = 2
number_of Optimal = 3
