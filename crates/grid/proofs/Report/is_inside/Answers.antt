-- A window counts from the later of its first time and the report's.
use Rattle.std.proofs.Common.{arith}
use Rattle.std.proofs.lemmas.Int.{to_z-of_z}
use Rattle.ints.specs.Whole.{max_z}
use Rattle.grid.proofs.Report.is_inside.Goals as goal

pub returns-in-During : goal.returns-in-During
unfolding max_z
returns-in-During c = grind (arith, to_z-of_z)
