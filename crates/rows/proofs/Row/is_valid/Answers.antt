-- The row is empty, or both of its axes are valid.
use Rattle.std.proofs.Common.{arith}
use Rattle.std.proofs.lemmas.Int.{to_z-of_z}
use Rattle.rows.proofs.RowLaws.{valid_parts}
use Rattle.rows.proofs.Row.is_valid.Goals as goal

pub returns : goal.returns
returns c = grind (arith, to_z-of_z, valid_parts)
