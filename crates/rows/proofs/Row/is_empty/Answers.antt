-- The row is compared with the empty one, number by number.
use Rattle.std.proofs.Common.{arith}
use Rattle.ints.proofs.Library.{equal_is}
use Rattle.rows.specs.Row.{is_empty, same_row}
use Rattle.rows.proofs.Row.is_empty.Goals as goal

pub returns : goal.returns
unfolding is_empty same_row
returns c = grind (arith, equal_is)
