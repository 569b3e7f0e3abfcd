-- The derived test compares number by number.
use Rattle.std.proofs.Common.{arith}
use Rattle.ints.proofs.Library.{equal_is}
use Rattle.rows.specs.Row.{same_row}
use Rattle.rows.proofs.Row.same.Goals as goal

pub returns : goal.returns
unfolding same_row
returns c = grind (arith, equal_is)
