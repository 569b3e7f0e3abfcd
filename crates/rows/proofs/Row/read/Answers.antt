-- The place of the row is computed.
use Rattle.std.proofs.Common.{rules}
use Rattle.rows.specs.Table.{row_at}
use Rattle.rows.proofs.Row.read.Goals as goal

pub returns : goal.returns
unfolding row_at
returns c = search rules
