-- Its four stores are those of the definition.
use Rattle.std.proofs.Common.{rules}
use Rattle.rows.specs.Table.{with_row}
use Rattle.rows.proofs.Row.write.Goals as goal

pub returns : goal.returns
unfolding with_row
returns c = search rules
