-- Every row of every slot is empty.
use mathlib.Core.Path.{◌∙◌}
use Rattle.rows.proofs.TableLaws.{all_emptied}
use Rattle.rows.proofs.table.empty_table.Goals as goal

pub returns : goal.returns
returns c = c.empty_rows.ensures ∙ rw c.requires (all_emptied c.args.table.now c.requires)
