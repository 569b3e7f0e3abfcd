-- Words with the same rows are the same.
use mathlib.Core.Path.{sym, ◌∙◌}
use Rattle.std.proofs.Common.{◌/◌, length, arith}
use Rattle.rows.specs.Table.{empty_rows}
use Rattle.rows.proofs.TableLaws.{same_rows, length-empty_rows, empty_rows_row}
use Rattle.rows.proofs.table.empty_rows.Goals as goal

pub returns : goal.returns
returns c =
    let n = length c.args.words.now / 4 in
    same_rows n c.loop-i.words (empty_rows n) (omega arith) (length-empty_rows n)
    (λ i h. c.loop-i.invariant i (omega arith) ∙ sym (empty_rows_row n i h))
