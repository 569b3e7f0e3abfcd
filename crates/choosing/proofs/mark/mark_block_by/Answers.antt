-- What is left to mark grows shorter by a row of cells.
use Rattle.std.proofs.Common.{◌+◌, arith, rules}
use Rattle.methods.specs.Reach.{cells_of}
use Rattle.choosing.proofs.MarkPassesLaws.{row_from, rows_from, rows_before, rows_none}
use Rattle.choosing.proofs.MarkLaws.{left_all, left_next, left_none}
use Rattle.choosing.proofs.mark.mark_block_by.Goals as goal

pub loop-row-init : goal.loop-row-init
unfolding cells_of
loop-row-init c = record { one_each = c.requires.one_each; left = left_all _ _ }

pub loop-row-preserved : goal.loop-row-preserved
loop-row-preserved c =
    let b = c.args.b in
    let row = c.loop-row.row in
    record {
      one_each = search rules;
      left = left_next c.loop-row.invariant.left (row_from b row b.first_column) (rows_from b (row + 1)) (rows_before b row (omega arith)) c.mark_row.ensures;
    }

pub returns : goal.returns
returns c = left_none c.loop-row.invariant.left (rows_none c.args.b c.loop-row.row (omega arith))

pub returns-2 : goal.returns-2
returns-2 c =
    let b = c.args.b in
    let row = c.loop-row.row in
    left_none
    (left_next c.loop-row.invariant.left (row_from b row b.first_column) (rows_from b (row + 1)) (rows_before b row (omega arith)) c.mark_row.ensures)
    (rows_none b (row + 1) (omega arith))
