-- What is left to mark grows shorter by a cell.
use Rattle.std.proofs.Common.{[], ◌∷◌, ◌+◌, arith, rules}
use Rattle.grid.specs.Curve.{cell}
use Rattle.choosing.proofs.MarkPassesLaws.{row_from, row_before, row_none}
use Rattle.choosing.proofs.MarkLaws.{left_all, left_next, left_none}
use Rattle.choosing.proofs.mark.mark_row.Goals as goal

pub loop-column-init : goal.loop-column-init
loop-column-init c = record { one_each = c.requires.of_block.one_each; left = left_all _ _ }

pub loop-column-preserved : goal.loop-column-preserved
loop-column-preserved c =
    let b = c.args.b in
    let column = c.loop-column.column in
    record {
      one_each = search rules;
      left = left_next c.loop-column.invariant.left (cell column c.args.row ∷ []) (row_from b c.args.row (column + 1)) (row_before b c.args.row column (omega arith))
          (record { marks_are = c.mark_cell.ensures });
    }

pub returns : goal.returns
returns c = left_none c.loop-column.invariant.left (row_none c.args.b c.args.row c.loop-column.column (omega arith))

pub returns-2 : goal.returns-2
returns-2 c =
    let b = c.args.b in
    let column = c.loop-column.column in
    left_none
    (left_next c.loop-column.invariant.left (cell column c.args.row ∷ []) (row_from b c.args.row (column + 1)) (row_before b c.args.row column (omega arith))
    (record { marks_are = c.mark_cell.ensures }))
    (row_none b c.args.row (column + 1) (omega arith))
