-- Each turn puts the line of one row more.
use Rattle.std.proofs.Common.{◌≡◌, ℕ, List, [], ◌+◌, ◌*◌, ◌∙◌, sym, ap₂, arith}
use Rattle.grid.specs.Units.{side}
use Rattle.fields.specs.Put.{put}
use Rattle.fields.proofs.NumbersLaws.{left_next, left_none}
use Rattle.drawing.specs.Chart.{line_bytes, grid_rows, chart_line}
use Rattle.drawing.proofs.ChartLaws.{row_part, rows_length, lines_in_turn, line_at, line_bytes_lem, text_alone}
use Rattle.drawing.proofs.chart.write_lines.Goals as goal

pub loop-row-preserved : goal.loop-row-preserved
loop-row-preserved c =
    let h = c.loop-row in
    let row = h.row in
    let few = c.loop-row-test.true in
    let at : row * line_bytes ≡ 0 + line_bytes * row = omega arith in
    h.invariant
    ∙ left_next lines_in_turn line_bytes [] 0 (grid_rows 0 side) h.out c.write_line.new.out row (omega arith) (omega (arith, rows_length 0 side))
    (line_bytes_lem row few)
    (c.write_line.ensures
    ∙ ap₂ (λ (i : ℕ) (numbers : List ℕ). put h.out i (chart_line numbers)) at
    (row_part c.args.numbers.now row c.requires.long c.requires.curve few ∙ sym (line_at row few)))

pub returns : goal.returns
returns c =
    let h = c.loop-row in
    sym (
    sym (text_alone c.args.out.now c.requires.room)
    ∙ h.invariant
    ∙ left_none lines_in_turn line_bytes 0 (grid_rows 0 side) h.out h.row (omega (arith, rows_length 0 side))
    )
