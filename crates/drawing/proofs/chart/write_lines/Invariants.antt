-- The invariant says what is left to put.
use Rattle.std.proofs.Common.{◌≡◌}
use Rattle.fields.specs.Put.{put}
use Rattle.grid.specs.Units.{side}
use Rattle.fields.proofs.NumbersLaws.{left}
use Rattle.drawing.specs.Chart.{line_bytes, grid_rows, chart_lines, chart_text}
use Rattle.drawing.proofs.chart.write_lines.Given as goal

abbrev pub invariant-loop-row : goal.invariant-loop-row
invariant-loop-row l = put l.fn.out 0 chart_text ≡ left chart_lines line_bytes 0 (grid_rows 0 side) l.out l.row
