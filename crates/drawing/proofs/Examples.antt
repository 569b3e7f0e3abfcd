-- The chart's numbers and bytes are as said: one tabled fact, which antt computes.
-- Assumes nothing.
use mathlib.Core.Path.{refl}
use Rattle.ints.specs.Examples.{AllAsSaid}
use Rattle.grid.specs.Curve.{number_at}
use Rattle.fields.specs.Fields.{digits}
use Rattle.fields.specs.Numbers.{in_columns}
use Rattle.drawing.specs.Chart.{row_numbers, chart_line}
use Rattle.drawing.specs.Examples.{examples}

pub all_as_said : AllAsSaid examples
unfolding examples row_numbers chart_line number_at in_columns digits
all_as_said = refl
