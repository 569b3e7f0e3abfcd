-- P1 to P11 hold of the definitions jointly: one tabled fact, which antt computes. So do the limits of d, and the bounds of four cells, one after
-- another.
-- Assumes nothing.
use mathlib.Core.Path.{refl}
use Rattle.ints.specs.Whole.{min_z, max_z, eq_z}
use Rattle.ints.specs.Lists.{passing}
use Rattle.ints.specs.Examples.{AllAsSaid}
use Rattle.grid.specs.Places.{column_of, cell_span}
use Rattle.grid.specs.Curve.{number_at}
use Rattle.grid.specs.Reports.{x_at, y_at}
use Rattle.grid.specs.Examples as Grid
use Rattle.rows.specs.Phases.{reference_time}
use Rattle.rows.specs.Row.{joined, same_row, is_empty, bounds_of}
use Rattle.methods.specs.Reach.{expanded_range, expanded_rect, block_of, cells_of_row, cells_of_rows, cells_of, moved_span, meets, moved_cell_meets}
use Rattle.methods.specs.Methods.{bounds_in, expanded_block, iterated, choice}
use Rattle.methods.specs.BoundsInOnePass.{bounds_after}
use Rattle.methods.specs.Examples.{examples, limits, ends, rows_p11, choice_p11, rows_of_four, bounds_of_four}

pub all_as_said : AllAsSaid examples
unfolding examples Grid.examples column_of cell_span number_at min_z max_z eq_z passing joined same_row is_empty bounds_of
    expanded_range expanded_rect block_of cells_of_row cells_of_rows cells_of moved_span meets moved_cell_meets
    bounds_in expanded_block iterated choice rows_p11 choice_p11 x_at y_at reference_time
all_as_said = refl

pub limits_as_said : AllAsSaid limits
unfolding limits
limits_as_said = refl

pub ends_as_said : AllAsSaid ends
unfolding ends reference_time
ends_as_said = refl

pub bounds_as_said : AllAsSaid bounds_of_four
unfolding bounds_of_four rows_of_four column_of min_z max_z joined bounds_of cells_of_row cells_of_rows cells_of bounds_after
bounds_as_said = refl
