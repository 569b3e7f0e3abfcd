-- The mark of the cell's curve number is set.
use Rattle.std.proofs.Common.{ap, ℕ, arith, slice_set}
use Rattle.grid.proofs.CurveLaws.{number_below}
use Rattle.methods.specs.Marks.{with_cells}
use Rattle.choosing.proofs.mark.mark_cell.Goals as goal

pub bounds-marks-number_of : goal.bounds-marks-number_of
bounds-marks-number_of c = omega (arith, c.number_of.ensures, number_below c.args.c c.requires.on_grid)

pub returns : goal.returns
unfolding with_cells
returns c = ap (λ (n : ℕ). slice_set c.args.marks.now n 1) c.number_of.ensures
