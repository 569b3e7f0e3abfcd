-- The number of a cell on the grid is one of the table's.
use Rattle.std.proofs.Common.{arith}
use Rattle.grid.proofs.CurveLaws.{number_below}
use Rattle.choosing.proofs.bounds.row_of_cell.Goals as goal

pub read-requires : goal.read-requires
read-requires c =
    let h = c.requires.has_slot in
    record {
      whole_table = h.whole_table;
      one_of_three = h.one_of_three;
      number_on = omega (arith, c.number_in.ensures, number_below c.args.c c.requires.on_grid);
    }
