-- The number of a cell on the grid is one of the table's.
use Rattle.std.proofs.Common.{arith}
use Rattle.grid.proofs.CurveLaws.{number_below}
use Rattle.choosing.proofs.slot.SlotRows.row_of.Goals as goal

pub read-requires : goal.read-requires
read-requires c =
    let h = c.args.self.now.has_slot in
    record { whole_table = h.whole_table; one_of_three = h.one_of_three; number_on = omega (arith, number_below c.args.c c.requires) }
