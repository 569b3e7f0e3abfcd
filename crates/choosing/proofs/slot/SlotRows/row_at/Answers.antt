-- The number of the cell at a place is one of the table's.
use Rattle.std.proofs.Common.{arith}
use Rattle.grid.proofs.CurveLaws.{number_below}
use Rattle.choosing.specs.Reached.{cell_at}
use Rattle.choosing.proofs.ReachedLaws.{place_on}
use Rattle.choosing.proofs.slot.SlotRows.row_at.Goals as goal

pub read-requires : goal.read-requires
read-requires c =
    let h = c.args.self.now.has_slot in
    let below = number_below (cell_at c.args.place) (place_on c.args.place c.requires.within) in
    record { whole_table = h.whole_table; one_of_three = h.one_of_three; number_on = omega arith }
