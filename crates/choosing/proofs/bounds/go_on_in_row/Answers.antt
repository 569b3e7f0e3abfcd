-- The cell that comes next is on the grid, and joins its row to the bounds.
use Rattle.std.proofs.Common.{◌+◌, ◌<◌, arith}
use Rattle.methods.specs.Reach.{columns_of}
use Rattle.methods.specs.BoundsInOnePass.{cell_count}
use Rattle.choosing.specs.Bounds.{cells_before}
use Rattle.choosing.specs.Slot.{rows_in}
use Rattle.choosing.proofs.BoundsLaws.{bounds_one_more}
use Rattle.choosing.proofs.bounds.go_on_in_row.Goals as goal

pub loop-done-preserved : goal.loop-done-preserved
loop-done-preserved c =
    let b = c.args.b in
    let done = c.loop-done.done in
    let in_row : done < columns_of b = omega (arith, c.requires.in_row) in
    let more : cells_before b c.args.row + done < cell_count b = omega (arith, c.requires.of_its_cells) in
    bounds_one_more b c.args.row done c.requires.from_first in_row more (rows_in c.args.rows.now) c.join-bounds.ensures c.row_of-seen.ensures c.loop-done.invariant
