-- Before the first row no cell is visited.
use Rattle.std.proofs.Common.{arith}
use Rattle.choosing.specs.Slot.{rows_in}
use Rattle.choosing.proofs.BoundsLaws.{no_row, bounds_at_first}
use Rattle.choosing.proofs.bounds.bounds_after_in.Goals as goal

pub loop-left-init : goal.loop-left-init
loop-left-init c =
    let b = c.args.b in
    record { on_from = omega arith; so_many = omega (arith, no_row b); so_far = bounds_at_first (rows_in c.args.rows.now) b c.empty-bounds.ensures }
