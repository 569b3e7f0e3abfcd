-- The bounds after all cells are the block's.
use Rattle.std.proofs.Common.{◌*◌, ◌∙◌, ap₂}
use Rattle.methods.proofs.BoundsInOnePass.{after_all_cells}
use Rattle.choosing.specs.Slot.{rows_in}
use Rattle.choosing.proofs.BoundsLaws.{bounds_so_far}
use Rattle.choosing.proofs.bounds.block_bounds_in.Goals as goal

pub returns : goal.returns
returns c =
    let rows = rows_in c.args.rows.now in
    bounds_so_far rows c.args.b c.bounds_after_in.ensures (ap₂ ◌*◌ c.count.ensures c.count-2.ensures) ∙ after_all_cells rows c.args.b
