-- The phase's bounds are those of a block on the grid.
use Rattle.std.proofs.Common.{arith}
use Rattle.methods.specs.Reach.{whole_grid}
use Rattle.choosing.specs.Slot.{rows_in}
use Rattle.choosing.proofs.ChooseLaws.{call_valid}
use Rattle.choosing.proofs.choose.naive_block.Goals as goal

pub expanded_block-requires : goal.expanded_block-requires
expanded_block-requires c =
    record {
      ask = c.requires.ask;
      valid = call_valid (rows_in c.args.rows.now) c.requires.valid c.phase_bounds_in.result whole_grid c.phase_bounds_in.ensures (omega arith);
    }
