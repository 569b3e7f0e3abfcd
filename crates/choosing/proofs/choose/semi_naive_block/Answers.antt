-- The bounds of the naive block's rows are valid.
use Rattle.std.proofs.Common.{rules}
use Rattle.choosing.proofs.ChooseLaws.{call_valid}
use Rattle.choosing.proofs.choose.semi_naive_block.Goals as goal

pub expanded_block-requires : goal.expanded_block-requires
expanded_block-requires c = search (rules, call_valid)
