-- There is no block where the bounds are missing.
use Rattle.std.proofs.Common.{◌∙◌, sym, ap}
use Rattle.methods.specs.Reach.{block_of}
use Rattle.methods.specs.Aims.{aim_of}
use Rattle.choosing.proofs.ChooseLaws.{expanded_none, expanded_some}
use Rattle.choosing.proofs.choose.expanded_block.Goals as goal

pub returns-then-is_empty : goal.returns-then-is_empty
returns-then-is_empty c = expanded_none c.args.bounds (aim_of c.args.view) (sym c.is_empty.ensures ∙ c.if-is_empty.true)

pub returns : goal.returns
returns c =
    expanded_some c.args.bounds (aim_of c.args.view) (sym c.is_empty.ensures ∙ c.if-is_empty.false) (c.block_of.ensures ∙ ap block_of c.expanded.ensures)
