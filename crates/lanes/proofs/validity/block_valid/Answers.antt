-- A block that is an empty one has valid rows, and any other has those that its lanes tell.
use mathlib.Core.Path.{sym, ◌∙◌}
use Rattle.lanes.proofs.ValidityLaws.{block_empty, block_judged}
use Rattle.lanes.proofs.validity.block_valid.Goals as goal

pub returns-then-begins_with : goal.returns-then-begins_with
returns-then-begins_with c =
    let empty = block_empty c.args.words.now c.args.empty.now c.requires.none (sym c.begins_with.ensures ∙ c.if-begins_with.true) in
    cc

pub returns-else-begins_with : goal.returns-else-begins_with
returns-else-begins_with c =
    let judged = block_judged c.args.words.now c.judged_places.result c.judged_places.ensures in
    cc
