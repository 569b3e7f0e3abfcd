-- What is left, by the block there.
use Rattle.std.proofs.Common.{◌≡◌, ◌+◌, ◌-◌, ◌*◌, ◌/◌, arith, length, drop}
use lib.ListN.{length-drop}
use Rattle.ints.proofs.Lists.{part_from}
use Rattle.grid.specs.Units.{cells}
use Rattle.rows.specs.Phases.{slots}
use Rattle.lanes.specs.Validity.{places, place_words, block_rows}
use Rattle.lanes.proofs.ValidityLaws.{block_next}
use Rattle.lanes.proofs.validity.all_valid.Goals as goal

pub returns-then-not-block_valid : goal.returns-then-not-block_valid
returns-then-not-block_valid c =
    let number = block_rows * c.loop-block.block in
    let next = block_next c.args.table.now (slots * cells) number (omega arith) in
    let start : places * c.loop-block.block ≡ 4 * number = omega arith in
    let count : 4 * number + place_words - 4 * number ≡ place_words = omega arith in
    let block = rw (start, count) at c.block_valid.ensures in
    grind arith

pub loop-block-preserved : goal.loop-block-preserved
loop-block-preserved c =
    let number = block_rows * c.loop-block.block in
    let next = block_next c.args.table.now (slots * cells) number (omega arith) in
    let start : places * c.loop-block.block ≡ 4 * number = omega arith in
    let count : 4 * number + place_words - 4 * number ≡ place_words = omega arith in
    let block = rw (start, count) at c.block_valid.ensures in
    let more : block_rows * (c.loop-block.block + 1) ≡ number + block_rows = omega arith in
    rw more (grind arith)

pub returns : goal.returns
returns c =
    let last = 4 * (block_rows * 383) in
    let table = c.args.table.now in
    let end : c.loop-block.block ≡ 383 = omega arith in
    let left = rw end at c.loop-block.invariant in
    let count : length (drop last table) / 4 ≡ block_rows = simp length-drop (omega arith) in
    let rows = rw (part_from last table, count) at c.rows_valid.ensures in
    cc
