-- One block more.
use Rattle.std.proofs.Common.{◌≡◌, ◌+◌, ◌-◌, ◌*◌, arith, length}
use lib.ListN.{length-take, length-drop}
use Rattle.rows.specs.Row.{bounds_of}
use Rattle.rows.specs.Table.{slot_rows, slot_words, row_place}
use Rattle.lanes.specs.Lanes.{lanes, lane_row_count}
use Rattle.lanes.proofs.BoundsLaws.{block_at, block_taken}
use Rattle.lanes.proofs.bounds.slot_bounds.Goals as goal

pub loop-block-init : goal.loop-block-init
unfolding slot_rows bounds_of
loop-block-init c = record { least_whole = omega arith; greatest_whole = omega arith; bounds_so_far = c.empty-lanes.ensures }

pub loop-block-preserved : goal.loop-block-preserved
loop-block-preserved c =
    let table = c.args.table.now in
    let slot = c.args.slot in
    let h = c.loop-block in
    let number = lane_row_count * h.block in
    let whole : length (block_at table slot number) ≡ lanes = simp (length-take, length-drop) (omega arith) in
    let next : lane_row_count * (h.block + 1) ≡ number + lane_row_count = omega arith in
    let start : slot_words * slot + lanes * h.block ≡ row_place slot number = omega arith in
    let count : row_place slot number + lanes - row_place slot number ≡ lanes = omega arith in
    rw next (block_taken table slot number h.lanes _ whole h.invariant (rw (start, count) at c.fold.ensures))
