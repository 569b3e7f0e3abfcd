-- One lane more.
use mathlib.Core.Path.{refl}
use native.Mathlib.Nat.{zero-add}
use native.Mathlib.Numerals.{add-one}
use Rattle.lanes.specs.Validity.{row_lanes_from}
use Rattle.lanes.proofs.ValidityLaws.{lane_more}
use Rattle.lanes.proofs.validity.row_lanes_valid.Goals as goal

pub loop-j-init : goal.loop-j-init
unfolding row_lanes_from
loop-j-init c = refl

pub loop-j-preserved : goal.loop-j-preserved
loop-j-preserved c =
    let more = rw zero-add at (lane_more c.args.valid.now c.loop-j.j 0) in
    rw (c.loop-j.invariant, add-one) more
