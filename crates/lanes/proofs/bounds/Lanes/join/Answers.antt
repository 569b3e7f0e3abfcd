-- One lane row more.
use mathlib.Core.Path.{ap₂, ◌∙◌}
use Rattle.std.proofs.Common.{arith}
use Rattle.rows.specs.Row.{joined, bounds_of}
use Rattle.lanes.specs.Lanes.{lane_rows}
use Rattle.lanes.proofs.BoundsLaws.{row_before}
use Rattle.lanes.proofs.bounds.Lanes.join.Goals as goal

pub loop-j-init : goal.loop-j-init
unfolding lane_rows bounds_of
loop-j-init c = c.empty-bounds.ensures

pub loop-j-preserved : goal.loop-j-preserved
loop-j-preserved c =
    let lanes = c.args.self.now in
    c.join-bounds.ensures ∙ ap₂ joined c.row.ensures c.loop-j.invariant ∙ row_before lanes.least lanes.greatest c.loop-j.j c.loop-j-test.true (omega arith)
