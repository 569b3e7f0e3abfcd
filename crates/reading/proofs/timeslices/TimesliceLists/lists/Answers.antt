-- Reported by the time, and inside the rectangle then.
-- Assumes nothing.
use Rattle.std.proofs.Common.{rules, ap, ◌∙◌}
use mir.Facts.{to_z-of_z}
use mathlib.Core.Path.{◌≡◌}
use mathlib.Core.Bool.{◌&&◌}
use lib.Signed.{le_z}
use mir.Syntax.{w32, w64}
use mir.Val.{SFits}
use Rattle.ints.specs.Whole.{between}
use Rattle.ints.proofs.Machine.{back}
use Rattle.grid.specs.Reports.{x_at, y_at, in_rect, inside_at, is_listed}
use Rattle.reading.proofs.timeslices.TimesliceLists.lists.Goals as goal

pub returns : goal.returns
unfolding is_listed inside_at in_rect
returns c =
    let r = c.args.r in
    let slice = c.args.self in
    let t : SFits w32 r.t = search rules in
    let time : SFits w32 slice.time = search rules in
    let s : SFits w64 c.from-s.result = search rules in
    let x : SFits w64 c.x_at.result = search rules in
    let y : SFits w64 c.y_at.result = search rules in
    let at : back w64 c.from-s.result ≡ slice.time = to_z-of_z s ∙ c.from-s.ensures ∙ to_z-of_z time in
    let along_x = to_z-of_z x ∙ c.x_at.ensures ∙ ap (x_at r) at in
    let along_y = to_z-of_z y ∙ c.y_at.ensures ∙ ap (y_at r) at in
    let in_x = c.is_within.ensures ∙ ap (between slice.rect.x.low slice.rect.x.high) along_x in
    let in_y = c.is_within-2.ensures ∙ ap (between slice.rect.y.low slice.rect.y.high) along_y in
    λ i. le_z (to_z-of_z t i) (to_z-of_z time i) && (in_x i && in_y i)
