-- The smallest rectangle around the two expanded ones.
use Rattle.std.proofs.Common.{◌∙◌, ap₂, rules}
use lib.IntN.{ℤ}
use mir.Syntax.{w64}
use Rattle.ints.proofs.Machine.{tested₁}
use Rattle.grid.specs.declared.Rect.{Rect}
use Rattle.methods.specs.Reach.{expanded_rect, around_rects, expanded_window}
use Rattle.reaching.proofs.windows.expanded_window.Goals as goal

pub returns : goal.returns
unfolding expanded_window
returns c =
    let w = c.args.w in
    let at_time : ℤ → Rect = (λ (d : ℤ). expanded_rect (record { rect = w.rect; d = d }) c.args.bounds) in
    c.around_rects.ensures
    ∙ ap₂ around_rects
    (tested₁ w64 at_time c.expanded_slice-at_first.result w.first c.expanded_slice-at_first.ensures (search rules))
    (tested₁ w64 at_time c.expanded_slice-at_last.result w.last c.expanded_slice-at_last.ensures (search rules))
