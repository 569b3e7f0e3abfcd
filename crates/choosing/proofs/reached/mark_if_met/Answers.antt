-- The mark of a cell that meets is set, and any other stays as it was.
use Rattle.std.proofs.Common.{◌∙◌, sym, ap₂, subst, ℕ, [], ◌∷◌, arith, slice_set}
use Rattle.grid.proofs.CurveLaws.{number_below}
use Rattle.methods.specs.Aims.{aim_of}
use Rattle.choosing.specs.Mark.{Marked}
use Rattle.choosing.specs.Reached.{cell_at, meeting}
use Rattle.choosing.specs.Slot.{rows_in}
use Rattle.choosing.proofs.ReachedLaws.{place_on, met_one}
use Rattle.choosing.proofs.reached.mark_if_met.Goals as goal

pub bounds-marks-n : goal.bounds-marks-n
bounds-marks-n c = omega (arith, number_below (cell_at c.args.place) (place_on c.args.place c.requires.is_place.within))

pub bounds-marks-n-2 : goal.bounds-marks-n-2
bounds-marks-n-2 c = omega (arith, number_below (cell_at c.args.place) (place_on c.args.place c.requires.is_place.within))

pub returns : goal.returns
returns c =
    let rows = rows_in c.args.rows.now in
    let aim = aim_of c.args.view in
    let marks = c.args.marks.now in
    let n = c.number_at-n.result in
    subst (λ (v : ℕ). Marked marks (meeting rows aim (c.args.place ∷ [])) (slice_set marks n v)) (sym c.mark_after.ensures)
    (met_one rows aim marks c.args.place n c.cell_meets-met.result c.number_at-n.ensures (c.cell_meets-met.ensures ∙ ap₂ aim.meets c.cell_at.ensures c.row_at.ensures))
