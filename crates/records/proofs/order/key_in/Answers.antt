-- The report is small, the cell is on the grid, and slot and curve number make a key of the three slots.
use Rattle.std.proofs.Common.{rules, arith, ◌≡◌, ◌∙◌, ap, ap₂, w32, w64}
use Rattle.std.proofs.lemmas.Int.{to_z-of_z}
use Rattle.grid.specs.Curve.{curve_number}
use Rattle.grid.specs.Reports.{x_at, y_at, cell_at_time}
use Rattle.grid.proofs.PlacesLaws.{cell_on}
use Rattle.rows.proofs.PhasesLaws.{slot_on}
use Rattle.records.specs.Order.{key_at, key_in}
use Rattle.records.proofs.SoundnessRangeLaws.{small_report}
use Rattle.records.proofs.OrderKeysLaws.{cell_number_below}
use Rattle.records.proofs.order.key_in.Goals as goal

pub cell_at-requires : goal.cell_at-requires
cell_at-requires c =
    let time = to_z-of_z w64 c.reference_time.result (search rules) ∙ c.reference_time.ensures in
    rw time (small_report c.args.p c.args.r c.requires.of_report.not_late c.requires.of_report.in_range_lem c.requires.of_report.sent)

pub number_in-number-requires : goal.number_in-number-requires
number_in-number-requires c =
    let time = to_z-of_z w64 c.reference_time.result (search rules) in
    let cell : c.cell_at.result ≡ cell_at_time c.args.r c.reference_time.result = c.cell_at.ensures ∙ ap (cell_at_time c.args.r) time in
    record { curve = c.requires.curve; on_grid = rw cell (cell_on (x_at c.args.r c.reference_time.result) (y_at c.args.r c.reference_time.result)) }

pub key_of-requires : goal.key_of-requires
key_of-requires c =
    let time = to_z-of_z w64 c.reference_time.result (search rules) in
    let number = c.number_in-number.ensures ∙ ap curve_number (c.cell_at.ensures ∙ ap (cell_at_time c.args.r) time) in
    record {
      one_of_three = omega (arith, c.slot_of.ensures, slot_on c.args.p);
      within = omega (arith, number, cell_number_below c.args.r c.reference_time.result);
    }

pub returns : goal.returns
unfolding key_in
returns c =
    let time = to_z-of_z w64 c.reference_time.result (search rules) ∙ c.reference_time.ensures in
    let number = c.number_in-number.ensures ∙ ap curve_number (c.cell_at.ensures ∙ ap (cell_at_time c.args.r) time) in
    to_z-of_z w32 c.key_of.result (search rules) ∙ c.key_of.ensures ∙ ap₂ key_at c.slot_of.ensures number
