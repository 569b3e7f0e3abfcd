-- P1 to P12, and what pins the reference time, hold of the definitions jointly: one tabled fact, which antt computes. The listing of document 01 gives the document's answers, and
-- so do a worked list with each refusal from 3 on, and a full ledger. Each number from 3 to 8, and 10, is given by a call.
-- Assumes nothing.
use mathlib.Core.Path.{◌≡◌, refl}
use mathlib.Core.List.{[], ◌∷◌}
use lib.IntN.{pos}
use Rattle.ints.specs.Whole.{min_z, max_z, eq_z}
use Rattle.ints.specs.Lists.{passing, some}
use Rattle.ints.specs.Examples.{AllAsSaid}
use Rattle.grid.specs.Places.{column_of, cell_span}
use Rattle.grid.specs.Curve.{number_at}
use Rattle.grid.specs.Reports.{in_range, x_at, y_at, in_rect, inside_at, is_silent, is_listed}
use Rattle.grid.specs.Examples as Grid
use Rattle.rows.specs.Row.{joined, same_row, is_empty, bounds_of}
use Rattle.rows.specs.Phases.{phase_of, reference_time, is_live, live_phases}
use Rattle.methods.specs.Reach.{expanded_range, expanded_rect, block_of, cells_of_row, cells_of_rows, cells_of, moved_span, meets, moved_cell_meets}
use Rattle.methods.specs.Methods.{bounds_in, expanded_block, iterated, choice}
use Rattle.ledger.specs.Answers.{number_of}
use Rattle.ledger.specs.Refusals.{first_to_fail, is_rectangle}
use Rattle.ledger.specs.Machine.{opened, moved_held, new_placements, live_placements, keeping, moved_on, stepped, without, with_report}
use Rattle.ledger.specs.Machine.{without_id, speeds_placed, rows_in, useful_cells, put_in_order, ids_in_order, summed}
use Rattle.ledger.specs.Calls.{answer_to, changed_by, ids_of, next, reply_to, replies, after}
use Rattle.ledger.specs.Examples.{examples, ledger_p11, ledger_p12, phases_held, columns_placed, listing, listing_says, sent, answers, refused, refused_says, crowd, ledger_of_one, numbers, add}
use Rattle.ledger.proofs.ExamplesCrowdLaws.{crowd_full, crowd_room}
use Rattle.ledger.specs.declared.Answer.TheVariants.{Accepted, Refused}
use Rattle.ledger.specs.declared.Refusal.TheVariants.{Full}

pub all_as_said : AllAsSaid examples
unfolding examples Grid.examples ledger_p11 ledger_p12 phases_held columns_placed column_of cell_span number_at min_z max_z eq_z passing some joined same_row is_empty bounds_of expanded_range
    expanded_rect block_of cells_of_row cells_of_rows cells_of moved_span meets moved_cell_meets bounds_in expanded_block iterated choice in_range
    x_at y_at in_rect inside_at is_silent is_listed phase_of
    reference_time is_live live_phases first_to_fail is_rectangle moved_held new_placements live_placements keeping moved_on stepped without with_report without_id speeds_placed rows_in
    useful_cells put_in_order ids_in_order summed answer_to changed_by ids_of next reply_to replies after
all_as_said = refl

pub listing_as_said : replies (opened (pos 0)) listing ≡ listing_says
unfolding listing listing_says column_of cell_span number_at min_z max_z eq_z passing some joined same_row is_empty bounds_of expanded_range expanded_rect block_of cells_of_row cells_of_rows cells_of
    moved_span meets moved_cell_meets bounds_in expanded_block iterated choice in_range x_at y_at in_rect inside_at is_silent is_listed phase_of
    reference_time is_live live_phases first_to_fail is_rectangle
    moved_held new_placements live_placements keeping moved_on stepped without with_report without_id speeds_placed rows_in useful_cells put_in_order ids_in_order summed answer_to
    changed_by ids_of next reply_to replies after
listing_as_said = refl

pub refused_as_said : answers (opened (pos 3600)) refused ≡ refused_says
unfolding answers refused refused_says column_of cell_span number_at min_z max_z eq_z passing some joined same_row is_empty bounds_of expanded_range expanded_rect block_of cells_of_row cells_of_rows
    cells_of moved_span meets moved_cell_meets bounds_in expanded_block iterated choice in_range x_at y_at in_rect inside_at is_silent is_listed
    phase_of reference_time is_live live_phases first_to_fail
    is_rectangle moved_held new_placements live_placements keeping moved_on stepped without with_report without_id speeds_placed rows_in useful_cells put_in_order ids_in_order
    summed answer_to changed_by ids_of next reply_to replies after
refused_as_said = refl

pub full_as_said : (answer_to (crowd 1024) (add (sent 2 0 0 0 (pos 0) (pos 0))) ≡ Refused Full) × (answer_to (crowd 1023) (add (sent 2 0 0 0 (pos 0) (pos 0))) ≡ Accepted 1024)
full_as_said = (crowd_full, crowd_room)

pub numbers_as_said : AllAsSaid numbers
unfolding numbers ledger_of_one column_of cell_span number_at min_z max_z eq_z passing some joined same_row is_empty bounds_of expanded_range expanded_rect block_of cells_of_row cells_of_rows cells_of
    moved_span meets moved_cell_meets bounds_in expanded_block iterated choice in_range x_at y_at in_rect inside_at is_silent is_listed phase_of
    reference_time is_live live_phases first_to_fail is_rectangle
    moved_held new_placements live_placements keeping moved_on stepped without with_report without_id speeds_placed rows_in useful_cells put_in_order ids_in_order summed answer_to
    changed_by ids_of next reply_to replies after
numbers_as_said = λ i. 0 ∷ 3 ∷ 4 ∷ 5 ∷ 6 ∷ number_of (crowd_full i) ∷ 8 ∷ 10 ∷ []
