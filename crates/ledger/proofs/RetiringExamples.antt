-- The worked lists with floats that fall silent have the answers that were found for them without the ledger: antt computes it.
-- Assumes nothing.
use mathlib.Core.Path.{◌≡◌, refl}
use mathlib.Core.List.{[], ◌∷◌}
use lib.IntN.{pos}
use Rattle.ints.specs.Whole.{min_z, max_z, eq_z}
use Rattle.ints.specs.Lists.{passing, some}
use Rattle.ints.specs.Examples.{AllAsSaid}
use Rattle.grid.specs.Places.{column_of, cell_span}
use Rattle.grid.specs.Curve.{number_at}
use Rattle.grid.specs.Reports.{in_range, x_at, y_at, in_rect, inside_at, is_silent, is_listed}
use Rattle.rows.specs.Row.{joined, same_row, is_empty, bounds_of}
use Rattle.rows.specs.Phases.{phase_of, reference_time, is_live, live_phases}
use Rattle.methods.specs.Reach.{expanded_range, expanded_rect, block_of, cells_of_row, cells_of_rows, cells_of}
use Rattle.methods.specs.Reach.{moved_span, meets, moved_cell_meets}
use Rattle.methods.specs.Methods.{bounds_in, expanded_block, iterated, choice}
use Rattle.ledger.specs.Answers.{number_of, value_of}
use Rattle.ledger.specs.Refusals.{first_to_fail, is_rectangle}
use Rattle.ledger.specs.Machine.{opened, moved_held, new_placements, live_placements, keeping, moved_on, stepped, without, with_report}
use Rattle.ledger.specs.Machine.{without_id, speeds_placed, rows_in, useful_cells, put_in_order, ids_in_order, summed}
use Rattle.ledger.specs.Calls.{answer_to, changed_by, ids_of, next, reply_to, replies, after}
use Rattle.ledger.specs.RetiringExamples.{clocks, clocks_say, changes, changes_say, again, again_says, rows, rows_say, jumped, jumped_says, full}
use Rattle.ledger.proofs.ExamplesCrowdLaws.{crowd_full_still, crowd_gone}

pub retiring_as_said :
    (replies (opened (pos 0)) clocks ≡ clocks_say)
    × (replies (opened (pos 0)) changes ≡ changes_say)
    × (replies (opened (pos 0)) again ≡ again_says)
    × (replies (opened (pos 0)) rows ≡ rows_say)
    × (replies (opened (pos 0)) jumped ≡ jumped_says)
unfolding clocks clocks_say changes changes_say again again_says rows rows_say jumped jumped_says
    column_of cell_span number_at min_z max_z eq_z passing some joined same_row is_empty bounds_of expanded_range expanded_rect block_of cells_of_row cells_of_rows cells_of
    moved_span meets moved_cell_meets bounds_in expanded_block iterated choice in_range x_at y_at in_rect inside_at is_silent is_listed phase_of
    reference_time is_live live_phases first_to_fail is_rectangle moved_held new_placements live_placements keeping moved_on stepped without with_report without_id speeds_placed rows_in
    useful_cells put_in_order ids_in_order summed answer_to changed_by ids_of next reply_to replies after
retiring_as_said = (refl, refl, refl, refl, refl)

pub full_as_said : AllAsSaid full
unfolding full
full_as_said = λ i. number_of (crowd_full_still i) ∷ number_of (crowd_gone i) ∷ value_of (crowd_gone i) ∷ []
