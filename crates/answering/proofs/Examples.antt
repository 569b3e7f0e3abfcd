-- The program's definition gives document 01's listing, byte for byte, and answers window asks and damaged lines: computed facts.
-- Assumes nothing.
use mathlib.Core.Path.{◌≡◌, refl}
use mathlib.Core.List.{◌++◌}
use Rattle.ints.specs.Lists.{passing, some}
use Rattle.ints.specs.Whole.{min_z, max_z, eq_z}
use Rattle.grid.specs.Places.{column_of, cell_span}
use Rattle.grid.specs.Curve.{number_at}
use Rattle.grid.specs.Moments.{passage_of, meeting, inside_during}
use Rattle.grid.specs.Reports.{in_range, x_at, y_at, in_rect, inside_at, is_silent, is_listed}
use Rattle.rows.specs.Row.{joined, same_row, is_empty, bounds_of}
use Rattle.rows.specs.Phases.{phase_of, reference_time, is_live, live_phases}
use Rattle.methods.specs.Reach.{expanded_range, expanded_rect, expanded_window, block_of, cells_of_row, cells_of_rows, cells_of, moved_span, meets, moved_cell_meets, moved_around_meets}
use Rattle.methods.specs.Methods.{bounds_in, expanded_block, iterated, choice}
use Rattle.ledger.specs.Refusals.{first_to_fail, is_rectangle}
use Rattle.ledger.specs.Machine.{moved_held, new_placements, live_placements, keeping, moved_on, stepped, without}
use Rattle.ledger.specs.Machine.{with_report, without_id, speeds_placed, rows_in, useful_cells, put_in_order, ids_in_order, summed}
use Rattle.ledger.specs.Calls as L
use Rattle.fields.specs.Fields.{digits, written, field_of}
use Rattle.fields.specs.Numbers.{fields}
use Rattle.lines.specs.Lines.{letter_of, change_numbers, numbers_of}
use Rattle.answers.specs.Answers.{no_call_line}
use Rattle.fields.specs.Reading.{with_digit, after, number_of, seen_at}
use Rattle.lines.specs.Reading.{numbers_in, are_numbers, call_of, count_of, read_line}
use Rattle.lines.specs.Examples.{bytes}
use Rattle.answering.specs.Replay.{answer_to, next, lines_from, answered, replayed}
use Rattle.answering.specs.Examples.{ended, listing, listing_says, windows, windows_say, damaged, last_line, damaged_says}

pub listing_is_replayed : replayed (ended listing) ≡ ended listing_says
unfolding listing listing_says replayed answered lines_from answer_to next ended bytes read_line count_of numbers_of change_numbers call_of numbers_in are_numbers seen_at number_of
    after with_digit no_call_line letter_of fields field_of written digits column_of cell_span number_at min_z max_z eq_z passing some joined same_row is_empty bounds_of expanded_range expanded_rect
    block_of cells_of_row cells_of_rows cells_of moved_span meets moved_cell_meets bounds_in expanded_block iterated choice in_range x_at y_at in_rect inside_at is_silent is_listed phase_of
    reference_time is_live live_phases first_to_fail is_rectangle moved_held new_placements live_placements keeping moved_on stepped without with_report without_id speeds_placed rows_in
    useful_cells put_in_order ids_in_order summed L.answer_to L.changed_by L.ids_of L.next L.reply_to
listing_is_replayed = refl

pub damaged_is_replayed : replayed (ended damaged ++ bytes last_line) ≡ ended damaged_says
unfolding damaged damaged_says replayed answered lines_from answer_to next ended bytes read_line count_of numbers_of change_numbers call_of numbers_in are_numbers seen_at number_of
    after with_digit no_call_line letter_of fields field_of written digits column_of cell_span number_at min_z max_z eq_z passing some joined same_row is_empty bounds_of expanded_range expanded_rect
    block_of cells_of_row cells_of_rows cells_of moved_span meets moved_cell_meets bounds_in expanded_block iterated choice in_range x_at y_at in_rect inside_at is_silent is_listed phase_of
    reference_time is_live live_phases first_to_fail is_rectangle moved_held new_placements live_placements keeping moved_on stepped without with_report without_id speeds_placed rows_in
    useful_cells put_in_order ids_in_order summed L.answer_to L.changed_by L.ids_of L.next L.reply_to
damaged_is_replayed = refl

pub windows_are_replayed : replayed (ended windows) ≡ ended windows_say
unfolding windows windows_say replayed answered lines_from answer_to next ended bytes read_line count_of numbers_of change_numbers call_of numbers_in are_numbers seen_at number_of
    after with_digit no_call_line letter_of fields field_of written digits column_of cell_span number_at min_z max_z eq_z passing some joined same_row is_empty bounds_of expanded_range expanded_rect
    expanded_window block_of cells_of_row cells_of_rows cells_of moved_span meets moved_cell_meets moved_around_meets bounds_in expanded_block iterated choice in_range x_at y_at in_rect inside_at
    passage_of meeting inside_during is_silent is_listed phase_of
    reference_time is_live live_phases first_to_fail is_rectangle moved_held new_placements live_placements keeping moved_on stepped without with_report without_id speeds_placed rows_in
    useful_cells put_in_order ids_in_order summed L.answer_to L.changed_by L.ids_of L.next L.reply_to
windows_are_replayed = refl
