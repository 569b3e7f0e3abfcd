-- Words that match a good ledger are sound: each float's speeds are in its row.
-- Assumes nothing.
use mathlib.Core.Path.{◌≡◌, refl, ap, ap₂, ◌∙◌}
use mathlib.Core.Bool.{true}
use mathlib.Core.List.{List, [], ◌∷◌, Memᴰ}
use lib.ListN.{length}
use Rattle.ints.specs.Lists.{every}
use Rattle.grid.specs.Places.{OnGrid}
use Rattle.grid.specs.Curve.{curve_number}
use Rattle.grid.specs.Reports.{is_time, x_at, y_at}
use Rattle.grid.specs.declared.Cell.{Cell}
use Rattle.grid.proofs.PlacesLaws.{cell_on}
use Rattle.grid.proofs.CurveLaws.{number_below, cell_of_its_number}
use Rattle.rows.specs.Row.{drift_of, holds}
use Rattle.rows.specs.Phases.{reference_time}
use Rattle.rows.specs.Table.{row_at}
use Rattle.rows.specs.declared.Row.{Row}
use Rattle.rows.proofs.RowLaws.{holds_one, holds_within, bounds_hold}
use Rattle.rows.proofs.TableLaws.{valid_of_rows}
use Rattle.records.specs.Order.{key_in, slot_of_key, number_of_key}
use Rattle.records.specs.Soundness.{in_own_row, all_sound, ids_distinct, speeds_in_rows}
use Rattle.records.specs.Words.{Words, records_in, are_sound}
use Rattle.records.proofs.OrderKeysLaws.{slot_of-key_in, number_of-key_in}
use Rattle.store.proofs.InsertingLaws.{inserted_every}
use Rattle.words.proofs.WordsPlacedLaws.{sound_words}
use Rattle.ledger.specs.Machine.{Ledger, Held, place_in, speeds_placed, rows_in}
use Rattle.ledger.proofs.MachineLaws.{speed_placed}
use Rattle.history.proofs.Relation.{record_of, records_of_held, GoodHeld, Good, Matches}
use Rattle.history.proofs.HeldRecords.{records_length, records_distinct, records_sound}
use Rattle.history.proofs.PlacedRows.{table_valid}

module _ (l : Ledger) (w : Words) (good : Good l) (match : Matches l w) where
  pub count_is : length (records_in w) ≡ length l.held
  count_is = ap length match.records_are ∙ records_length l.held

  -- the row of a held report is the ledger's row of its phase and cell, and holds the speeds placed there
  speeds_held : (h : Held) → GoodHeld l.now l.placements h → in_own_row w.table (record_of h) ≡ true
  unfolding rows_in
  speeds_held h g =
      let r = h.report in
      let p = h.phase in
      let cell : Cell = place_in p r in
      let own : OnGrid cell = cell_on (x_at r (reference_time p)) (y_at r (reference_time p)) in
      let row : row_at w.table (slot_of_key (key_in p r)) (number_of_key (key_in p r)) ≡ rows_in l p cell =
      (λ i. row_at w.table (slot_of-key_in p r i) (number_of-key_in p r i))
      ∙ match.table.rows_are p g.live (curve_number cell) (number_below cell own)
      ∙ ap (rows_in l p) (cell_of_its_number cell own) in
      ap (λ (x : Row). holds x (drift_of r)) row
      ∙ holds_within (bounds_hold (speeds_placed p cell l.placements) (speed_placed l.placements g.placed)) (drift_of r) (holds_one (drift_of r))

  all_held : (hs : List Held) → ((h : Held) → Memᴰ h hs → GoodHeld l.now l.placements h) → speeds_in_rows w.table (records_of_held hs) ≡ true
  unfolding records_of_held every
  all_held [] each = refl
  all_held (h ∷ hs) each =
      inserted_every (in_own_row w.table) (record_of h) (records_of_held hs)
      (speeds_held h (each h (Memᴰ.head refl)))
      (all_held hs (λ g m. each g (Memᴰ.tail m)))

  pub matching_sound : are_sound w ≡ true
  matching_sound =
      let hs = l.held in
      sound_words w match.can_change
      (ap is_time match.time_is ∙ good.time)
      (ap₂ all_sound match.time_is match.records_are ∙ records_sound l.now l.placements hs good.holds)
      (ap ids_distinct match.records_are ∙ records_distinct hs good.once)
      (valid_of_rows w.table (table_valid l w.table good match.table))
      (ap (speeds_in_rows w.table) match.records_are ∙ all_held hs good.holds)
