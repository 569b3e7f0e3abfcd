-- The rows of the index's table are the ledger's: valid, and still so after a clock step and after a report is placed.
-- Assumes nothing.
use mathlib.Core.Path.{◌≡◌, refl, sym, ap, ap₂, ◌∙◌, subst}
use mathlib.Core.Bool.{Bool, true, false, cond, ◌&&◌, not}
use mathlib.Core.List.Memᴰ
use mathlib.Core.List.{List, [], ◌∷◌, ◌++◌, map, Memᴰ}
use mathlib.Core.Logic.{⊎_elim, dite}
use Prim.Native.Nat.{ℕ, ◌≤◌, ◌<◌}
use native.Mathlib.Decide.{dec_lt}
use native.Mathlib.Omega.{arith}
use lib.Dec.{eqb}
use lib.IntN.{ℤ}
use lib.ListN.{length}
use lib.Signed.{le_z}
use borrow.Author.Tests.{eqb-true, eq-eqb, ne_eqb}
use Rattle.ints.specs.Lists.{passing}
use Rattle.ints.proofs.Lists.{map-passing}
use Rattle.ints.proofs.Truth.{same_truth}
use Rattle.grid.specs.Units.{cells}
use Rattle.grid.specs.Places.{same_cell, OnGrid}
use Rattle.grid.specs.Curve.{curve_number, cell_of_number}
use Rattle.grid.specs.Reports.{is_time, in_range, x_at, y_at}
use Rattle.grid.specs.declared.Cell.{Cell}
use Rattle.grid.specs.declared.Report.{Report}
use Rattle.grid.proofs.PlacesLaws.{same_cell_lem, cell_same, cell_on}
use Rattle.grid.proofs.CurveLaws.{number_of_its_cell, cell_of_its_number}
use Rattle.rows.specs.Row.{drift_of, empty_row, row_of_drift, joined, valid_row, bounds_of}
use Rattle.rows.specs.Phases.{phase_of, reference_time, is_live, slot_of, slots}
use Rattle.rows.specs.Table.{table_words, row_at, with_newly_live_empty}
use Rattle.rows.specs.declared.Row.{Row}
use Rattle.rows.proofs.RowLaws.{AllValid, joined_same, drift_ranged, ranged_valid, empty_valid, bounds_valid, bounds_append}
use Rattle.rows.proofs.PhasesLaws.{live_range, range_live, same_slot, slot_on, phases_grow}
use Rattle.rows.proofs.TableLaws.{length_newly_live_empty, newly_live_emptied, earlier_live_kept}
use Rattle.rows.proofs.TableSlotLaws.{phase_in_slot, slot_cases, other_slot_kept}
use Rattle.records.specs.Order.{key_in, slot_of_key, number_of_key}
use Rattle.store.specs.Widening.{widened_by_all}
use Rattle.store.specs.Stepping.{placed_in, lives_on, moves, replaced}
use Rattle.records.specs.declared.Record.{Record}
use Rattle.records.proofs.OrderKeysLaws.{slot_of-key_in, number_of-key_in}
use Rattle.records.proofs.SoundnessRangeLaws.{drift-in_range}
use Rattle.store.proofs.SteppingLaws.{replaced_from}
use Rattle.store.proofs.WideningLaws.{lies_at, speeds_at, Placeable, new_bounds, with_one, bounds_inserted, with_speeds_length, row_with_speeds, none_elsewhere}
use Rattle.store.proofs.WideningLaws as Records
use Rattle.ledger.specs.Machine as Ledger
use Rattle.ledger.specs.Machine.{Ledger, Held, Placement, place_in, placement, new_placements, live_placements, moved_on, with_report, speeds_placed, rows_in}
use Rattle.ledger.proofs.MachineLaws.{is_there, own_row, speeds_append, speeds_live, no_speeds, speed_from}
use Rattle.history.proofs.Relation.{record_of, records_of_held, GoodPlacement, Good, TableMatches}
use Rattle.history.proofs.HeldRecords.{records_from, lives_on-held}
use Rattle.history.proofs.GoodKept.{current_live, moved_good}

-- ---- valid rows

pub speeds_valid : (now : ℤ) (p : ℕ) (c : Cell) (ps : List Placement) → ((a : Placement) → Memᴰ a ps → GoodPlacement now a) → AllValid (speeds_placed p c ps)
speeds_valid now p c ps each r m =
    let from = speed_from p c ps m in
    let a = from.0 in
    let g = each a from.1 in
    ap valid_row from.2 ∙ ranged_valid (drift_ranged a.drift g.in_range_lem)

pub table_valid : (l : Ledger) (table : List ℤ) → Good l → TableMatches l table → (slot n : ℕ) → slot < slots → n < cells → valid_row (row_at table slot n) ≡ true
unfolding rows_in
table_valid l table good matches slot n h k = ⊎_elim live none (slot_cases (phase_of l.now) slot h)
  where
    live : (p : ℕ) × (is_live (phase_of l.now) p ≡ true) × (slot_of p ≡ slot) → valid_row (row_at table slot n) ≡ true
    live e =
        ap (λ (x : ℕ). valid_row (row_at table x n)) (sym e.2)
        ∙ ap valid_row (matches.rows_are e.0 e.1 n k)
        ∙ bounds_valid (speeds_placed e.0 (cell_of_number n) l.placements) (speeds_valid l.now e.0 (cell_of_number n) l.placements good.places)

    none : ((p : ℕ) → is_live (phase_of l.now) p ≡ true → slot_of p ≡ slot → ⊥) → valid_row (row_at table slot n) ≡ true
    none far = ap valid_row (matches.rest_empty slot n h k far) ∙ empty_valid

-- ---- a report placed in a phase lies in a row of the table exactly where the ledger places it in that row's phase and cell

module _ (c p q n : ℕ) (r : Report) (live_p : is_live c p ≡ true) (live-q : is_live c q ≡ true) (here : n < cells) where
  same_phase : eqb (slot_of_key (key_in q r)) (slot_of p) ≡ eqb q p
  same_phase =
      same_truth _ _
      (λ e. eq-eqb q p (same_slot c q p live-q live_p (sym (slot_of-key_in q r) ∙ eqb-true (slot_of_key (key_in q r)) (slot_of p) e)))
      (λ e. eq-eqb (slot_of_key (key_in q r)) (slot_of p) (slot_of-key_in q r ∙ ap slot_of (eqb-true q p e)))

  same_place : eqb (number_of_key (key_in q r)) n ≡ same_cell (place_in q r) (cell_of_number n)
  same_place = same_truth _ _ there back
    where
      own : OnGrid (place_in q r)
      own = cell_on (x_at r (reference_time q)) (y_at r (reference_time q))

      there : eqb (number_of_key (key_in q r)) n ≡ true → same_cell (place_in q r) (cell_of_number n) ≡ true
      there e =
          let number = sym (number_of-key_in q r) ∙ eqb-true (number_of_key (key_in q r)) n e in
          cell_same (sym (cell_of_its_number (place_in q r) own) ∙ ap cell_of_number number)

      back : same_cell (place_in q r) (cell_of_number n) ≡ true → eqb (number_of_key (key_in q r)) n ≡ true
      back e =
          eq-eqb (number_of_key (key_in q r)) n
          (number_of-key_in q r ∙ ap curve_number (same_cell_lem (place_in q r) (cell_of_number n) e) ∙ number_of_its_cell n here)

  pub placed_alike : lies_at (slot_of p) n (placed_in q r) ≡ is_there p (cell_of_number n) (placement q r)
  placed_alike = ap₂ ◌&&◌ same_phase same_place

pub placeable : (p : ℕ) (r : Report) → in_range r ≡ true → Placeable (placed_in p r)
placeable p r h = record { slot_on = omega (arith, slot_of-key_in p r, slot_on p); in_range_lem = drift-in_range r h }

-- ---- the clock moved on

-- the bounds of the speeds placed anew in a row, by the records and by the held reports
pub bounds_alike : (now time : ℤ) (p n : ℕ) (hs : List Held) → ((h : Held) → Memᴰ h hs → is_live (phase_of now) h.phase ≡ true) → is_live (phase_of time) p ≡ true → n < cells
    → new_bounds (phase_of time) (moves now time) (slot_of p) n (records_of_held hs) ≡ bounds_of (speeds_placed p (cell_of_number n) (new_placements time hs))
unfolding records_of_held new_placements speeds_placed bounds_of speeds_at passing
bounds_alike now time p n [] each live k = refl
bounds_alike now time p n (h ∷ hs) each live k =
    bounds_inserted (phase_of time) (moves now time) (slot_of p) n (record_of h) (records_of_held hs)
    ∙ ap (with_one (phase_of time) (moves now time) (slot_of p) n (record_of h)) (bounds_alike now time p n hs (λ g m. each g (Memᴰ.tail m)) live k)
    ∙ ap₂ (λ (a b : Bool). cond a (cond b (joined one bounds) bounds) bounds) (ap not phase) (placed_alike later p later n h.report live (current_live later) k)
    ∙ go (Ledger.moves time h)
  where
    later : ℕ
    later = phase_of time

    speeds : List Row
    speeds = speeds_placed p (cell_of_number n) (new_placements time hs)

    bounds : Row
    bounds = bounds_of speeds

    one : Row
    one = row_of_drift (drift_of h.report)

    phase : lives_on now time (record_of h) ≡ is_live (phase_of time) h.phase
    phase = lives_on-held now time h (each h (Memᴰ.head refl))

    inner : (b : Bool) → cond b (joined one bounds) bounds ≡ bounds_of (cond b (one ∷ speeds) speeds)
    inner true = refl
    inner false = refl

    anew : Bool → List Placement
    anew a = map (λ x. placement (phase_of time) x.report) (cond a (h ∷ passing (Ledger.moves time) hs) (passing (Ledger.moves time) hs))

    go : (a : Bool) → cond a (cond (is_there p (cell_of_number n) (placement (phase_of time) h.report)) (joined one bounds) bounds) bounds ≡ bounds_of (speeds_placed p (cell_of_number n) (anew a))
    go true =
        let new = placement (phase_of time) h.report in
        inner (is_there p (cell_of_number n) new)
        ∙ ap bounds_of (sym (map-passing own_row (is_there p (cell_of_number n)) new (new_placements time hs)))
    go false = refl

module _ (l : Ledger) (table : List ℤ) (time : ℤ) (good : Good l) (matches : TableMatches l table) (is_time_lem : is_time time ≡ true) (later : le_z l.now time ≡ true) where
  abbrev c : ℕ
  c = phase_of l.now

  abbrev c' : ℕ
  c' = phase_of time

  abbrev emptied : List ℤ
  emptied = with_newly_live_empty table c c'

  abbrev anew : List Record
  anew = replaced c' (moves l.now time) (records_of_held l.held)

  not_earlier : c ≤ c'
  not_earlier = phases_grow l.now time later

  long : length emptied ≡ table_words
  long = length_newly_live_empty table c c' matches.table_long

  each_placeable : (r : Record) → Memᴰ r anew → Placeable r
  each_placeable r m =
      let from = replaced_from c' (moves l.now time) (records_of_held l.held) m in
      let held = records_from l.held from.1 in
      let report = ap (λ (x : Record). x.report) held.2 in
      subst Placeable (sym from.2)
      (placeable c' from.0.report (ap in_range report ∙ (good.holds held.0 held.1).ranged))

  module _ (p n : ℕ) (live : is_live c' p ≡ true) (here : n < cells) where
    abbrev old : List Row
    old = speeds_placed p (cell_of_number n) (live_placements time l.placements)

    abbrev new : List Row
    new = speeds_placed p (cell_of_number n) (new_placements time l.held)

    kept_row : row_at emptied (slot_of p) n ≡ bounds_of old
    unfolding rows_in bounds_of
    kept_row =
        dite (dec_lt c p)
        (λ newly.
        newly_live_emptied table c c' matches.table_long p n live here newly
        ∙ sym (ap bounds_of (speeds_live time p (cell_of_number n) l.placements live
        ∙ no_speeds p (cell_of_number n) l.placements (λ a m e. let r = live_range c a.phase (good.places a m).live in omega arith))))
        (λ n₂.
        let before : p ≤ c = omega arith in
        let range = live_range c' p live in
        let was : is_live c p ≡ true = range_live c p before (omega (arith, not_earlier)) in
        earlier_live_kept table c c' matches.table_long p n live here before
        ∙ matches.rows_are p was n here
        ∙ sym (ap bounds_of (speeds_live time p (cell_of_number n) l.placements live)))

    good_after : (a : Placement) → Memᴰ a (live_placements time l.placements ++ new_placements time l.held) → GoodPlacement time a
    unfolding moved_on
    good_after = (moved_good time l good is_time_lem later).places

    row_moved : row_at (widened_by_all emptied anew) (slot_of p) n ≡ bounds_of (speeds_placed p (cell_of_number n) (live_placements time l.placements ++ new_placements time l.held))
    row_moved =
        let v : valid_row (row_at emptied (slot_of p) n) ≡ true =
        ap valid_row kept_row
        ∙ bounds_valid old (speeds_valid time p (cell_of_number n) (live_placements time l.placements)
        (λ a m. good_after a (Memᴰ.append_left (new_placements time l.held) m))) in
        row_with_speeds emptied anew (slot_of p) n long each_placeable here v
        ∙ ap₂ joined kept_row (bounds_alike l.now time p n l.held (λ h m. (good.holds h m).live) live here)
        ∙ sym (bounds_append old new)
        ∙ sym (ap bounds_of (speeds_append p (cell_of_number n) (live_placements time l.placements) (new_placements time l.held)))

  rest_stepped : (slot n : ℕ) → slot < slots → n < cells → ((p : ℕ) → is_live c' p ≡ true → slot_of p ≡ slot → ⊥) → row_at (widened_by_all emptied anew) slot n ≡ empty_row
  unfolding bounds_of
  rest_stepped slot n h here far =
      let was : (q : ℕ) → is_live c q ≡ true → slot_of q ≡ slot → ⊥ =
      λ q live e. let range = live_range c q live in let s = phase_in_slot c' q (omega (arith, not_earlier)) in far s.0 s.1 (s.2 ∙ e) in
      let empty = other_slot_kept table c c' slot n matches.table_long here far ∙ matches.rest_empty slot n h here was in
      row_with_speeds emptied anew slot n long each_placeable here (ap valid_row empty ∙ empty_valid)
      ∙ ap₂ (λ (x : Row) (s : List Row). joined x (bounds_of s)) empty (none_elsewhere c' (moves l.now time) slot n (records_of_held l.held) (far c' (current_live c')))
      ∙ joined_same empty_row

  pub moved_table : TableMatches (moved_on time l) (widened_by_all emptied anew)
  unfolding moved_on rows_in
  moved_table =
      record { table_long = with_speeds_length emptied anew ∙ long; rows_are = λ p live n h. row_moved p n live h; rest_empty = rest_stepped }

-- ---- a report placed in the current phase

module _ (l : Ledger) (table : List ℤ) (r : Report) (good : Good l) (matches : TableMatches l table) (ranged : in_range r ≡ true) where
  abbrev now : ℕ
  now = phase_of l.now

  abbrev one : List Record
  one = placed_in now r ∷ []

  one_placeable : (x : Record) → Memᴰ x one → Placeable x
  one_placeable x m = subst Placeable (sym (Memᴰ.eq_of_singleton m)) (placeable now r ranged)

  speeds_alike : (p n : ℕ) → is_live now p ≡ true → n < cells → speeds_at (slot_of p) n one ≡ speeds_placed p (cell_of_number n) (placement now r ∷ [])
  unfolding speeds_at speeds_placed passing
  speeds_alike p n live here =
      map-passing Records.own_row (lies_at (slot_of p) n) (placed_in now r) []
      ∙ ap (λ (b : Bool). cond b (row_of_drift (drift_of r) ∷ []) []) (placed_alike now p now n r live (current_live now) here)
      ∙ sym (map-passing own_row (is_there p (cell_of_number n)) (placement now r) [])

  row_placed : (p : ℕ) → is_live now p ≡ true → (n : ℕ) → n < cells
      → row_at (widened_by_all table one) (slot_of p) n ≡ bounds_of (speeds_placed p (cell_of_number n) (l.placements ++ placement now r ∷ []))
  unfolding rows_in
  row_placed p live n here =
      row_with_speeds table one (slot_of p) n matches.table_long one_placeable here (table_valid l table good matches (slot_of p) n (slot_on p) here)
      ∙ ap₂ (λ (x : Row) (s : List Row). joined x (bounds_of s)) (matches.rows_are p live n here) (speeds_alike p n live here)
      ∙ sym (bounds_append (speeds_placed p (cell_of_number n) l.placements) (speeds_placed p (cell_of_number n) (placement now r ∷ [])))
      ∙ sym (ap bounds_of (speeds_append p (cell_of_number n) l.placements (placement now r ∷ [])))

  rest_placed : (slot n : ℕ) → slot < slots → n < cells → ((p : ℕ) → is_live now p ≡ true → slot_of p ≡ slot → ⊥) → row_at (widened_by_all table one) slot n ≡ empty_row
  unfolding bounds_of speeds_at passing
  rest_placed slot n h here far =
      let empty = matches.rest_empty slot n h here far in
      let other : eqb (slot_of_key (key_in now r)) slot ≡ false =
      ne_eqb (slot_of_key (key_in now r)) slot (λ e. far now (current_live now) (sym (slot_of-key_in now r) ∙ e)) in
      let none : speeds_at slot n one ≡ [] = rw other in
      row_with_speeds table one slot n matches.table_long one_placeable here (ap valid_row empty ∙ empty_valid)
      ∙ ap₂ (λ (x : Row) (s : List Row). joined x (bounds_of s)) empty none
      ∙ joined_same empty_row

  pub report_table : TableMatches (with_report r l) (widened_by_all table one)
  unfolding with_report rows_in
  report_table =
      record { table_long = with_speeds_length table one ∙ matches.table_long; rows_are = row_placed; rest_empty = rest_placed }
