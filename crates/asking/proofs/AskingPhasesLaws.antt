-- What an ask reads in the live phases of a sound store and table: in each phase exactly the records that are placed in it and are to be listed; and how far from
-- the reference time of such a phase an asked time may lie.
-- Assumes nothing.
use mathlib.Core.Path.{◌≡◌, sym, ap, ap₂, ◌∙◌}
use mathlib.Core.Bool.{Bool, true, false, ◌&&◌, not}
use mathlib.Core.List.{Memᴰ}
use Prim.Native.Nat.{ℕ, ◌≤◌, ◌^◌}
use native.Mathlib.Omega.{arith}
use lib.Dec.{eqb}
use lib.IntN.{ℤ, pos, nat_abs, neg_ℤ, ◌+ℤ◌, ◌-ℤ◌}
use lib.ListN.{length}
use lib.Signed.{le_z}
use borrow.Author.Tests.{eqb-true, eq-eqb, not-false}
use Rattle.ints.specs.Whole.{between, up}
use Rattle.ints.proofs.Parts.{signed, abs, one_part, add, sub, le_true}
use Rattle.ints.proofs.Truth.{same_truth, and_true, and_left, and_right, or_neither}
use Rattle.ints.proofs.Lists.{passing, passing_same, every_each}
use Rattle.grid.specs.Units.{last_position, last_time}
use Rattle.grid.specs.Curve.{curve_number}
use Rattle.grid.specs.Reports.{is_time, is_position, x_at, y_at, cell_at_time, is_listed}
use Rattle.grid.specs.Small.{SmallRect, SmallTimes}
use Rattle.grid.specs.declared.Query.{Query}
use Rattle.grid.specs.declared.Rect.{Rect}
use Rattle.grid.specs.declared.When.{When}
use Rattle.grid.specs.declared.When.TheVariants.{At, During}
use Rattle.grid.proofs.PlacesLaws.{cell_on}
use Rattle.grid.proofs.CurveLaws.{number_below}
use Rattle.rows.specs.Phases.{phase_of, reference_time, since_reference, is_live, live_phases, slot_of, last_phase}
use Rattle.rows.specs.Table.{row_at}
use Rattle.rows.proofs.PhasesLaws.{phase_is, live_range, same_slot, slot_on, listed_live}
use Rattle.rows.proofs.TableLaws.{valid_row-at}
use Rattle.methods.specs.Aims.{seen_from, view_of, placed_by, held_by}
use Rattle.methods.specs.Fair.{InOrder}
use Rattle.methods.specs.Slots.{rows_of_slot}
use Rattle.methods.specs.Slices.{earliest, latest, IsSlice}
use Rattle.reaching.specs.Reaching.{IsAsk, IsViewAsk, CanCountAll}
use Rattle.methods.specs.Claims.{ValidRows}
use Rattle.methods.proofs.Claims.{listed_is_read}
use Rattle.methods.proofs.Marks.{mark_of_cell}
use Rattle.records.specs.Words.{Words, time_in, records_in}
use Rattle.records.specs.Order.{slot_of_key, number_of_key, phase_of_key}
use Rattle.records.specs.Soundness.{in_own_row}
use Rattle.records.specs.declared.Record.{Record}
use Rattle.records.proofs.SoundnessRangeLaws.{time_from, between_from}
use Rattle.records.proofs.OrderKeysLaws.{number_of-key_in}
use Rattle.records.proofs.SoundnessLaws.{SoundRecord, all_sound-each, Sound}
use Rattle.reading.specs.Reading.{in_set, is_read}
use Rattle.ledger.specs.Refusals.{out_of_ask_range, bad_when, bad_ask_time, bad_ask, is_rectangle}
use Rattle.ledger.specs.declared.Ask.{Ask}
use Rattle.ledger.proofs.MachineSummedLaws.{summed_same, phases_summed}
use Rattle.asking.specs.Asking.{choice_of, marks_in, listed_of, ids_needed}
use Rattle.asking.specs.Claims.{EveryDIsInRange}

-- ---- what an ask that is not declined for its numbers asks for

pub good_method : (ask : Ask) → bad_ask ask ≡ false → between (pos 0) (pos 3) ask.method ≡ true
good_method ask k = and_left _ (is_rectangle ask.query.rect) (not-false _ k)

time_small : (t : ℤ) → is_time t ≡ true → nat_abs t ≤ 2 ^ 30
time_small t h = let f = between_from 0 last_time t h in omega (arith, abs t, one_part t)

-- one of its times
pub record FitTime (now t : ℤ) : Type 0 where
  pub is_time_lem : is_time t ≡ true
  pub near : between (now -ℤ pos 3600) (now +ℤ pos 7200) t ≡ true

fit_time : (now t : ℤ) → out_of_ask_range now t ≡ false → FitTime now t
fit_time now t h =
    let near = between (now -ℤ pos 3600) (now +ℤ pos 7200) t in
    let neither = or_neither (not (is_time t)) (not near) h in
    record { is_time_lem = not-false (is_time t) neither.0; near = not-false near neither.1 }

-- now is in one of the three phases from a live one on, and such a time is near to now
d_in_range :
    (now asked : ℤ) (p : ℕ)
    → is_time now ≡ true
    → FitTime now asked
    → is_live (phase_of now) p ≡ true
    → between (neg_ℤ (pos earliest)) (pos latest) (since_reference p asked) ≡ true
unfolding reference_time
d_in_range now asked p time f live =
    let t = time_from now time in
    let range = live_range (phase_of now) p live in
    let phase = phase_is now in
    let low = sub now (pos 3600) in
    let high = add now (pos 7200) in
    let since = sub asked (reference_time p) in
    let early = le_true (now -ℤ pos 3600) asked (and_left _ (le_z asked (now +ℤ pos 7200)) f.near) in
    let late = le_true asked (now +ℤ pos 7200) (and_right (le_z (now -ℤ pos 3600) asked) _ f.near) in
    let d = since_reference p asked in
    and_true (le_z (neg_ℤ (pos earliest)) d) (le_z d (pos latest)) (omega (arith, signed)) (omega (arith, signed))

pub every_d_is_in_range : EveryDIsInRange
every_d_is_in_range now asked p time h live = d_in_range now asked p time (fit_time now asked h) live

-- all of them
abbrev pub FitWhen : ℤ → When → Type 0
FitWhen now (At t) = FitTime now t
FitWhen now (During first last) = FitTime now first × FitTime now last

fit_when : (now : ℤ) (when : When) → bad_when now when ≡ false → FitWhen now when
fit_when now (At t) h = fit_time now t h
fit_when now (During first last) h =
    let neither = or_neither (out_of_ask_range now first) (out_of_ask_range now last) h in
    (fit_time now first neither.0, fit_time now last neither.1)

pub record FitAsk (now : ℤ) (query : Query) : Type 0 where
  pub times : FitWhen now query.when
  pub is_rectangle_lem : is_rectangle query.rect ≡ true

pub fit_ask : (now : ℤ) (ask : Ask) → bad_ask_time now ask.query ≡ false → bad_ask ask ≡ false → FitAsk now ask.query
fit_ask now ask h k =
    record {
      times = fit_when now ask.query.when h;
      is_rectangle_lem = and_right (between (pos 0) (pos 3) ask.method) _ (not-false _ k);
    }

-- a rectangle that passed its check has its corners in order
pub rectangle_ordered : (q : Rect) → is_rectangle q ≡ true → InOrder q
unfolding is_rectangle
rectangle_ordered q h =
    let x = le_z q.x.low q.x.high in
    let y = le_z q.y.low q.y.high in
    let o = and_right ((is_position q.x.low && is_position q.x.high) && (is_position q.y.low && is_position q.y.high)) (x && y) h in
    record { x_ordered = and_left x y o; y_ordered = and_right x y o }

module _ (now : ℤ) (query : Query) (fit : FitAsk now query) where
  abbrev q : Rect
  q = query.rect

  abbrev sea_x : Bool
  sea_x = is_position q.x.low && is_position q.x.high

  abbrev sea_y : Bool
  sea_y = is_position q.y.low && is_position q.y.high

  abbrev ordered : Bool
  ordered = le_z q.x.low q.x.high && le_z q.y.low q.y.high

  parts : (sea_x && sea_y) && ordered ≡ true
  unfolding is_rectangle
  parts = fit.is_rectangle_lem

  pub fit_in_order : InOrder q
  fit_in_order = rectangle_ordered q fit.is_rectangle_lem

  sea : sea_x && sea_y ≡ true
  sea = and_left (sea_x && sea_y) ordered parts

  corner_small : (z : ℤ) → is_position z ≡ true → nat_abs z ≤ 2 ^ 45
  corner_small z h = let f = between_from 0 last_position z h in omega (arith, abs z, one_part z)

  -- no sum or product over the rectangle leaves 64 bits
  pub fit_small : SmallRect q
  fit_small =
      let x = and_left sea_x sea_y sea in
      let y = and_right sea_x sea_y sea in
      record {
        along_x_lem = record {
          small_low = corner_small q.x.low (and_left (is_position q.x.low) _ x);
          small_high = corner_small q.x.high (and_right (is_position q.x.low) _ x);
        };
        along_y_lem = record {
          small_low = corner_small q.y.low (and_left (is_position q.y.low) _ y);
          small_high = corner_small q.y.high (and_right (is_position q.y.low) _ y);
        };
      }

  module _ (time : is_time now ≡ true) (p : ℕ) (live : is_live (phase_of now) p ≡ true) where
    fit_slice : (asked : ℤ) → FitTime now asked → IsSlice (record { rect = q; d = since_reference p asked })
    fit_slice asked f =
        let d = since_reference p asked in
        let in_range_lem = d_in_range now asked p time f live in
        record {
          in_order = fit_in_order;
          not_early = and_left (le_z (neg_ℤ (pos earliest)) d) _ in_range_lem;
          not_late = and_right (le_z (neg_ℤ (pos earliest)) d) _ in_range_lem;
        }

    asked_at : (asked : ℤ) → FitTime now asked → IsAsk (record { rect = q; d = since_reference p asked })
    asked_at asked f =
        let x = and_left sea_x sea_y sea in
        let y = and_right sea_x sea_y sea in
        record {
          low_x_in_sea = and_left (is_position q.x.low) _ x;
          high_x_in_sea = and_right (is_position q.x.low) _ x;
          low_y_in_sea = and_left (is_position q.y.low) _ y;
          high_y_in_sea = and_right (is_position q.y.low) _ y;
          is_slice = fit_slice asked f;
        }

    asked_when : (when : When) → FitWhen now when → IsViewAsk (seen_from p q when)
    asked_when (At t) f = asked_at t f
    asked_when (During first last) f = record { first_ask = asked_at first f.0; last_ask = asked_at last f.1 }

    pub asked_in : IsViewAsk (view_of p query)
    asked_in = asked_when query.when fit.times

-- its times are small, and a phase can be subtracted from each
pub small_times : (now : ℤ) (when : When) → FitWhen now when → SmallTimes when
small_times now (At t) f = time_small t f.is_time_lem
small_times now (During first last) f = (time_small first f.0.is_time_lem, time_small last f.1.is_time_lem)

pub can_count : (now : ℤ) (p : ℕ) → p ≤ last_phase → (when : When) → FitWhen now when → CanCountAll when p
can_count now p h (At t) f = record { is_time_lem = f.is_time_lem; small_phase = h }
can_count now p h (During first last) f =
    (record { is_time_lem = f.0.is_time_lem; small_phase = h }, record { is_time_lem = f.1.is_time_lem; small_phase = h })

-- ---- reading in the live phases

-- the live phase of a record, and whether a record is placed in a phase and to be listed
abbrev pub phase_of_record : ℤ → Record → ℕ
phase_of_record now r = phase_of_key (phase_of now) r.key

abbrev pub is_inside : Query → Record → Bool
is_inside query r = is_listed query r.report

abbrev pub is_inside_in : ℤ → Query → ℕ → Record → Bool
is_inside_in now query p r = eqb (phase_of_record now r) p && is_inside query r

module _ (w : Words) (sound : Sound w.store w.table) (ask : Ask) (fit : FitAsk (time_in w) ask.query) where
  pub float_at : {r : Record} → Memᴰ r (records_in w) → SoundRecord (time_in w) r
  float_at {r} m = all_sound-each (time_in w) (records_in w) sound.store.sound r m

  valid_rows : (p : ℕ) → ValidRows (rows_of_slot w.table (slot_of p))
  valid_rows p c on = valid_row-at w.table sound.valid (slot_of p) (curve_number c) (slot_on p) (number_below c on)

  -- the cell of a record to be listed is marked in the record's phase: its row holds its speeds, so no method leaves the cell out
  own_mark : {r : Record} → Memᴰ r (records_in w) → is_inside ask.query r ≡ true → in_set (marks_in w ask (phase_of_record (time_in w) r)) (number_of_key r.key) ≡ true
  own_mark {r} m h =
      let placed = (float_at m).placed in
      let p = phase_of_record (time_in w) r in
      let float = r.report in
      let from = reference_time p in
      let own = cell_at_time float from in
      let rows = rows_of_slot w.table (slot_of p) in
      let number : number_of_key r.key ≡ curve_number own = ap number_of_key placed.key_is ∙ number_of-key_in p float in
      let row : held_by (rows own) (placed_by p float) ≡ true =
      sym (ap₂ (λ (a b : ℕ). held_by (row_at w.table a b) (placed_by p float)) placed.slot_is number) ∙ every_each (in_own_row w.table) (records_in w) sound.speeds m in
      let chosen = listed_is_read rows (valid_rows p) p ask.query (fit_in_order (time_in w) ask.query fit) float row h (up ask.method) in
      ap (in_set (marks_in w ask p)) number ∙ mark_of_cell (choice_of w ask p).cells own (cell_on (x_at float from) (y_at float from)) chosen

  -- a live phase reads exactly the records placed in it that are to be listed
  read_is :
      (p : ℕ)
      → is_live (phase_of (time_in w)) p ≡ true
      → {r : Record}
      → Memᴰ r (records_in w)
      → is_read (marks_in w ask p) (slot_of p) (is_listed ask.query) r ≡ is_inside_in (time_in w) ask.query p r
  read_is p live {r} m =
      let placed = (float_at m).placed in
      let own = phase_of_record (time_in w) r in
      let number = number_of_key r.key in
      let slot = eqb (slot_of_key r.key) (slot_of p) in
      let set = in_set (marks_in w ask p) number in
      same_truth _ _
      (λ h.
      let front = and_left (slot && set) (is_inside ask.query r) h in
      let there = eqb-true (slot_of_key r.key) (slot_of p) (and_left slot set front) in
      and_true _ _
      (eq-eqb own p (same_slot (phase_of (time_in w)) own p placed.live live (sym placed.slot_is ∙ there)))
      (and_right (slot && set) (is_inside ask.query r) h))
      (λ h.
      let e = eqb-true own p (and_left (eqb own p) (is_inside ask.query r) h) in
      let inside = and_right (eqb own p) (is_inside ask.query r) h in
      and_true _ _
      (and_true slot set (eq-eqb (slot_of_key r.key) (slot_of p) (placed.slot_is ∙ ap slot_of e))
      (sym (ap (λ (k : ℕ). in_set (marks_in w ask k) number) e) ∙ own_mark m inside))
      inside)

  pub listed_of-phase : (p : ℕ) → is_live (phase_of (time_in w)) p ≡ true → listed_of w ask p ≡ passing (is_inside_in (time_in w) ask.query p) (records_in w)
  listed_of-phase p live =
      passing_same (is_read (marks_in w ask p) (slot_of p) (is_listed ask.query)) (is_inside_in (time_in w) ask.query p) (records_in w)
      (λ r m. read_is p live m)

  -- the ids needed are as many as the records to be listed
  pub needed_is : ids_needed w ask ≡ length (passing (is_inside ask.query) (records_in w))
  unfolding ids_needed
  needed_is =
      summed_same
      (λ p. length (listed_of w ask p))
      (λ p. length (passing (is_inside_in (time_in w) ask.query p) (records_in w)))
      (live_phases (phase_of (time_in w)))
      (λ p m. ap length (listed_of-phase p (listed_live (phase_of (time_in w)) p m)))
      ∙ phases_summed (phase_of_record (time_in w)) (is_inside ask.query) (phase_of (time_in w)) (records_in w) (λ r m. (float_at m).placed.live)
