-- One clock or change, at words that match a good ledger: the index's checks come to the ledger's verdict, and where they are passed the words that it
-- leaves match the ledger that is left, which is good.
-- Assumes nothing.
use Rattle.std.specs.Prelude.{Ok}
use mathlib.Core.Path.{◌≡◌, refl, sym, ap, ap₂, ◌∙◌, subst}
use mathlib.Core.Bool.{Bool, true, false, not}
use mathlib.Core.List.{List, [], ◌∷◌}
use Prim.Native.Nat.{◌<◌}
use native.Mathlib.Omega.{arith}
use lib.Dec.{leb}
use lib.IntN.{ℤ, pos}
use lib.ListN.{length}
use lib.Signed.{le_z, lt_z}
use borrow.Author.Tests.{leb-false, not-false}
use Rattle.ints.proofs.Parts.{signed}
use Rattle.ints.proofs.Least.{le_refl}
use Rattle.ints.proofs.Truth.{and_true, and_left, or_neither}
use Rattle.grid.specs.Units.{capacity}
use Rattle.grid.specs.Reports.{is_time, in_range, stays_at}
use Rattle.grid.specs.declared.Report.{Report}
use Rattle.rows.specs.Phases.{phase_of}
use Rattle.records.specs.Order.{has_id}
use Rattle.records.specs.Words.{Words, time_in, records_in}
use Rattle.records.specs.declared.Record.{Record}
use Rattle.store.specs.Inserting.{inserted}
use Rattle.store.specs.Removing.{removed}
use Rattle.store.specs.Widening.{widened_by_all}
use Rattle.store.specs.Stepping.{placed_in, moved_records}
use Rattle.retiring.specs.Retiring.{kept, stepped_records}
use Rattle.words.specs.Words as Index
use Rattle.words.specs.Needs.{CanPlace}
use Rattle.words.proofs.WordsMovedLaws.{moved_time, moved_records_lem, moved_can_change}
use Rattle.words.proofs.WordsSteppedLaws.{keeping_time, keeping_records, keeping_can_change}
use Rattle.words.proofs.WordsPlacedLaws.{placed_time, placed_records, placed_can_change, taken_time, taken_records, taken_can_change}
use Rattle.ledger.specs.Refusals.{Check, check, first_to_fail, bad_step_time, clock_checks, time_of, id_of, bad_numbers, held_checks, change_checks}
use Rattle.ledger.specs.Machine.{Ledger, Held, is_held, moved_held, keeping, moved_on, stepped, with_report, without_id, changed, rows_in}
use Rattle.ledger.specs.declared.Change.{Change}
use Rattle.ledger.specs.declared.Refusal.TheVariants.{BadTime, BadNumber, AlreadyHeld, NotHeld, Full}
use Rattle.ledger.proofs.MachineLaws.{without_length}
use Rattle.ledger.proofs.RefusalsLaws.{first_passed, others_passed}
use Rattle.engine.specs.Checks.{checks_of_change}
use Rattle.engine.specs.Index as Engine
use Rattle.engine.proofs.ChecksLaws.{can_step}
use Rattle.history.proofs.Relation.{records_of_held, TableMatches, Left}
use Rattle.history.proofs.HeldRecords.{records_length, records_has, records_removed, records_kept, records_moved}
use Rattle.history.proofs.GoodKept.{keeping_good, moved_good, report_good, without_good, without_gone}
use Rattle.history.proofs.PlacedRows.{moved_table, report_table}
use Rattle.history.proofs.Sound.{matching_sound, count_is}

-- a time that is not refused is in range and not before now
module _ (now t : ℤ) (h : bad_step_time now t ≡ false) where
  pub step_time : is_time t ≡ true
  step_time = not-false (is_time t) (or_neither (not (is_time t)) (lt_z t now) h).0

  pub step_later : le_z now t ≡ true
  step_later = let k = (or_neither (not (is_time t)) (lt_z t now) h).1 in omega (arith, signed)

-- ---- the clock step

-- the floats that stay, whichever test says who does
keep_left : (l : Ledger) (w : Words) → Left l w → (stays : Report → Bool) → Left (keeping stays l) (Index.keeping stays w)
unfolding keeping rows_in Index.keeping
keep_left l w left stays =
    let match = left.matches in
    let table = match.table in
    record {
      good = keeping_good stays l left.good;
      matches = record {
        can_change = keeping_can_change stays w match.can_change;
        time_is = keeping_time stays w ∙ match.time_is;
        records_are = keeping_records stays w ∙ ap (kept stays) match.records_are ∙ records_kept stays l.held left.good.once;
        table = record { table_long = table.table_long; rows_are = table.rows_are; rest_empty = table.rest_empty };
      };
    }

-- the clock moved on with them
module _ (l : Ledger) (w : Words) (left : Left l w) (time : ℤ) where
  -- the records then are those of the reports held then
  records_on : moved_records (time_in w) time (records_in w) ≡ records_of_held (moved_held time l.held)
  records_on =
      let good = left.good in
      let match = left.matches in
      ap₂ (λ (z : ℤ) (rs : List Record). moved_records z time rs) match.time_is match.records_are
      ∙ records_moved l.now time l.held good.once (λ h m. (good.holds h m).live)

  move_left : bad_step_time l.now time ≡ false → Left (moved_on time l) (Index.moved_on time w)
  unfolding moved_on Index.moved_on Index.table_moved
  move_left fine =
      let good = left.good in
      let match = left.matches in
      let can = can_step w (matching_sound l w good match) time (ap (λ (z : ℤ). bad_step_time z time) match.time_is ∙ fine) in
      let is_time_lem = step_time l.now time fine in
      let later = step_later l.now time fine in
      record {
        good = moved_good time l good is_time_lem later;
        matches = record {
          can_change = moved_can_change w time can;
          time_is = moved_time w time can;
          records_are = moved_records_lem w time can ∙ records_on;
          table = subst (TableMatches (moved_on time l))
              (sym (ap₂ (λ (z : ℤ) (rs : List Record). Index.table_moved z time rs w.table) match.time_is match.records_are))
              (moved_table l w.table time good match.table is_time_lem later);
        };
      }

-- the whole step
module _ (l : Ledger) (w : Words) (left : Left l w) (time : ℤ) where
  then : Left (keeping (stays_at time) l) (Index.keeping (stays_at time) w)
  then = keep_left l w left (stays_at time)

  records_then : stepped_records (time_in w) time (records_in w) ≡ records_of_held (stepped time l).held
  unfolding stepped moved_on stepped_records
  records_then =
      ap₂ (λ (z : ℤ) (rs : List Record). moved_records z time rs) (sym (keeping_time (stays_at time) w)) (sym (keeping_records (stays_at time) w))
      ∙ records_on (keeping (stays_at time) l) (Index.keeping (stays_at time) w) then time

  pub step_left : bad_step_time l.now time ≡ false → Left (stepped time l) (Index.stepped time w)
  unfolding stepped keeping Index.stepped
  step_left fine = move_left (keeping (stays_at time) l) (Index.keeping (stays_at time) w) then time fine

-- ---- what a change does after it

-- a float taken out
pub take_left : (l : Ledger) (w : Words) → Left l w → (id : ℤ) → Left (without_id id l) (Index.taken_out id w)
unfolding without_id rows_in Index.taken_out
take_left l w left id =
    let match = left.matches in
    let table = match.table in
    record {
      good = without_good id l left.good;
      matches = record {
        can_change = taken_can_change w match.can_change id;
        time_is = taken_time id w ∙ match.time_is;
        records_are = taken_records id w ∙ ap (removed id) match.records_are ∙ records_removed id l.held left.good.once;
        table = record { table_long = table.table_long; rows_are = table.rows_are; rest_empty = table.rest_empty };
      };
    }

-- a report sent now, of a float that is not held, with room for it
pub place_left :
    (l : Ledger) (w : Words) → Left l w
    → (r : Report) → r.t ≡ l.now
    → in_range r ≡ true
    → is_held r.id l.held ≡ false
    → length l.held < capacity
    → Left (with_report r l) (Index.placed r w)
unfolding with_report records_of_held widened_by_all Index.placed
place_left l w left r now ranged new room =
    let good = left.good in
    let match = left.matches in
    let is_time_lem = ap is_time now ∙ good.time in
    let sent = and_true _ _ (and_left (le_z (pos 0) r.t) _ is_time_lem) (ap (le_z r.t) (sym now) ∙ le_refl r.t) in
    let other = ap (has_id r.id) match.records_are ∙ records_has r.id l.held ∙ new in
    let can : CanPlace w r =
    record { can_change = match.can_change; room = omega (arith, count_is l w good match); in_range_lem = ranged; is_time_lem = is_time_lem } in
    let phase = ap (λ (z : ℤ). placed_in (phase_of z) r) now in
    record {
      good = report_good r l good ranged sent new room;
      matches = record {
        can_change = placed_can_change w r can other;
        time_is = placed_time r w ∙ match.time_is;
        records_are = placed_records r w ∙ ap₂ inserted phase match.records_are;
        table = subst (λ (x : Record). TableMatches (with_report r l) (widened_by_all w.table (x ∷ []))) (sym phase) (report_table l w.table r good match.table ranged);
      };
    }

-- ---- one call

module _ (l : Ledger) (w : Words) (left : Left l w) where
  pub clock_same : (t : ℤ) → clock_checks (time_in w) t ≡ clock_checks l.now t
  clock_same t = ap (λ (z : ℤ). clock_checks z t) left.matches.time_is

  pub clock_left : (t : ℤ) → first_to_fail (clock_checks l.now t) ≡ Ok tt → Left (stepped t l) (Index.stepped t w)
  clock_left t p = step_left l w left t (first_passed (bad_step_time l.now t) BadTime [] p)

  module _ (c : Change) where
    abbrev held_then : List Held
    held_then = (stepped (time_of c) l).held

    abbrev pub checks : List Check
    checks = change_checks l.now c (is_held (id_of c) held_then) (length held_then)

    pub change_same : checks_of_change (time_in w) (records_in w) c ≡ checks
    unfolding stepped
    change_same =
        let rs = records_then l w left (time_of c) in
        let held = ap (has_id (id_of c)) rs ∙ records_has (id_of c) held_then in
        let count = ap length rs ∙ records_length held_then in
        λ i. change_checks (left.matches.time_is i) c (held i) (count i)

    abbrev later : List Check
    later = held_checks c (is_held (id_of c) held_then) (length held_then)

    module _ (p : first_to_fail checks ≡ Ok tt) where
      numbers : first_to_fail (check (bad_numbers c) BadNumber ∷ later) ≡ Ok tt
      numbers = others_passed (bad_step_time l.now (time_of c)) BadTime (check (bad_numbers c) BadNumber ∷ later) p

      pub then_left : Left (stepped (time_of c) l) (Index.stepped (time_of c) w)
      then_left = step_left l w left (time_of c) (first_passed (bad_step_time l.now (time_of c)) BadTime (check (bad_numbers c) BadNumber ∷ later) p)

      pub good_numbers : bad_numbers c ≡ false
      good_numbers = first_passed (bad_numbers c) BadNumber later numbers

      pub later_passed : first_to_fail later ≡ Ok tt
      later_passed = others_passed (bad_numbers c) BadNumber later numbers

  pub change_left : (c : Change) → first_to_fail (checks c) ≡ Ok tt → Left (changed c (stepped (time_of c) l)) (Engine.changed c (Index.stepped (time_of c) w))
  unfolding stepped moved_on without_id
  change_left (Change.Add r) p =
      let hs = held_then (Change.Add r) in
      let is_in = is_held r.id hs in
      let full = leb capacity (length hs) in
      let held = later_passed (Change.Add r) p in
      place_left (stepped r.t l) (Index.stepped r.t w) (then_left (Change.Add r) p) r refl
      (not-false (in_range r) (good_numbers (Change.Add r) p))
      (first_passed is_in AlreadyHeld (check full Full ∷ []) held)
      (leb-false capacity (length hs) (first_passed full Full [] (others_passed is_in AlreadyHeld (check full Full ∷ []) held)))
  change_left (Change.Report r) p =
      let hs = held_then (Change.Report r) in
      let is_in = is_held r.id hs in
      let was = not-false is_in (first_passed (not is_in) NotHeld [] (later_passed (Change.Report r) p)) in
      let l₁ = stepped r.t l in
      let left₁ = then_left (Change.Report r) p in
      let few = left₁.good.few in
      place_left (without_id r.id l₁) (Index.taken_out r.id (Index.stepped r.t w)) (take_left l₁ (Index.stepped r.t w) left₁ r.id) r refl
      (not-false (in_range r) (good_numbers (Change.Report r) p))
      (without_gone r.id hs left₁.good.once)
      (omega (arith, without_length r.id hs was))
  change_left (Change.Drop id t) p = take_left (stepped t l) (Index.stepped t w) (then_left (Change.Drop id t) p) id
