-- What the first two checks, of the lent words, leave for the others; and what the checks of a clock, a change and an ask say when they are passed.
-- Assumes nothing.
use Rattle.std.specs.Prelude.{Result, Ok, Err}
use mathlib.Core.Path.{◌≡◌, refl, sym, ap, ◌∙◌, subst}
use mathlib.Core.Bool.{Bool, true, false, not, ◌&&◌}
use mathlib.Core.List.{List, [], ◌∷◌}
use Prim.Native.Nat.{ℕ, ◌<◌}
use native.Mathlib.Omega.{arith}
use lib.Dec.{eqb, leb}
use lib.IntN.{ℤ}
use lib.ListN.{length}
use lib.Signed.{lt_z}
use borrow.Author.Tests.{eq-eqb, eqb-true, leb-false, not-false}
use Rattle.ints.specs.Lists.{some}
use Rattle.ints.proofs.Parts.{signed, true_false}
use Rattle.ints.proofs.Truth.{and_true, and_left, and_right, or_neither}
use Rattle.grid.specs.Units.{capacity}
use Rattle.grid.specs.Reports.{is_time, in_range, stays_at}
use Rattle.grid.specs.declared.Report.{Report}
use Rattle.rows.specs.Phases.{phase_of}
use Rattle.rows.specs.Table.{table_words}
use Rattle.records.specs.Records.{store_words}
use Rattle.records.specs.Order.{has_id}
use Rattle.records.specs.Soundness.{ids_distinct, IsStore}
use Rattle.records.specs.Words.{Words, time_in, records_in, are_sound}
use Rattle.records.specs.declared.Record.{Record}
use Rattle.records.proofs.SoundnessLaws as Sound
use Rattle.store.specs.Stepping.{placed_in}
use Rattle.store.proofs.InsertingLaws.{inserted_length}
use Rattle.store.proofs.RemovingLaws.{removed_length}
use Rattle.store.proofs.SteppingLaws.{has_moved, moved_length}
use Rattle.retiring.specs.Retiring.{kept, stepped_records}
use Rattle.words.specs.Words.{stepped, taken_out}
use Rattle.words.specs.Needs.{RightLengths, CanStep, CanPlace, CanReplace}
use Rattle.words.proofs.WordsPlacedLaws.{placed_records, taken_records}
use Rattle.words.proofs.WordsSteppedLaws.{stepped_records_lem, stepped_can_change}
use Rattle.ledger.specs.Refusals.{Check, check, unless, first_to_fail, bad_time, bad_step_time, time_of, id_of, bad_numbers, held_checks, change_checks, ask_number_checks}
use Rattle.ledger.specs.declared.Ask.{Ask}
use Rattle.ledger.specs.declared.Change.{Change}
use Rattle.ledger.specs.declared.Refusal.{Refusal}
use Rattle.ledger.specs.declared.Refusal.TheVariants.{WrongLength, Unsound, BadTime, BadNumber, AlreadyHeld, NotHeld, Full}
use Rattle.ledger.proofs.RefusalsLaws.{passes, not_both, first_passed, others_passed, ask_good}
use Rattle.asking.specs.Counted.{CanAsk}
use Rattle.engine.specs.Checks.{wrong_length, unsound, lent_checks, open_checks, checks_of_change}
use Rattle.engine.specs.Index.{changed}
use Rattle.engine.specs.Sound.{CanMake, CanApply, held_after, CanCount}

-- ---- the lent words

module _ (w : Words) where
  -- refused for the lent words, whatever checks come after
  pub lent_failed : (v : Result (Unit {0}) Refusal) (r : Refusal) → v ≡ first_to_fail (lent_checks w []) → v ≡ Err r → (more : List Check) → first_to_fail (lent_checks w more) ≡ Err r
  unfolding first_to_fail
  lent_failed v r e f more = go (wrong_length w) (unsound w) (sym e ∙ f)
    where
      go : (a b : Bool) → unless a WrongLength (unless b Unsound (Ok tt)) ≡ Err r → unless a WrongLength (unless b Unsound (first_to_fail more)) ≡ Err r
      go true b h = h
      go false true h = h
      go false false h = absurd (not_both refl h)

  pub lent_sound : (v : Result (Unit {0}) Refusal) → v ≡ first_to_fail (lent_checks w []) → v ≡ Ok tt → are_sound w ≡ true
  lent_sound v e p =
      let rest = others_passed (wrong_length w) WrongLength (check (unsound w) Unsound ∷ []) (sym e ∙ p) in
      not-false (are_sound w) (first_passed (unsound w) Unsound [] rest)

  pub right_lengths : wrong_length w ≡ false → RightLengths w
  right_lengths h =
      let s = eqb (length w.store) store_words in
      let t = eqb (length w.table) table_words in
      let both = not-false (s && t) h in
      record {
        store_long = eqb-true (length w.store) store_words (and_left s t both);
        table_long = eqb-true (length w.table) table_words (and_right s t both);
      }

  pub opens_rightly : (v : Result (Unit {0}) Refusal) (t : ℤ) → v ≡ first_to_fail (open_checks w t) → v ≡ Ok tt → RightLengths w
  opens_rightly v t e p = right_lengths (first_passed (wrong_length w) WrongLength (check (bad_time t) BadTime ∷ []) (sym e ∙ p))

module _ (w : Words) (sound : are_sound w ≡ true) where
  parts : Sound.Sound w.store w.table
  parts = Sound.sound_parts w.store w.table sound

  pub sound_store : IsStore w.store
  sound_store = Sound.is_store w.store parts.store

  pub sound_distinct : ids_distinct (records_in w) ≡ true
  sound_distinct = parts.store.distinct

  pub right_length : wrong_length w ≡ false
  right_length =
      let s = eqb (length w.store) store_words in
      let t = eqb (length w.table) table_words in
      ap not (and_true s t (eq-eqb (length w.store) store_words parts.store.long) (eq-eqb (length w.table) table_words parts.table_long))

  -- sound words pass both
  pub sound_lent : (more : List Check) → first_to_fail more ≡ first_to_fail (lent_checks w more)
  sound_lent more =
      passes (wrong_length w) WrongLength (check (unsound w) Unsound ∷ more) _ right_length
      (passes (unsound w) Unsound more _ (ap not sound) refl)

  -- ---- what a clock that passed its check says

  pub can_step : (t : ℤ) → bad_step_time (time_in w) t ≡ false → CanStep w t
  can_step t h =
      let n = or_neither (not (is_time t)) (lt_z t (time_in w)) h in
      let later = n.1 in
      record { sound = sound; is_time_lem = not-false (is_time t) n.0; not_past = omega (arith, signed) }

  pub ask_passed : (ask : Ask) → first_to_fail (ask_number_checks (time_in w) ask) ≡ Ok tt → CanAsk w ask
  ask_passed ask p =
      let good = ask_good (time_in w) ask p in
      record { sound = sound; good_time = good.good_time; good_numbers = good.good_numbers }

-- ---- a change

-- when silent floats are gone, the clock moves floats and neither adds nor loses one: who is held after the step is among those that stay
pub stepped_length : (now time : ℤ) (rs : List Record) → length (stepped_records now time rs) ≡ length (kept (stays_at time) rs)
unfolding stepped_records
stepped_length now time rs = moved_length now time (kept (stays_at time) rs)

has_stepped : (now time id : ℤ) (rs : List Record) → has_id id (stepped_records now time rs) ≡ has_id id (kept (stays_at time) rs)
unfolding stepped_records
has_stepped now time id rs = has_moved now time id (kept (stays_at time) rs)

-- the floats held after the step
pub held_then : (w : Words) (time : ℤ) → CanStep w time → (left : ℕ) → left ≡ length (kept (stays_at time) (records_in w)) → left ≡ length (records_in (stepped time w))
held_then w time can left e = e ∙ sym (stepped_length (time_in w) time (records_in w)) ∙ sym (ap length (stepped_records_lem w time can))

pub judged_after : (now : ℤ) (rs : List Record) (c : Change)
    → let left = kept (stays_at (time_of c)) rs in
    change_checks now c (has_id (id_of c) left) (length left) ≡ checks_of_change now rs c
judged_after now rs c =
    λ i. change_checks now c (sym (has_stepped now (time_of c) (id_of c) rs) i) (sym (stepped_length now (time_of c) rs) i)

module _ (w : Words) (c : Change) (can : CanMake w c) where
  abbrev rest : List Check
  rest =
      let after = stepped_records (time_in w) (time_of c) (records_in w) in
      check (bad_numbers c) BadNumber ∷ held_checks c (has_id (id_of c) after) (length after)

  pub change_can_step : CanStep w (time_of c)
  change_can_step = can_step w can.sound (time_of c) (first_passed (bad_step_time (time_in w) (time_of c)) BadTime rest can.passed)

  numbers_passed : first_to_fail rest ≡ Ok tt
  numbers_passed = others_passed (bad_step_time (time_in w) (time_of c)) BadTime rest can.passed

  pub change_can_apply : CanApply (stepped (time_of c) w) c
  change_can_apply = record {
    can_change = stepped_can_change w (time_of c) change_can_step;
    is_time_lem = change_can_step.is_time_lem;
    good_numbers = first_passed (bad_numbers c) BadNumber _ numbers_passed;
    held_good = rw (stepped_records_lem w (time_of c) change_can_step) (others_passed (bad_numbers c) BadNumber _ numbers_passed);
  }

-- what the words must be for each change, where its checks are passed
module _ (w : Words) where
  pub can_add : (r : Report) → CanApply w (Change.Add r) → CanPlace w r
  can_add r can =
      let holds_id = has_id r.id (records_in w) in
      let full = leb capacity (length (records_in w)) in
      let room = first_passed full Full [] (others_passed holds_id AlreadyHeld (check full Full ∷ []) can.held_good) in
      record {
        can_change = can.can_change;
        room = leb-false capacity (length (records_in w)) room;
        in_range_lem = not-false (in_range r) can.good_numbers;
        is_time_lem = can.is_time_lem;
      }

  pub can_report : (r : Report) → CanApply w (Change.Report r) → CanReplace w r
  can_report r can =
      let holds_id = has_id r.id (records_in w) in
      record {
        can_change = can.can_change;
        is_held = not-false holds_id (first_passed (not holds_id) NotHeld [] can.held_good);
        in_range_lem = not-false (in_range r) can.good_numbers;
        is_time_lem = can.is_time_lem;
      }

-- ---- the floats held after a change, by those that stay at its clock step

-- one that is held is one at least
one_at_least : (id : ℤ) (rs : List Record) → has_id id rs ≡ true → 0 < length rs
unfolding some
one_at_least id [] h = absurd (true_false (sym h))
one_at_least id (r ∷ rs) h = omega arith

pub can_count : (w : Words) (c : Change) → CanApply w c → CanCount c (length (records_in w))
can_count w c can = record {
  few = can.can_change.is_store.few;
  one_to_drop = λ id t e.
      let holds_id = has_id id (records_in w) in
      let passed = subst (λ (x : Change). first_to_fail (held_checks x (has_id (id_of x) (records_in w)) (length (records_in w))) ≡ Ok tt) e can.held_good in
      one_at_least id (records_in w) (not-false holds_id (first_passed (not holds_id) NotHeld [] passed));
}

pub changed_count : (w : Words) (c : Change) → CanApply w c → length (records_in (changed c w)) ≡ held_after c (length (records_in w))
changed_count w (Change.Add r) can = omega (arith, ap length (placed_records r w), inserted_length (placed_in (phase_of r.t) r) (records_in w))
changed_count w (Change.Report r) can =
    let w₁ = taken_out r.id w in
    let was = (can_report w r can).is_held in
    omega (arith, ap length (placed_records r w₁), inserted_length (placed_in (phase_of r.t) r) (records_in w₁), ap length (taken_records r.id w), removed_length r.id (records_in w) was)
changed_count w (Change.Drop id t) can =
    let holds_id = has_id id (records_in w) in
    let was = not-false holds_id (first_passed (not holds_id) NotHeld [] can.held_good) in
    omega (arith, ap length (taken_records id w), removed_length id (records_in w) was)
