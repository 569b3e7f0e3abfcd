-- Every answer over sound words has small numbers: at most 1,024 floats are held, three phases are live, each has 1,024 cells, and no method
-- takes more than 64 rounds in one.
-- Assumes nothing.
use Rattle.std.specs.Prelude.{Result, Ok, Err}
use mathlib.Core.Path.{◌≡◌, refl, ap, ◌∙◌}
use mathlib.Core.Bool.{Bool, true, false}
use mathlib.Core.List.{List, [], ◌∷◌}
use Prim.Native.Nat.{ℕ, zero, suc, ◌*◌, ◌≤◌}
use native.Mathlib.Omega.{arith}
use lib.IntN.{ℤ}
use lib.ListN.{length}
use Rattle.ints.specs.Whole.{up}
use Rattle.grid.specs.Units.{cells, capacity}
use Rattle.ints.proofs.Lists.{passing_few}
use Rattle.grid.specs.Reports.{is_listed, stays_at}
use Rattle.rows.specs.Phases.{phase_of, live_phases, slot_of}
use Rattle.methods.specs.Aims.{aim_in}
use Rattle.methods.specs.Slots.{rows_of_slot}
use Rattle.records.specs.Words.{Words, time_in, records_in, are_sound}
use Rattle.reading.specs.Reading.{cells_in, useful_in}
use Rattle.reading.proofs.ReadingLaws.{few_listed, cells_few}
use Rattle.reading.proofs.ReadingUsefulLaws.{few_useful}
use Rattle.store.specs.Stepping.{placed_in}
use Rattle.store.proofs.InsertingLaws.{inserted_length}
use Rattle.words.specs.Words.{stepped, taken_out}
use Rattle.words.specs.Needs.{CanStep}
use Rattle.words.proofs.WordsSteppedLaws.{stepped_records_lem}
use Rattle.words.proofs.WordsPlacedLaws.{opened_records, placed_records, taken_records, removed_few}
use Rattle.ledger.specs.Answers.{refusal_value, value_of, counts_of}
use Rattle.ledger.specs.Refusals.{Check, unless, first_to_fail, bad_step_time, clock_checks, time_of, held_checks}
use Rattle.ledger.specs.Machine.{summed}
use Rattle.ledger.specs.declared.Answer.{Answer}
use Rattle.ledger.specs.declared.Answer.TheVariants.{Accepted, Refused}
use Rattle.ledger.specs.declared.Ask.{Ask}
use Rattle.ledger.specs.declared.Call.{Call}
use Rattle.ledger.specs.declared.Change.{Change}
use Rattle.ledger.specs.declared.Refusal.TheVariants.{BadTime}
use Rattle.ledger.proofs.RefusalsLaws.{first_passed}
use Rattle.asking.specs.Asking.{choice_of, marks_in, listed_of, phases_now, ids_needed, cells_counted, useful_counted, rounds_counted, ask_settled}
use Rattle.asking.proofs.AskingLaws.{few_rounds}
use Rattle.engine.specs.Index.{settled, open_out, clock_out, changed, change_out, ask_out, call_out}
use Rattle.engine.specs.Checks.{open_checks, checks_of, checks_of_change}
use Rattle.engine.proofs.ChecksLaws.{sound_store, sound_lent, can_step, stepped_length, change_can_step}
use Rattle.ledger.specs.declared.Refusal.{Refusal}

-- the most that any number of an answer is
abbrev pub most : ℕ
most = 3 * capacity

pub record SmallAnswer (a : Answer) : Type 0 where
  pub value : value_of a ≤ most
  pub cells : (counts_of a).cells ≤ most
  pub useful : (counts_of a).useful ≤ most
  pub rounds : (counts_of a).rounds ≤ most

-- ---- checks

zeros : (a : Answer) → value_of a ≤ most → (counts_of a).cells ≤ 0 → (counts_of a).useful ≤ 0 → (counts_of a).rounds ≤ 0 → SmallAnswer a
zeros a v c u r = record { value = v; cells = omega arith; useful = omega arith; rounds = omega arith }

accepted : (n : ℕ) → n ≤ most → SmallAnswer (Accepted n)
accepted n h = zeros (Accepted n) h (omega arith) (omega arith) (omega arith)

-- ---- refusals

refused_with : Result (Unit {0}) Refusal → ℕ
refused_with (Ok tt) = 0
refused_with (Err r) = refusal_value r

AllSmall : List Check → Type 0
AllSmall [] = Unit {0}
AllSmall (c ∷ cs) = (refusal_value c.refusal ≤ most) × AllSmall cs

first_small : (cs : List Check) → AllSmall cs → refused_with (first_to_fail cs) ≤ most
unfolding first_to_fail AllSmall refused_with
first_small [] all = omega arith
first_small (c ∷ cs) all = go c.fails (first_small cs all.1)
  where
    go : (b : Bool) → refused_with (first_to_fail cs) ≤ most → refused_with (unless b c.refusal (first_to_fail cs)) ≤ most
    go true k = all.0
    go false k = k

settled_small : (v : Result (Unit {0}) Refusal) (w w' : Words) → refused_with v ≤ most → (v ≡ Ok tt → length (records_in w') ≤ most) → SmallAnswer (settled v w w').answer
unfolding refused_with
settled_small (Ok tt) w w' h k = accepted (length (records_in w')) (k refl)
settled_small (Err r) w w' h k = zeros (Refused r) h (omega arith) (omega arith) (omega arith)

-- the value of each refusal but 8
none : 0 ≤ most
none = omega arith

pub open_small : (w : Words) (t : ℤ) → SmallAnswer (open_out w t).answer
unfolding open_out AllSmall
open_small w t =
    settled_small (first_to_fail (open_checks w t)) w _ (first_small (open_checks w t) (none, (none, tt)))
    (λ p. let e = ap length (opened_records t w) in omega arith)

-- ---- sums over the live phases

few_phases : (c : ℕ) → length (live_phases c) ≤ 3
unfolding live_phases
few_phases zero = omega arith
few_phases (suc zero) = omega arith
few_phases (suc (suc c)) = omega arith

few_summed : (f : ℕ → ℕ) (n : ℕ) → ((p : ℕ) → f p ≤ n) → (ps : List ℕ) → summed f ps ≤ length ps * n
unfolding summed
few_summed f n each [] = omega arith
few_summed f n each (p ∷ ps) = let h = each p in let k = few_summed f n each ps in omega arith

-- ---- the calls

-- a change leaves at most one float more
changed_few : (c : Change) (w : Words) → length (records_in (changed c w)) ≤ suc (length (records_in w))
changed_few (Change.Add r) w = omega (arith, ap length (placed_records r w), inserted_length (placed_in (phase_of r.t) r) (records_in w))
changed_few (Change.Report r) w =
    let w₁ = taken_out r.id w in
    omega (arith, ap length (placed_records r w₁), inserted_length (placed_in (phase_of r.t) r) (records_in w₁), ap length (taken_records r.id w), removed_few r.id (records_in w))
changed_few (Change.Drop id t) w = omega (arith, ap length (taken_records id w), removed_few id (records_in w))

held_small : (c : Change) (is_held : Bool) (held : ℕ) → AllSmall (held_checks c is_held held)
unfolding AllSmall
held_small (Change.Add r) is_held held = (none, (none, tt))
held_small (Change.Report r) is_held held = (none, tt)
held_small (Change.Drop id t) is_held held = (none, tt)

module _ (w : Words) (sound : are_sound w ≡ true) where
  few : length (records_in w) ≤ capacity
  few = (sound_store w sound).few

  step_few : (t : ℤ) → CanStep w t → length (records_in (stepped t w)) ≤ capacity
  step_few t can =
      let e = ap length (stepped_records_lem w t can) in
      let f = few in
      omega (arith, stepped_length (time_in w) t (records_in w), passing_few (λ r. stays_at t r.report) (records_in w))

  clock_small : (t : ℤ) → SmallAnswer (clock_out w t).answer
  unfolding clock_out AllSmall
  clock_small t =
      settled_small (first_to_fail (checks_of w (Call.Clock t) 0)) w (stepped t w) (first_small (checks_of w (Call.Clock t) 0) (none, (none, (none, tt))))
      (λ p.
      let fine = first_passed (bad_step_time (time_in w) t) BadTime [] (sound_lent w sound (clock_checks (time_in w) t) ∙ p) in
      let f = step_few t (can_step w sound t fine) in
      omega arith)

  change_small : (c : Change) → SmallAnswer (change_out w c).answer
  unfolding change_out AllSmall
  change_small c =
      settled_small (first_to_fail (checks_of w (Call.Change c) 0)) w (changed c (stepped (time_of c) w))
      (first_small (checks_of w (Call.Change c) 0) (none, (none, (none, (none, held_small c _ _)))))
      (λ p.
      let can = change_can_step w c (record { sound = sound; passed = sound_lent w sound (checks_of_change (time_in w) (records_in w) c) ∙ p }) in
      let f = step_few (time_of c) can in
      omega (arith, changed_few c (stepped (time_of c) w)))

  module _ (ask : Ask) where
    needed : ids_needed w ask ≤ most
    unfolding ids_needed
    needed =
        let k = few_summed (λ p. length (listed_of w ask p)) capacity
        (λ p. let f = few in let h = few_listed (marks_in w ask p) (slot_of p) (is_listed ask.query) (records_in w) in omega arith) (phases_now w ask) in
        let n = few_phases (phase_of (time_in w)) in
        omega arith

    read : cells_counted w ask ≤ most
    unfolding cells_counted
    read =
        let k = few_summed (λ p. cells_in (marks_in w ask p) 0 cells) capacity (λ p. cells_few (marks_in w ask p) 0 cells) (phases_now w ask) in
        let n = few_phases (phase_of (time_in w)) in
        omega arith

    useful_ones : useful_counted w ask ≤ most
    unfolding useful_counted
    useful_ones =
        let k = few_summed (λ p. useful_in (slot_of p) (listed_of w ask p) 0 cells) capacity (λ p. few_useful (slot_of p) (listed_of w ask p) 0 cells) (phases_now w ask) in
        let n = few_phases (phase_of (time_in w)) in
        omega arith

    rounds_taken : rounds_counted w ask ≤ most
    unfolding rounds_counted
    rounds_taken =
        let k = few_summed (λ p. (choice_of w ask p).rounds) 64 (λ p. few_rounds (rows_of_slot w.table (slot_of p)) (aim_in p ask.query) (up ask.method)) (phases_now w ask) in
        let n = few_phases (phase_of (time_in w)) in
        omega arith

  ask_settled_lem : (v : Result (Unit {0}) Refusal) (ask : Ask) (list : List ℕ) → refused_with v ≤ most → SmallAnswer (ask_settled v w ask list).answer
  unfolding refused_with
  ask_settled_lem (Ok tt) ask list h = record { value = needed ask; cells = read ask; useful = useful_ones ask; rounds = rounds_taken ask }
  ask_settled_lem (Err r) ask list h = zeros (Refused r) h (omega arith) (omega arith) (omega arith)

  ask_small : (ask : Ask) (list : List ℕ) → SmallAnswer (ask_out w ask list).answer
  unfolding ask_out AllSmall
  ask_small ask list =
      ask_settled_lem (first_to_fail (checks_of w (Call.Ask ask) (length list))) ask list
      (first_small (checks_of w (Call.Ask ask) (length list)) (none, (none, (none, (none, (none, (needed ask, tt)))))))

  pub call_small : (call : Call) (list : List ℕ) → SmallAnswer (call_out w call list).answer
  unfolding call_out
  call_small (Call.Clock t) list = clock_small t
  call_small (Call.Change c) list = change_small c
  call_small (Call.Ask ask) list = ask_small ask list
