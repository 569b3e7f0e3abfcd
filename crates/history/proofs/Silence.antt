-- The claims of specs/Silence.antt, proved. What a step keeps is not silent at its time, and neither is a float that reports at that time.
-- Assumes nothing.
use Rattle.std.specs.Prelude.{Result, Ok, Err}
use mathlib.Core.Path.{◌≡◌, refl, sym, ap, ap₂, ◌∙◌}
use mathlib.Core.Bool.{Bool, true, false, cond, not}
use mathlib.Core.List.{List, [], ◌∷◌}
use native.Mathlib.Omega.{arith}
use lib.IntN.{ℤ, pos, ◌+ℤ◌}
use lib.Signed.{le_z}
use Rattle.ints.specs.Lists.{passing, every}
use Rattle.ints.proofs.Parts.{true_false, signed, add}
use Rattle.ints.proofs.Truth.{and_true}
use Rattle.ints.proofs.Lists.{passing_in, every_each, each_every}
use Rattle.grid.specs.Units.{silence}
use Rattle.grid.specs.Reports.{is_silent, stays_at}
use Rattle.grid.specs.declared.Report.{Report}
use Rattle.rows.specs.Phases.{phase_of}
use Rattle.records.specs.Words.{Words, time_in, records_in}
use Rattle.records.specs.declared.Record.{Record}
use Rattle.records.proofs.RecordsLaws.{now_of-store, records_of-store}
use Rattle.store.specs.Stepping.{placed_in, moved_records}
use Rattle.store.proofs.InsertingLaws.{inserted_every}
use Rattle.store.proofs.RemovingLaws.{removed_every}
use Rattle.store.proofs.SteppingLaws.{moved_reports}
use Rattle.retiring.specs.Retiring.{kept}
use Rattle.words.specs.Words as Index
use Rattle.words.proofs.WordsPlacedLaws.{placed_time, placed_records, taken_time, taken_records}
use Rattle.words.proofs.WordsSteppedLaws.{keeping_records}
use Rattle.ledger.specs.Answers.{is_accepted}
use Rattle.ledger.specs.Refusals.{first_to_fail, time_of}
use Rattle.ledger.specs.Machine.{Ledger, Held, opened, keeping, moved_held, moved_on, stepped, without, with_report, without_id, changed}
use Rattle.ledger.specs.Calls as L
use Rattle.ledger.specs.Calls.{Fed}
use Rattle.ledger.specs.declared.Call.{Call}
use Rattle.ledger.specs.declared.Change.{Change}
use Rattle.ledger.proofs.MachineLaws.{same_report, moved_from, without_member}
use Rattle.engine.specs.Checks.{checks_of}
use Rattle.engine.specs.Index as Engine
use Rattle.engine.specs.Index.{settled, clock_out, change_out, call_out}
use Rattle.history.specs.Silence.{steps, none_silent, none_silent_in, StepLeavesNoneSilent, IndexStepLeavesNoneSilent, NoHeldFloatIsSilent, NoPointHasASilentFloat}
use Rattle.history.proofs.Relation.{records_of_held}
use Rattle.history.proofs.HeldRecords.{records_from}
use Rattle.history.proofs.Points.{point_left}
use Rattle.ledger.specs.declared.Refusal.{Refusal}

-- a float that reports at a time is not silent then
just_sent : (time t : ℤ) → t ≡ time → not (is_silent time t) ≡ true
unfolding is_silent
just_sent time t e =
    let later : le_z (time +ℤ pos silence) time ≡ false = omega (arith, signed, add time (pos silence)) in
    ap (λ (z : ℤ). not (le_z (z +ℤ pos silence) time)) e ∙ ap not later

-- ---- the ledger

-- the reports held when the clock moved on are those held before
moved_stay : (f : Report → Bool) (time : ℤ) (hs : List Held) → every (λ h. f h.report) hs ≡ true → every (λ h. f h.report) (moved_held time hs) ≡ true
moved_stay f time hs h =
    each_every (λ g. f g.report) (moved_held time hs) (λ g m.
    let from = moved_from time hs m in
    ap (λ (x : Held). f x.report) from.2 ∙ ap f (same_report time from.0) ∙ every_each (λ x. f x.report) hs h from.1)

stepped_stay : (time : ℤ) (l : Ledger) → none_silent (stepped time l) ≡ true
unfolding stepped moved_on keeping
stepped_stay time l =
    let stays : Held → Bool = λ h. stays_at time h.report in
    moved_stay (stays_at time) time (passing stays l.held) (each_every stays (passing stays l.held) (λ h m. (passing_in stays l.held m).1))

without_stay : (id : ℤ) (l : Ledger) → none_silent l ≡ true → none_silent (without_id id l) ≡ true
unfolding without_id
without_stay id l h =
    let stays : Held → Bool = λ g. stays_at l.now g.report in
    each_every stays (without id l.held) (λ g m. every_each stays l.held h (without_member id l.held m))

report_stays : (r : Report) (l : Ledger) → r.t ≡ l.now → none_silent l ≡ true → none_silent (with_report r l) ≡ true
unfolding with_report every
report_stays r l e h = and_true _ _ (just_sent l.now r.t e) h

changed_stay : (c : Change) (l : Ledger) → time_of c ≡ l.now → none_silent l ≡ true → none_silent (changed c l) ≡ true
unfolding without_id
changed_stay (Change.Add r) l e h = report_stays r l e h
changed_stay (Change.Report r) l e h = report_stays r (without_id r.id l) e (without_stay r.id l h)
changed_stay (Change.Drop id t) l e h = without_stay id l h

call_stays : (l : Ledger) (call : Call) → steps call ≡ true → none_silent (L.changed_by l call) ≡ true
unfolding L.changed_by stepped moved_on
call_stays l (Call.Clock t) s = stepped_stay t l
call_stays l (Call.Change c) s = changed_stay c (stepped (time_of c) l) refl (stepped_stay (time_of c) l)
call_stays l (Call.Ask ask) s = absurd (true_false (sym s))

pub step_leaves_none_silent : StepLeavesNoneSilent
unfolding L.next
step_leaves_none_silent l fed s a = rw a (call_stays l fed.call s)

-- an ask or a refused call leaves the ledger as it was
next_stays : (l : Ledger) (fed : Fed) → none_silent l ≡ true → none_silent (L.next l fed) ≡ true
unfolding L.next L.changed_by
next_stays l fed h = go (is_accepted (L.answer_to l fed)) fed.call
  where
    go : (b : Bool) (call : Call) → none_silent (cond b (L.changed_by l call) l) ≡ true
    go false call = h
    go true (Call.Clock t) = call_stays l (Call.Clock t) refl
    go true (Call.Change c) = call_stays l (Call.Change c) refl
    go true (Call.Ask ask) = h

after_stays : (calls : List Fed) (l : Ledger) → none_silent l ≡ true → none_silent (L.after l calls) ≡ true
unfolding L.after
after_stays [] l h = h
after_stays (fed ∷ more) l h = after_stays more (L.next l fed) (next_stays l fed h)

pub no_held_float_is_silent : NoHeldFloatIsSilent
unfolding every
no_held_float_is_silent time calls = after_stays calls (opened time) refl

-- ---- the index, over any words

index_stepped : (time : ℤ) (w : Words) → (time_in (Index.stepped time w) ≡ time) × (none_silent_in (Index.stepped time w) ≡ true)
unfolding Index.stepped Index.moved_on
index_stepped time w =
    let left = Index.keeping (stays_at time) w in
    let rs = moved_records (time_in left) time (records_in left) in
    let stays : Record → Bool = λ r. stays_at time r.report in
    let stay : every stays (records_in left) ≡ true =
    ap (every stays) (keeping_records (stays_at time) w)
    ∙ each_every stays (kept (stays_at time) (records_in w)) (λ r m. (passing_in stays (records_in w) m).1) in (
      now_of-store time rs,
      ap₂ (λ (t : ℤ) (xs : List Record). every (λ r. stays_at t r.report) xs) (now_of-store time rs) (records_of-store time rs)
          ∙ moved_reports (time_in left) time (stays_at time) (records_in left) stay,
    )

index_taken : (id : ℤ) (w : Words) → none_silent_in w ≡ true → none_silent_in (Index.taken_out id w) ≡ true
index_taken id w h =
    ap₂ (λ (t : ℤ) (xs : List Record). every (λ r. stays_at t r.report) xs) (taken_time id w) (taken_records id w)
    ∙ removed_every (λ r. stays_at (time_in w) r.report) id (records_in w) h

index_placed : (r : Report) (w : Words) → r.t ≡ time_in w → none_silent_in w ≡ true → none_silent_in (Index.placed r w) ≡ true
index_placed r w e h =
    ap₂ (λ (t : ℤ) (xs : List Record). every (λ x. stays_at t x.report) xs) (placed_time r w) (placed_records r w)
    ∙ inserted_every (λ x. stays_at (time_in w) x.report) (placed_in (phase_of r.t) r) (records_in w) (just_sent (time_in w) r.t e) h

index_changed : (c : Change) (w : Words) → time_of c ≡ time_in w → none_silent_in w ≡ true → none_silent_in (Engine.changed c w) ≡ true
index_changed (Change.Add r) w e h = index_placed r w e h
index_changed (Change.Report r) w e h = index_placed r (Index.taken_out r.id w) (e ∙ sym (taken_time r.id w)) (index_taken r.id w h)
index_changed (Change.Drop id t) w e h = index_taken id w h

settled_stays : (v : Result (Unit {0}) Refusal) (w w' : Words) → none_silent_in w' ≡ true → is_accepted (settled v w w').answer ≡ true → none_silent_in (settled v w w').words ≡ true
settled_stays (Ok tt) w w' h a = h
settled_stays (Err r) w w' h a = absurd (true_false (sym a))

pub index_step_leaves_none_silent : IndexStepLeavesNoneSilent
unfolding call_out clock_out change_out
index_step_leaves_none_silent w lent s a = go lent.call s a
  where
    go : (call : Call) → steps call ≡ true → is_accepted (call_out w call lent.list).answer ≡ true → none_silent_in (call_out w call lent.list).words ≡ true
    go (Call.Clock t) k b = settled_stays (first_to_fail (checks_of w (Call.Clock t) 0)) w (Index.stepped t w) (index_stepped t w).1 b
    go (Call.Change c) k b =
        let then = index_stepped (time_of c) w in
        settled_stays (first_to_fail (checks_of w (Call.Change c) 0)) w (Engine.changed c (Index.stepped (time_of c) w))
        (index_changed c (Index.stepped (time_of c) w) (sym then.0) then.1) b
    go (Call.Ask ask) k b = absurd (true_false (sym k))

-- at a point the records are those of the held reports
pub no_point_has_a_silent_float : NoPointHasASilentFloat
no_point_has_a_silent_float l w p =
    let match = (point_left l w p).matches in
    let held : none_silent l ≡ true = ap none_silent p.ledger_is ∙ no_held_float_is_silent p.time _ in
    ap₂ (λ (t : ℤ) (xs : List Record). every (λ r. stays_at t r.report) xs) match.time_is match.records_are
    ∙ each_every (λ r. stays_at l.now r.report) (records_of_held l.held) (λ x m.
    let from = records_from l.held m in
    ap (λ (r : Record). stays_at l.now r.report) from.2 ∙ every_each (λ h. stays_at l.now h.report) l.held held from.1)
