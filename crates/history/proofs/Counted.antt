-- The floats held are the accepted adds less the accepted drops less the retirements, after every list of calls.
-- Assumes nothing.
use Rattle.std.specs.Prelude.{Ok}
use mathlib.Core.Path.{◌≡◌, refl}
use mathlib.Core.Bool.{Bool, true, false, cond, not}
use mathlib.Core.List.{List, [], ◌∷◌}
use Prim.Native.Nat.{ℕ, suc, ◌+◌}
use native.Mathlib.Omega.{arith}
use lib.IntN.{ℤ}
use lib.ListN.{length}
use borrow.Author.Tests.{not-false}
use Rattle.ints.specs.Lists.{passing}
use Rattle.grid.specs.Reports.{is_silent, stays_at}
use Rattle.ledger.specs.Answers.{is_accepted}
use Rattle.ledger.specs.Refusals.{check, first_to_fail, bad_step_time, time_of, id_of, bad_numbers, held_checks}
use Rattle.ledger.specs.Machine.{Ledger, Held, opened, is_held, keeping, moved_on, stepped, with_report, without_id, changed}
use Rattle.ledger.specs.Calls as L
use Rattle.ledger.specs.Calls.{Fed}
use Rattle.ledger.specs.declared.Call.{Call}
use Rattle.ledger.specs.declared.Change.{Change}
use Rattle.ledger.specs.declared.Refusal.TheVariants.{BadTime, BadNumber, NotHeld}
use Rattle.ledger.proofs.MachineLaws.{moved_length, without_length}
use Rattle.ledger.proofs.RefusalsLaws.{first_passed, others_passed, passed_of}
use Rattle.history.specs.Claims.{count_if, accepted_of, silent_at, retires, retirements, HeldAreAddsLessDropsLessRetirements}

-- a change that passed its checks changes the count of floats held by its count
change_counts : (l : Ledger) (c : Change) → first_to_fail (held_checks c (is_held (id_of c) l.held) (length l.held)) ≡ Ok tt
    → length (changed c l).held + count_if (Call.Change c) 0 1 ≡ length l.held + count_if (Call.Change c) 1 0
unfolding with_report without_id
change_counts l (Change.Add r) p = omega arith
change_counts l (Change.Report r) p =
    let was = not-false (is_held r.id l.held) (first_passed (not (is_held r.id l.held)) NotHeld [] p) in
    omega (arith, without_length r.id l.held was)
change_counts l (Change.Drop id t) p =
    let was = not-false (is_held id l.held) (first_passed (not (is_held id l.held)) NotHeld [] p) in
    omega (arith, without_length id l.held was)

-- those that stay at a step and those that retire are all
parts : (time : ℤ) (hs : List Held) → length (passing (λ h. stays_at time h.report) hs) + length (passing (λ h. is_silent time h.report.t) hs) ≡ length hs
unfolding passing
parts time [] = refl
parts time (h ∷ hs) = go (is_silent time h.report.t) (parts time hs)
  where
    stay : List Held
    stay = passing (λ g. stays_at time g.report) hs

    go_on : List Held
    go_on = passing (λ g. is_silent time g.report.t) hs

    go : (t : Bool) → length stay + length go_on ≡ length hs → length (cond (not t) (h ∷ stay) stay) + length (cond t (h ∷ go_on) go_on) ≡ suc (length hs)
    go true e = omega arith
    go false e = omega arith

stepped_count : (time : ℤ) (l : Ledger) → length (stepped time l).held + silent_at time l ≡ length l.held
unfolding stepped moved_on keeping
stepped_count time l = omega (arith, moved_length time (passing (λ h. stays_at time h.report) l.held), parts time l.held)

changes_count : (l : Ledger) (call : Call) (room : ℕ) → first_to_fail (L.checks_of l call room) ≡ Ok tt
    → length (L.changed_by l call).held + count_if call 0 1 + retires l call ≡ length l.held + count_if call 1 0
unfolding L.changed_by
changes_count l (Call.Clock t) room p = omega (arith, stepped_count t l)
changes_count l (Call.Change c) room p =
    let then = stepped (time_of c) l in
    let later = held_checks c (is_held (id_of c) then.held) (length then.held) in
    let rest = check (bad_numbers c) BadNumber ∷ later in
    let held = others_passed (bad_numbers c) BadNumber later (others_passed (bad_step_time l.now (time_of c)) BadTime rest p) in
    omega (arith, change_counts then c held, stepped_count (time_of c) l)
changes_count l (Call.Ask ask) room p = omega arith

-- a refused one does not change it
call_counts : (l : Ledger) (fed : Fed)
    → let accepted = is_accepted (L.answer_to l fed) in
    length (L.next l fed).held + cond accepted (count_if fed.call 0 1) 0 + cond accepted (retires l fed.call) 0
    ≡ length l.held + cond accepted (count_if fed.call 1 0) 0
unfolding L.next L.answer_to
call_counts l fed = go (is_accepted (L.answer_to l fed)) refl
  where
    go : (b : Bool) → is_accepted (L.answer_to l fed) ≡ b
        → length (cond b (L.changed_by l fed.call) l).held + cond b (count_if fed.call 0 1) 0 + cond b (retires l fed.call) 0 ≡ length l.held + cond b (count_if fed.call 1 0) 0
    go true e = changes_count l fed.call fed.room (passed_of (first_to_fail (L.checks_of l fed.call fed.room)) (L.if_none_fails l fed.call) e)
    go false e = omega arith

calls_count : (calls : List Fed) (l : Ledger) → length (L.after l calls).held + accepted_of 0 1 l calls + retirements l calls ≡ length l.held + accepted_of 1 0 l calls
unfolding L.after accepted_of retirements
calls_count [] l = omega arith
calls_count (fed ∷ more) l =
    let one = call_counts l fed in
    let rest = calls_count more (L.next l fed) in
    omega arith

pub held_are_adds_less_drops_less_retirements : HeldAreAddsLessDropsLessRetirements
held_are_adds_less_drops_less_retirements time calls = let e = calls_count calls (opened time) in omega arith
