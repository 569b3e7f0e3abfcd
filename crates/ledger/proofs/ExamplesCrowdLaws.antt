-- A ledger of 1,024 floats that are all alike: who stays at a clock step goes by laws here, since antt would take too many steps to compute it of so many; the
-- rest is computed.
-- Assumes nothing.
use mathlib.Core.Path.{◌≡◌, refl, ap, ◌∙◌}
use mathlib.Core.Bool.{Bool, true, false, not}
use mathlib.Core.List.{List, [], ◌∷◌}
use Prim.Native.Nat.{ℕ, zero, suc}
use lib.IntN.{ℤ, pos}
use lib.ListN.{length, replicate}
use Rattle.ints.specs.Whole.{eq_z}
use Rattle.ints.specs.Lists.{passing, some}
use Rattle.grid.specs.Reports.{in_range, is_silent, stays_at}
use Rattle.grid.specs.declared.Report.{Report}
use Rattle.rows.specs.Phases.{phase_of, is_live}
use Rattle.ledger.specs.Refusals.{first_to_fail, change_checks}
use Rattle.ledger.specs.Machine.{Ledger, Held, is_held, moved_held, keeping, moved_on, stepped, with_report}
use Rattle.ledger.specs.Calls.{answer_by, answer_to, changed_by}
use Rattle.ledger.specs.Examples.{sent, crowd, add}
use Rattle.ledger.specs.declared.Answer.{Answer}
use Rattle.ledger.specs.declared.Answer.TheVariants.{Accepted, Refused}
use Rattle.ledger.specs.declared.Change.TheVariants as Change
use Rattle.ledger.specs.declared.Refusal.TheVariants.{Full}

module _ (stays : Held → Bool) (h : Held) where
  all_stay : (n : ℕ) → stays h ≡ true → passing stays (replicate n h) ≡ replicate n h
  unfolding passing
  all_stay zero e = refl
  all_stay (suc n) e = rw e (ap (λ (hs : List Held). h ∷ hs) (all_stay n e))

  none_stays : (n : ℕ) → stays h ≡ false → passing stays (replicate n h) ≡ []
  unfolding passing
  none_stays zero e = refl
  none_stays (suc n) e = rw e (none_stays n e)

-- one of a crowd, and a crowd of those
abbrev one : Held
one = record { report = sent 1 0 0 0 (pos 0) (pos 0); phase = 0 }

abbrev crowd_of : List Held → Ledger
crowd_of hs = record { now = pos 0; held = hs; placements = [] }

crowd_stays : (time : ℤ) (n : ℕ) → is_silent time (pos 0) ≡ false → stepped time (crowd n) ≡ moved_on time (crowd n)
unfolding stepped keeping
crowd_stays time n e = ap (λ (hs : List Held). moved_on time (crowd_of hs)) (all_stay (λ h. stays_at time h.report) one n (ap not e))

crowd_goes : (time : ℤ) (n : ℕ) → is_silent time (pos 0) ≡ true → stepped time (crowd n) ≡ moved_on time (crowd 0)
unfolding stepped keeping
crowd_goes time n e = ap (λ (hs : List Held). moved_on time (crowd_of hs)) (none_stays (λ h. stays_at time h.report) one n (ap not e))

-- the answer to an add at time 0 or later, by the ledger after the clock step
abbrev judged : Report → Ledger → Answer
judged r l =
    answer_by (first_to_fail (change_checks (pos 0) (Change.Add r) (is_held r.id l.held) (length l.held))) (Accepted (length (with_report r l).held))

added : (r : Report) (n : ℕ) → answer_to (crowd n) (add r) ≡ judged r (stepped r.t (crowd n))
unfolding answer_to changed_by
added r n = refl

added_staying : (r : Report) (n : ℕ) → is_silent r.t (pos 0) ≡ false → answer_to (crowd n) (add r) ≡ judged r (moved_on r.t (crowd n))
added_staying r n e = added r n ∙ ap (judged r) (crowd_stays r.t n e)

added_gone : (r : Report) (n : ℕ) → is_silent r.t (pos 0) ≡ true → answer_to (crowd n) (add r) ≡ judged r (moved_on r.t (crowd 0))
added_gone r n e = added r n ∙ ap (judged r) (crowd_goes r.t n e)

-- full, and room for one
pub crowd_full : answer_to (crowd 1024) (add (sent 2 0 0 0 (pos 0) (pos 0))) ≡ Refused Full
unfolding eq_z some in_range is_silent is_live phase_of first_to_fail moved_held moved_on with_report
crowd_full = added_staying (sent 2 0 0 0 (pos 0) (pos 0)) 1024 refl

pub crowd_room : answer_to (crowd 1023) (add (sent 2 0 0 0 (pos 0) (pos 0))) ≡ Accepted 1024
unfolding eq_z some in_range is_silent is_live phase_of first_to_fail moved_held moved_on with_report
crowd_room = added_staying (sent 2 0 0 0 (pos 0) (pos 0)) 1023 refl

-- full still in the last second before all fall silent, and in that second as good as empty
pub crowd_full_still : answer_to (crowd 1024) (add (sent 2000 2591999 500 500 (pos 0) (pos 0))) ≡ Refused Full
unfolding eq_z some in_range is_silent is_live phase_of first_to_fail moved_held moved_on with_report
crowd_full_still = added_staying (sent 2000 2591999 500 500 (pos 0) (pos 0)) 1024 refl

pub crowd_gone : answer_to (crowd 1024) (add (sent 2000 2592000 500 500 (pos 0) (pos 0))) ≡ Accepted 1
unfolding eq_z some in_range is_silent is_live phase_of first_to_fail moved_held moved_on with_report
crowd_gone = added_gone (sent 2000 2592000 500 500 (pos 0) (pos 0)) 1024 refl
