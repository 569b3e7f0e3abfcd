-- No call of a list is answered with number 1 or 2: the ledger's checks begin at 3, and every answer is the ledger's. And the numbers that the index
-- gives over buffers of the wrong length or unsound ones, computed.
-- Assumes nothing.
use mathlib.Core.Path.{◌≡◌, refl, ap, subst}
use mathlib.Core.Bool.{Bool, true, false}
use mathlib.Core.List.Memᴰ
use mathlib.Core.List.{List, [], ◌∷◌, Memᴰ}
use mathlib.Core.Logic.{⊎_elim}
use Prim.Native.Nat.{ℕ, ◌+◌}
use native.Mathlib.Omega.{arith}
use Rattle.ints.specs.Examples.{AllAsSaid}
use Rattle.records.specs.Soundness.{is_sound_store, is_sound}
use Rattle.ledger.specs.Answers.{refusal_number, number_of}
use Rattle.ledger.specs.Refusals.{Check, unless, first_to_fail, held_checks}
use Rattle.ledger.specs.Machine.{Ledger, opened}
use Rattle.ledger.specs.Calls as L
use Rattle.ledger.specs.Calls.{Fed, Reply, answer_by}
use Rattle.ledger.specs.declared.Answer.{Answer}
use Rattle.ledger.specs.declared.Call.{Call}
use Rattle.ledger.specs.declared.Change.{Change}
use Rattle.engine.specs.Index.{open_out, clock_out}
use Rattle.history.specs.Index.{fed_all}
use Rattle.history.specs.Claims.{OneAndTwoNeverComeUp}
use Rattle.history.specs.Examples.{limits, numbers}
use Rattle.history.proofs.Claims.{every_history_is_the_ledgers}

abbrev NotLent : ℕ → Type 0
NotLent n = (n ≡ 1 → ⊥) × (n ≡ 2 → ⊥)

none_lent : NotLent 0
none_lent = (λ e. omega arith, λ e. omega arith)

later_lent : (k : ℕ) → NotLent (3 + k)
later_lent k = (λ e. omega arith, λ e. omega arith)

-- what holds of each check's number holds of the refusal given
AllNotLent : List Check → Type 0
AllNotLent [] = Unit {0}
AllNotLent (c ∷ cs) = NotLent (refusal_number c.refusal) × AllNotLent cs

first_not_lent : (cs : List Check) (accepted : Answer) → AllNotLent cs → NotLent (number_of accepted) → NotLent (number_of (answer_by (first_to_fail cs) accepted))
unfolding first_to_fail AllNotLent
first_not_lent [] accepted all h = h
first_not_lent (c ∷ cs) accepted all h = go c.fails (first_not_lent cs accepted all.1 h)
  where
    go : (b : Bool) → NotLent (number_of (answer_by (first_to_fail cs) accepted)) → NotLent (number_of (answer_by (unless b c.refusal (first_to_fail cs)) accepted))
    go true k = all.0
    go false k = k

held_not_lent : (c : Change) (is_held : Bool) (held : ℕ) → AllNotLent (held_checks c is_held held)
unfolding AllNotLent
held_not_lent (Change.Add r) is_held held = (later_lent 2, (later_lent 4, tt))
held_not_lent (Change.Report r) is_held held = (later_lent 3, tt)
held_not_lent (Change.Drop id t) is_held held = (later_lent 3, tt)

checks_not_lent : (l : Ledger) (call : Call) (room : ℕ) → AllNotLent (L.checks_of l call room)
unfolding AllNotLent
checks_not_lent l (Call.Clock t) room = (later_lent 0, tt)
checks_not_lent l (Call.Change c) room = (later_lent 0, (later_lent 1, held_not_lent c _ _))
checks_not_lent l (Call.Ask ask) room = (later_lent 0, (later_lent 7, (later_lent 1, (later_lent 5, tt))))

accepted_not_lent : (l : Ledger) (call : Call) → NotLent (number_of (L.if_none_fails l call))
accepted_not_lent l (Call.Clock t) = none_lent
accepted_not_lent l (Call.Change c) = none_lent
accepted_not_lent l (Call.Ask ask) = none_lent

answer_not_lent : (l : Ledger) (fed : Fed) → NotLent (number_of (L.answer_to l fed))
unfolding L.answer_to
answer_not_lent l fed =
    first_not_lent (L.checks_of l fed.call fed.room) (L.if_none_fails l fed.call) (checks_not_lent l fed.call fed.room) (accepted_not_lent l fed.call)

replies_not_lent : (calls : List Fed) (l : Ledger) (r : Reply) → Memᴰ r (L.replies l calls) → NotLent (number_of r.answer)
unfolding L.replies L.reply_to
replies_not_lent [] l r m = absurd (Memᴰ.not-nil m)
replies_not_lent (fed ∷ more) l r m =
    ⊎_elim
    (λ (e : r ≡ L.reply_to l fed). rw (ap (λ (k : Reply). number_of k.answer) e) (answer_not_lent l fed))
    (λ k. replies_not_lent more (L.next l fed) r k)
    (Memᴰ.cases_cons m)

pub one_and_two_never_come_up : OneAndTwoNeverComeUp
one_and_two_never_come_up w time accepted calls r m =
    replies_not_lent (fed_all calls) (opened time) r
    (subst (λ (rs : List Reply). Memᴰ r rs) (every_history_is_the_ledgers w time accepted calls) m)

-- ---- computed

pub limits_as_said : AllAsSaid limits
unfolding limits
limits_as_said = refl

pub numbers_as_said : AllAsSaid numbers
unfolding numbers open_out clock_out first_to_fail is_sound is_sound_store
numbers_as_said = refl
