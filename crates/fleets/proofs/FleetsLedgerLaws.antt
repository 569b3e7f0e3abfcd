-- The ledger opened at 0 accepts a fleet's floats one after the other. Each comes at time 0, so that the clock step before it keeps what is held; its
-- id is above those that are held; and there is room for it.
-- Assumes nothing.
use Rattle.std.specs.Prelude.{Result, Ok}
use mathlib.Core.Path.{◌≡◌, refl, sym, ap, ap₂, ◌∙◌}
use mathlib.Core.Bool.{true, false, cond, not, ◌||◌}
use mathlib.Core.List.{List, [], ◌∷◌, map}
use Prim.Native.Nat.{ℕ, zero, suc, ◌+◌, ◌-◌, ◌≤◌, ◌<◌}
use native.Mathlib.Omega.{arith}
use lib.IntN.{ℤ, pos}
use lib.ListN.{length}
use borrow.Author.Tests.{lt-leb}
use Rattle.ints.specs.Whole.{up, eq_z}
use Rattle.ints.specs.Lists.{passing, some, every}
use Rattle.ints.proofs.Truth.{and_true}
use Rattle.ints.proofs.Lists.{passing_in, passing_all, every_each, each_every}
use Rattle.ints.proofs.Same.{not_same}
use Rattle.grid.specs.Units.{capacity, last_id}
use Rattle.grid.specs.Reports.{in_range, is_silent, stays_at}
use Rattle.grid.specs.declared.Report.{Report}
use Rattle.ledger.specs.Answers.{is_accepted}
use Rattle.ledger.specs.Machine.{Held, Ledger, opened, moved_held, keeping, moved_on, stepped, is_held, with_report}
use Rattle.ledger.specs.Refusals.{first_to_fail, bad_step_time}
use Rattle.ledger.specs.Calls.{Fed, answer_by, checks_of, changed_by, answer_to, ids_of, next, reply_to, replies}
use Rattle.ledger.specs.declared.Answer.{Answer}
use Rattle.ledger.specs.declared.Answer.TheVariants.{Accepted}
use Rattle.ledger.specs.declared.Refusal.TheVariants.{BadTime, BadNumber, AlreadyHeld, Full}
use Rattle.ledger.proofs.MachineLaws.{same_report, moved_length, moved_held_lem, moved_from}
use Rattle.ledger.proofs.RefusalsLaws.{passes, none_fails}
use Rattle.generator.specs.Generator.{steps}
use Rattle.fleets.specs.Fleets.{draws, float_of, floats_after}
use Rattle.fleets.specs.Claims.{fed_with, accepted_after, LedgerAcceptsFleets}
use Rattle.fleets.proofs.InputsLaws.{ranges}
use Rattle.fleets.proofs.FleetsLaws.{written_after, float-in_range}
use Rattle.ledger.specs.declared.Refusal.{Refusal}

-- ---- one float

-- a ledger at 0 with h floats held, none of an id above k, and none silent at 0
pub record Filled (k h : ℕ) (l : Ledger) : Type 0 where
  pub at_start : l.now ≡ pos 0
  pub none_above : (j : ℕ) → k < j → is_held (pos j) l.held ≡ false
  pub many : length l.held ≡ h
  pub stay : every (λ g. stays_at (pos 0) g.report) l.held ≡ true

pub opened_filled : (k : ℕ) → Filled k 0 (opened (pos 0))
unfolding some every
opened_filled k = record { at_start = refl; none_above = λ j h. refl; many = refl; stay = refl }

-- a float that may come next
record Next (k : ℕ) (r : Report) : Type 0 where
  id_is : r.id ≡ pos (suc k)
  at_start : r.t ≡ pos 0
  good : in_range r ≡ true

may_come_next : (k s : ℕ) → k < last_id → Next k (float_of (suc k) s)
unfolding float_of
may_come_next k s h = record { id_is = refl; at_start = refl; good = float-in_range (suc k) s (omega arith) (omega arith) }

-- what the ledger makes of a float: it answers with one float more, which it then holds
pub record Accepts (k h : ℕ) (l : Ledger) (fed : Fed) : Type 0 where
  pub reply_is : reply_to l fed ≡ record { answer = Accepted (suc h); ids = [] }
  pub filled : Filled (suc k) (suc h) (next l fed)

module _ (k h : ℕ) (l : Ledger) (f : Filled k h l) (room : ℕ) (r : Report) (n : Next k r) (c : h < capacity) where
  abbrev fed : Fed
  fed = fed_with room r

  abbrev left : List Held
  left = passing (λ g. stays_at r.t g.report) l.held

  left_all : left ≡ l.held
  left_all =
      passing_all (λ g. stays_at r.t g.report) l.held
      (λ g m. ap (λ (t : ℤ). stays_at t g.report) n.at_start ∙ every_each (λ x. stays_at (pos 0) x.report) l.held f.stay m)

  abbrev kept : List Held
  kept = moved_held r.t left

  kept_many : length kept ≡ h
  kept_many = moved_length r.t left ∙ ap length left_all ∙ f.many

  kept_above : (j : ℕ) → k < j → is_held (pos j) kept ≡ false
  kept_above j i = moved_held_lem r.t (pos j) left ∙ ap (is_held (pos j)) left_all ∙ f.none_above j i

  kept_stay : every (λ g. stays_at (pos 0) g.report) kept ≡ true
  kept_stay =
      each_every (λ g. stays_at (pos 0) g.report) kept (λ g m.
      let from = moved_from r.t left m in
      let was = (passing_in (λ x. stays_at r.t x.report) l.held from.1).0 in
      ap (λ (x : Held). stays_at (pos 0) x.report) from.2
      ∙ ap (stays_at (pos 0)) (same_report r.t from.0)
      ∙ every_each (λ x. stays_at (pos 0) x.report) l.held f.stay was)

  new_stays : stays_at (pos 0) r ≡ true
  unfolding is_silent
  new_stays = ap (λ (t : ℤ). not (is_silent (pos 0) t)) n.at_start

  in_time_lem : bad_step_time l.now r.t ≡ false
  in_time_lem = ap₂ bad_step_time f.at_start n.at_start

  not_held : is_held r.id kept ≡ false
  not_held = ap (λ (id : ℤ). is_held id kept) n.id_is ∙ kept_above (suc k) (omega arith)

  none_fails_here : Ok tt ≡ first_to_fail (checks_of l fed.call room)
  unfolding stepped moved_on keeping
  none_fails_here =
      passes _ BadTime _ _ in_time_lem
      (passes _ BadNumber _ _ (ap not n.good)
      (passes _ AlreadyHeld _ _ not_held (passes _ Full _ _ (lt-leb capacity (length kept) (omega (arith, kept_many))) none_fails)))

  answered : answer_to l fed ≡ Accepted (suc h)
  unfolding answer_to changed_by stepped moved_on keeping with_report
  answered = ap (λ (v : Result (Unit {0}) Refusal). answer_by v (Accepted (suc (length kept)))) (sym none_fails_here) ∙ ap (λ (m : ℕ). Accepted (suc m)) kept_many

  replied : reply_to l fed ≡ record { answer = Accepted (suc h); ids = [] }
  unfolding reply_to ids_of
  replied = ap (λ (a : Answer). record { answer = a; ids = cond (is_accepted a) [] [] }) answered

  next_is : next l fed ≡ changed_by l fed.call
  unfolding next
  next_is = ap (λ (a : Answer). cond (is_accepted a) (changed_by l fed.call) l) answered

  -- the new id is none of those above it
  still_above : (j : ℕ) → suc k < j → eq_z r.id (pos j) || is_held (pos j) kept ≡ false
  still_above j i = rw (not_same r.id (pos j) (λ e. omega (arith, ap up (sym n.id_is ∙ e)))) (kept_above j (omega arith))

  changed_filled : Filled (suc k) (suc h) (changed_by l fed.call)
  unfolding changed_by stepped moved_on keeping with_report some every
  changed_filled = record { at_start = n.at_start; none_above = still_above; many = ap suc kept_many; stay = and_true _ _ new_stays kept_stay }

  next_accepted : Accepts k h l fed
  next_accepted = record { reply_is = replied; filled = rw next_is changed_filled }

pub float_accepted :
    (k h : ℕ) (l : Ledger) → Filled k h l → (room s : ℕ) → k < last_id → h < capacity → Accepts k h l (fed_with room (float_of (suc k) s))
float_accepted k h l f room s i c = next_accepted k h l f room (float_of (suc k) s) (may_come_next k s i) c

-- ---- several

accepts_from :
    (k h n s room : ℕ) (l : Ledger)
    → Filled k h l
    → k + n ≤ last_id
    → h + n ≤ capacity
    → replies l (map (fed_with room) (floats_after k n s)) ≡ accepted_after h n
unfolding replies floats_after accepted_after
accepts_from k h zero s room l f i c = refl
accepts_from k h (suc n) s room l f i c =
    let a = float_accepted k h l f room s (omega arith) (omega arith) in
    ap₂ ◌∷◌ a.reply_is (accepts_from (suc k) (suc h) n (steps draws s) room _ a.filled (omega arith) (omega arith))

-- ---- a fleet

pub ledger_accepts : LedgerAcceptsFleets
ledger_accepts f room h =
    let r = ranges f h in
    ap (λ (rs : List Report). replies (opened (pos 0)) (map (fed_with room) rs)) (written_after f h)
    ∙ accepts_from f.skip 0 (f.floats - f.skip) _ room (opened (pos 0)) (opened_filled f.skip) (omega (arith, r.most, r.skipped))
    (omega (arith, r.most))
