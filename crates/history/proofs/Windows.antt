-- The claims of specs/Windows.antt, proved. A window that passed checks 10 and 4 has its times and its rectangle in order, which is all that "listed
-- exactly" asks. A window of one time has the timeslice's aim in each phase and lists what the timeslice lists, and its checks come to the same.
-- Assumes nothing.
use Rattle.std.specs.Prelude.{Result, Ok, Err}
use mathlib.Core.Path.{◌≡◌, refl, ap, ◌∙◌}
use mathlib.Core.Bool.{Bool, true, false, not, cond, ◌||◌}
use mathlib.Core.List.{List, [], ◌∷◌, ◌++◌}
use Prim.Native.Nat.{ℕ}
use native.Mathlib.Omega.{arith}
use lib.Dec.{ltb}
use lib.IntN.{ℤ, pos, ◌+ℤ◌}
use lib.ListN.{length, drop}
use lib.Signed.{le_z}
use borrow.Author.Tests.{not-false}
use Rattle.ints.specs.Whole.{up, between}
use Rattle.ints.specs.Lists.{passing}
use Rattle.ints.proofs.Parts.{signed, add}
use Rattle.ints.proofs.Truth.{and_true, and_left}
use Rattle.grid.specs.Units.{cells, longest_window}
use Rattle.grid.specs.Reports.{is_listed}
use Rattle.grid.specs.declared.Rect.{Rect}
use Rattle.grid.proofs.MomentsCountedLaws.{lists_counted_moments, one_time_listed}
use Rattle.rows.specs.Phases.{since_reference, slot_of}
use Rattle.methods.specs.Aims.{aim_in}
use Rattle.methods.specs.Methods.{choice}
use Rattle.methods.specs.Slots.{rows_of_slot}
use Rattle.methods.specs.Marks.{marks_of}
use Rattle.methods.proofs.Windows.{one_time_is_timeslice}
use Rattle.records.specs.Words.{Words, time_in, records_in}
use Rattle.records.specs.declared.Record.{Record}
use Rattle.reading.specs.Reading.{listed_in, cells_in, useful_in, with_ids}
use Rattle.sorting.specs.Ids.{rising}
use Rattle.ledger.specs.Answers.{is_accepted}
use Rattle.ledger.specs.Refusals.{Check, check, first_to_fail, out_of_ask_range, bad_ask, ask_checks}
use Rattle.ledger.specs.Machine.{Ledger, rows_in, listed_held, useful_cells, ids_in_order, summed, choice_asked, ids_listed, phases_asked}
use Rattle.ledger.specs.Calls as L
use Rattle.ledger.specs.declared.Ask.{Ask}
use Rattle.ledger.specs.declared.Answer.TheVariants.{Listed}
use Rattle.ledger.specs.declared.Call.TheVariants as Call
use Rattle.ledger.specs.declared.Refusal.TheVariants.{BadTime, BadWindow, BadNumber, ListTooShort}
use Rattle.asking.specs.Asking.{choice_of, listed_of, found_in, phases_now, ids_needed, ids_found, cells_counted, useful_counted, rounds_counted, ask_settled}
use Rattle.asking.proofs.AskingPhasesLaws.{fit_ask, rectangle_ordered}
use Rattle.engine.specs.Index.{ask_out}
use Rattle.engine.specs.Checks.{lent_checks, checks_of}
use Rattle.history.specs.Index.{fed}
use Rattle.history.specs.Claims.{asking}
use Rattle.history.specs.Windows.{timeslice, window, WindowListsMoments, AcceptedWindowsListMoments, WindowOfOneTimeIsTimeslice}
use Rattle.history.proofs.EveryCall.{good_ask}
use Rattle.ledger.specs.declared.Refusal.{Refusal}

-- ---- listed exactly

pub window_lists_moments : WindowListsMoments
window_lists_moments rect first last span rectangle r =
    let latest = first +ℤ pos longest_window in
    let order = rectangle_ordered rect rectangle in
    let in_order = and_left (le_z first last) (le_z last latest) (not-false (between first latest last) span) in
    lists_counted_moments rect order.x_ordered order.y_ordered r first last in_order

pub accepted_windows_list_moments : AcceptedWindowsListMoments
accepted_windows_list_moments w method rect first last list h r =
    let ask = window method rect first last in
    let good = good_ask w ask list h in
    let fit = fit_ask (time_in w) ask good.good_time good.good_numbers in
    window_lists_moments rect first last good.good_window fit.is_rectangle_lem r

-- ---- one time

module _ (method : ℤ) (rect : Rect) (t : ℤ) where
  abbrev long : Ask
  long = window method rect t t

  abbrev short : Ask
  short = timeslice method rect t

  same_aim : (p : ℕ) → aim_in p long.query ≡ aim_in p short.query
  same_aim p =
      let same = one_time_is_timeslice (record { rect = rect; d = since_reference p t }) in
      λ i. record { expanded = λ r. same.same_expansion r i; meets = λ c r. same.same_meeting c r i }

  same_listed : is_listed long.query ≡ is_listed short.query
  same_listed = λ i r. one_time_listed rect t r i

  same_late : (now : ℤ) → (out_of_ask_range now t || out_of_ask_range now t) ≡ out_of_ask_range now t
  same_late now = go (out_of_ask_range now t)
    where
      go : (b : Bool) → b || b ≡ b
      go true = refl
      go false = refl

  no_span : not (between t (t +ℤ pos longest_window) t) ≡ false
  no_span = ap not (and_true (le_z t t) (le_z t (t +ℤ pos longest_window)) (omega (arith, signed)) (omega (arith, signed, add t (pos longest_window))))

  -- the checks of both, where the ids needed are the same
  same_checks : (now : ℤ) (room : ℕ) {n m : ℕ} → n ≡ m → ask_checks now long room n ≡ ask_checks now short room m
  same_checks now room e =
      λ i. check (same_late now i) BadTime ∷ check (no_span i) BadWindow ∷ check (bad_ask short) BadNumber ∷ check (ltb room (e i)) (ListTooShort (e i)) ∷ []

  -- ---- the index

  module _ (w : Words) where
    same_choice : (p : ℕ) → choice_of w long p ≡ choice_of w short p
    same_choice p = ap (choice (up method) (rows_of_slot w.table (slot_of p))) (same_aim p)

    same-listed_of : (p : ℕ) → listed_of w long p ≡ listed_of w short p
    same-listed_of p = λ i. listed_in (marks_of (same_choice p i).cells) (slot_of p) (same_listed i) (records_in w)

    same_needed : ids_needed w long ≡ ids_needed w short
    unfolding ids_needed
    same_needed = λ i. summed (λ p. length (same-listed_of p i)) (phases_now w short)

    same_cells : cells_counted w long ≡ cells_counted w short
    unfolding cells_counted
    same_cells = λ i. summed (λ p. cells_in (marks_of (same_choice p i).cells) 0 cells) (phases_now w short)

    same_useful : useful_counted w long ≡ useful_counted w short
    unfolding useful_counted
    same_useful = λ i. summed (λ p. useful_in (slot_of p) (same-listed_of p i) 0 cells) (phases_now w short)

    same_rounds : rounds_counted w long ≡ rounds_counted w short
    unfolding rounds_counted
    same_rounds = λ i. summed (λ p. (same_choice p i).rounds) (phases_now w short)

    same_found : (found ps : List ℕ) → found_in w long found ps ≡ found_in w short found ps
    unfolding found_in
    same_found found [] = refl
    same_found found (p ∷ ps) =
        ap (λ (rs : List Record). found_in w long (with_ids found rs) ps) (same-listed_of p) ∙ same_found (with_ids found (listed_of w short p)) ps

    same_ids : ids_found w long ≡ ids_found w short
    unfolding ids_found
    same_ids = ap rising (same_found _ (phases_now w short))

    same_settled : (v : Result (Unit {0}) Refusal) (list : List ℕ) → ask_settled v w long list ≡ ask_settled v w short list
    same_settled (Err r) list = refl
    same_settled (Ok tt) list =
        λ i. record {
          answer = Listed (same_needed i) (same_cells i) (same_useful i) (same_rounds i);
          list = same_ids i ++ drop (length (same_ids i)) list;
        }

    same_outcome : (list : List ℕ) → ask_out w long list ≡ ask_out w short list
    unfolding ask_out
    same_outcome list =
        ap (λ (cs : List Check). ask_settled (first_to_fail (lent_checks w cs)) w long list) (same_checks (time_in w) (length list) same_needed)
        ∙ same_settled (first_to_fail (checks_of w (Call.Ask short) (length list))) list

  -- ---- the ledger

  module _ (l : Ledger) where
    same-choice_asked : (p : ℕ) → choice_asked l long p ≡ choice_asked l short p
    same-choice_asked p = ap (choice (up method) (rows_in l p)) (same_aim p)

    same_held : listed_held long.query l.held ≡ listed_held short.query l.held
    same_held = λ i. passing (λ h. same_listed i h.report) l.held

    same_ledger_ids : ids_listed l long ≡ ids_listed l short
    same_ledger_ids = ap ids_in_order same_held

    same_answer : (room : ℕ) → L.answer_to l (record { call = Call.Ask long; room = room }) ≡ L.answer_to l (record { call = Call.Ask short; room = room })
    unfolding L.answer_to
    same_answer room =
        λ i. L.answer_by (first_to_fail (same_checks l.now room (ap length same_ledger_ids) i))
        (Listed
        (length (same_ledger_ids i))
        (summed (λ p. length (same-choice_asked p i).cells) (phases_asked l short))
        (summed (λ p. useful_cells p (same_held i) (same-choice_asked p i).cells) (phases_asked l short))
        (summed (λ p. (same-choice_asked p i).rounds) (phases_asked l short)))

    same_reply : (list : List ℕ) → L.reply_to l (fed (asking long list)) ≡ L.reply_to l (fed (asking short list))
    unfolding L.reply_to L.ids_of
    same_reply list =
        λ i. record {
          answer = same_answer (length list) i;
          ids = cond (is_accepted (same_answer (length list) i)) (same_ledger_ids i) [];
        }

pub window_of_one_time_is_timeslice : WindowOfOneTimeIsTimeslice
window_of_one_time_is_timeslice method rect t list = (
  λ w. record { same_outcome = same_outcome method rect t w list; same_choice = same_choice method rect t w },
  λ l. record { same_reply = same_reply method rect t l list; same_choice = same-choice_asked method rect t l },
)
