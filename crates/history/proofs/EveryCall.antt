-- The claims of specs/EveryCall.antt, proved.
-- Assumes nothing.
use Rattle.std.specs.Prelude.{Result, Ok, Err}
use mathlib.Core.Path.{◌≡◌, refl, sym, ap, ◌∙◌}
use mathlib.Core.Bool.{Bool, true, false, not}
use mathlib.Core.List.{List, [], ◌∷◌, ◌++◌}
use Prim.Native.Nat.{ℕ, zero, suc}
use lib.Dec.{ltb}
use lib.IntN.{ℤ, pos, negsuc}
use lib.ListN.{length, drop}
use native.Mathlib.Omega.{arith}
use borrow.Author.Tests.{not-false}
use Rattle.ints.specs.Whole.{up}
use Rattle.ints.proofs.Parts.{true_false}
use Rattle.rows.specs.Phases.{phase_of, live_phases, slot_of}
use Rattle.methods.specs.Methods.{choice}
use Rattle.methods.specs.Aims.{aim_in}
use Rattle.methods.specs.Slots.{rows_of_slot}
use Rattle.records.specs.Words.{Words, time_in, records_in, are_sound}
use Rattle.records.proofs.SoundnessLaws.{sound_parts}
use Rattle.ledger.specs.Answers.{Counts, value_of, counts_of, is_accepted}
use Rattle.ledger.specs.Refusals.{check, unless, first_to_fail, in_check_order, bad_ask_time, bad_window, bad_ask, change_checks, ask_number_checks, ask_checks}
use Rattle.ledger.specs.declared.Answer.{Answer}
use Rattle.ledger.specs.declared.Answer.TheVariants.{Accepted, Listed, Refused}
use Rattle.ledger.specs.declared.Ask.{Ask}
use Rattle.ledger.specs.declared.Call.{Call}
use Rattle.ledger.specs.declared.Change.{Change}
use Rattle.ledger.specs.declared.Refusal.TheVariants.{Unsound, WrongLength, ListTooShort}
use Rattle.ledger.proofs.MachineSummedLaws.{summed_same, summed_none}
use Rattle.ledger.proofs.Claims.{refusals_are_plain}
use Rattle.ledger.proofs.RefusalsLaws.{first_passed, others_passed, passed_before, before_passed, GoodAsk, ask_good, good_passes}
use Rattle.asking.specs.Asking.{choice_of, ids_needed, ids_found, rounds_counted, AskOutcome, ask_settled}
use Rattle.asking.specs.Counted.{room_checks}
use Rattle.asking.specs.Claims.{ids_inside}
use Rattle.asking.proofs.AskingPhasesLaws.{fit_ask}
use Rattle.asking.proofs.CountedLaws.{cells_counted_are}
use Rattle.asking.proofs.Claims.{list_is_exact}
use Rattle.engine.specs.Index.{ask_out, call_out}
use Rattle.engine.specs.Checks.{wrong_length, unsound, lent_checks, checks_of}
use Rattle.engine.proofs.ChecksLaws.{sound_lent}
use Rattle.history.specs.Index.{ids_written}
use Rattle.history.specs.EveryCall.{EveryCallChecksInOrder, CountsOfAsk, ListIsWritten, held_in, CountsAreExact, ChoiceRoundsAreMethodTwos, RoundsAreMethodTwos, RefusedAskIsEmpty}
use Rattle.history.proofs.SoundUseful.{useful_counted_lem}
use Rattle.ledger.specs.declared.Refusal.{Refusal}

-- ---- the order of the checks

change_order : (w : Words) (c : Change) (now : ℤ) (is_held : Bool) (held : ℕ) → in_check_order (lent_checks w (change_checks now c is_held held)) ≡ true
unfolding in_check_order
change_order w (Change.Add r) now is_held held = refl
change_order w (Change.Report r) now is_held held = refl
change_order w (Change.Drop id t) now is_held held = refl

call_order : (w : Words) (call : Call) (room : ℕ) → in_check_order (checks_of w call room) ≡ true
unfolding in_check_order
call_order w (Call.Clock t) room = refl
call_order w (Call.Change c) room = change_order w c (time_in w) _ _
call_order w (Call.Ask ask) room = refl

pub every_call_checks_in_order : EveryCallChecksInOrder
unfolding in_check_order
every_call_checks_in_order w = record { open_order = λ time. refl; call_order = call_order w }

-- ---- an ask by its verdict

settled_passed : (v : Result (Unit {0}) Refusal) (w : Words) (ask : Ask) (list : List ℕ) → is_accepted (ask_settled v w ask list).answer ≡ true → v ≡ Ok tt
settled_passed (Ok tt) w ask list h = refl
settled_passed (Err r) w ask list h = absurd (true_false (sym h))

settled_stays : (v : Result (Unit {0}) Refusal) (w : Words) (ask : Ask) (list : List ℕ) → is_accepted (ask_settled v w ask list).answer ≡ false → (ask_settled v w ask list).list ≡ list
settled_stays (Ok tt) w ask list h = absurd (true_false h)
settled_stays (Err r) w ask list h = refl

room_accepts : (w : Words) (ask : Ask) (list : List ℕ) (room needed : ℕ) → is_accepted (ask_settled (first_to_fail (room_checks room needed)) w ask list).answer ≡ not (ltb room needed)
unfolding first_to_fail
room_accepts w ask list room needed = go (ltb room needed)
  where
    go : (b : Bool) → is_accepted (ask_settled (unless b (ListTooShort needed) (Ok tt)) w ask list).answer ≡ not b
    go true = refl
    go false = refl

module _ (w : Words) (ask : Ask) (list : List ℕ) where
  abbrev room : ℕ
  room = length list

  abbrev verdict : Result (Unit {0}) Refusal
  verdict = first_to_fail (checks_of w (Call.Ask ask) room)

  module _ (h : is_accepted (ask_out w ask list).answer ≡ true) where
    passed : verdict ≡ Ok tt
    unfolding ask_out
    passed = settled_passed verdict w ask list h

    after_lent : first_to_fail (ask_checks (time_in w) ask room (ids_needed w ask)) ≡ Ok tt
    after_lent =
        let asked = ask_checks (time_in w) ask room (ids_needed w ask) in
        others_passed (unsound w) Unsound asked (others_passed (wrong_length w) WrongLength (check (unsound w) Unsound ∷ asked) passed)

    sound_here : are_sound w ≡ true
    sound_here =
        let asked = ask_checks (time_in w) ask room (ids_needed w ask) in
        not-false (are_sound w) (first_passed (unsound w) Unsound asked (others_passed (wrong_length w) WrongLength (check (unsound w) Unsound ∷ asked) passed))

    pub good_ask : GoodAsk (time_in w) ask
    good_ask = ask_good (time_in w) ask (before_passed (ask_number_checks (time_in w) ask) (room_checks room (ids_needed w ask)) after_lent)

    out_is : ask_out w ask list ≡ ask_settled (Ok tt) w ask list
    unfolding ask_out
    out_is = ap (λ (v : Result (Unit {0}) Refusal). ask_settled v w ask list) passed

    exact : (ids_found w ask ≡ ids_inside ask.query (records_in w)) × (ids_needed w ask ≡ length (ids_inside ask.query (records_in w)))
    exact = list_is_exact w sound_here ask good_ask.good_time good_ask.good_numbers

    list_written : (ask_out w ask list).list ≡ ids_inside ask.query (records_in w) ++ drop (length (ids_inside ask.query (records_in w))) list
    list_written = rw out_is (ap (λ (ids : List ℕ). ids ++ drop (length ids) list) exact.0)

    counts_exact : CountsOfAsk w ask list (held_in w) (live_phases (phase_of (time_in w)))
    unfolding rounds_counted
    counts_exact =
        let parts = sound_parts w.store w.table sound_here in
        let fit = fit_ask (time_in w) ask good_ask.good_time good_ask.good_numbers in
        record {
          cells_are = ap (λ (o : AskOutcome). (counts_of o.answer).cells) out_is ∙ cells_counted_are w ask;
          useful_are = ap (λ (o : AskOutcome). (counts_of o.answer).useful) out_is ∙ useful_counted_lem w parts ask fit;
          rounds_are = ap (λ (o : AskOutcome). (counts_of o.answer).rounds) out_is;
        }

    value_exact : value_of (ask_out w ask list).answer ≡ length (ids_inside ask.query (records_in w))
    value_exact = rw out_is exact.1

  -- good numbers over sound words: accepted exactly where the list has room
  accepted_with_room :
      are_sound w ≡ true
      → bad_ask_time (time_in w) ask.query ≡ false
      → bad_window ask.query ≡ false
      → bad_ask ask ≡ false
      → is_accepted (ask_out w ask list).answer ≡ not (ltb room (length (ids_inside ask.query (records_in w))))
  unfolding ask_out
  accepted_with_room sound time window numbers =
      let checks = ask_number_checks (time_in w) ask in
      let passed = good_passes (time_in w) ask (record { good_time = time; good_window = window; good_numbers = numbers }) in
      ap (λ (v : Result (Unit {0}) Refusal). is_accepted (ask_settled v w ask list).answer)
      (sym (passed_before checks (room_checks room (ids_needed w ask)) passed ∙ sound_lent w sound (ask_checks (time_in w) ask room (ids_needed w ask))))
      ∙ room_accepts w ask list room (ids_needed w ask)
      ∙ ap (λ (n : ℕ). not (ltb room n)) (list_is_exact w sound ask time numbers).1

  list_stays : is_accepted (ask_out w ask list).answer ≡ false → (ask_out w ask list).list ≡ list
  unfolding ask_out
  list_stays h = settled_stays verdict w ask list h

pub list_is_written : ListIsWritten
list_is_written w ask list = record {
  accepted_with_room = accepted_with_room w ask list;
  ids_in_front = list_written w ask list;
  ids_returned = value_exact w ask list;
  untouched = list_stays w ask list;
}

pub counts_are_exact : CountsAreExact
counts_are_exact w ask list h = counts_exact w ask list h

-- ---- rounds

pub choice_rounds_are_method_twos : ChoiceRoundsAreMethodTwos
unfolding choice
choice_rounds_are_method_twos zero rows aim other = refl
choice_rounds_are_method_twos (suc zero) rows aim other = refl
choice_rounds_are_method_twos (suc (suc zero)) rows aim other = absurd (other refl)
choice_rounds_are_method_twos (suc (suc (suc n))) rows aim other = refl

not_two : (method : ℤ) → (method ≡ pos 2 → ⊥) → up method ≡ 2 → ⊥
not_two (pos n) other e = other (ap pos e)
not_two (negsuc n) other e = let z : ◌≡◌ {A = ℕ} 0 2 = e in omega arith

pub rounds_are_method_twos : RoundsAreMethodTwos
rounds_are_method_twos w ask list other = go (is_accepted (ask_out w ask list).answer) refl
  where
    go : (b : Bool) → is_accepted (ask_out w ask list).answer ≡ b → (counts_of (ask_out w ask list).answer).rounds ≡ 0
    go true h =
        (counts_exact w ask list h).rounds_are
        ∙ summed_same (λ p. (choice_of w ask p).rounds) (λ p. 0) (live_phases (phase_of (time_in w)))
        (λ p m. choice_rounds_are_method_twos (up ask.method) (rows_of_slot w.table (slot_of p)) (aim_in p ask.query) (not_two ask.method other))
        ∙ summed_none (live_phases (phase_of (time_in w)))
    go false h = ap (λ (k : Counts). k.rounds) ((refusals_are_plain (ask_out w ask list).answer).no_counts_lem h)

-- ---- a refused call

none_written : (a : Answer) (list : List ℕ) → is_accepted a ≡ false → ids_written a list ≡ []
none_written (Accepted held) list h = refl
none_written (Listed ids cells useful rounds) list h = absurd (true_false h)
none_written (Refused r) list h = refl

call_list_stays : (w : Words) (call : Call) (list : List ℕ) → is_accepted (call_out w call list).answer ≡ false → (call_out w call list).list ≡ list
unfolding call_out
call_list_stays w (Call.Clock t) list h = refl
call_list_stays w (Call.Change c) list h = refl
call_list_stays w (Call.Ask ask) list h = list_stays w ask list h

pub refused-ask-is_empty : RefusedAskIsEmpty
refused-ask-is_empty w lent h =
    let o = call_out w lent.call lent.list in
    record {
      no_ids = none_written o.answer o.list h;
      no_cells = (refusals_are_plain o.answer).no_counts_lem h;
      list_stays = call_list_stays w lent.call lent.list h;
    }
