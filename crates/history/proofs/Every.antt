-- After an accepted open, at every point of every list of calls, the index's words match the ledger; so every answer in the list is the ledger's,
-- once each ask answers as the ledger does.
-- Assumes nothing.
use Rattle.std.specs.Prelude.{Result, Ok, Err}
use mathlib.Core.Path.{◌≡◌, refl, sym, ap, ap₂, ◌∙◌}
use mathlib.Core.Bool.{Bool, true, false, cond}
use mathlib.Core.List.{List, [], ◌∷◌}
use Prim.Native.Nat.{ℕ, zero, suc, ◌<◌}
use native.Mathlib.Omega.{arith}
use lib.IntN.{ℤ}
use lib.ListN.{length}
use borrow.Author.Tests.{not-false}
use Rattle.grid.specs.Units.{cells}
use Rattle.grid.specs.Reports.{is_time}
use Rattle.rows.specs.Row.{empty_row, bounds_of}
use Rattle.rows.specs.Phases.{slot_of, slots}
use Rattle.rows.specs.Table.{table_words, row_at, with_slot_empty}
use Rattle.rows.proofs.PhasesLaws.{slot_on}
use Rattle.rows.proofs.TableLaws.{length_slot_empty, row_emptied, row_kept}
use Rattle.records.specs.Words.{Words, time_in, records_in}
use Rattle.words.specs.Words as Index
use Rattle.words.proofs.WordsPlacedLaws.{opened_time, opened_records, opened_can_change}
use Rattle.ledger.specs.Answers.{is_accepted}
use Rattle.ints.specs.Lists.{passing}
use Rattle.ints.proofs.Parts.{true_false}
use Rattle.ledger.specs.Refusals.{Check, check, first_to_fail, bad_time, clock_checks, time_of}
use Rattle.ledger.specs.Machine.{Ledger, opened, stepped, changed, rows_in, speeds_placed}
use Rattle.ledger.specs.Calls as L
use Rattle.ledger.specs.Calls.{answer_by}
use Rattle.ledger.specs.declared.Answer.TheVariants.{Accepted}
use Rattle.ledger.specs.declared.Ask.{Ask}
use Rattle.ledger.specs.declared.Call.{Call}
use Rattle.ledger.specs.declared.Change.{Change}
use Rattle.ledger.specs.declared.Refusal.TheVariants.{WrongLength, BadTime}
use Rattle.ledger.proofs.RefusalsLaws.{first_passed, others_passed}
use Rattle.engine.specs.Index.{settled, open_out, clock_out, change_out, leaving_list, call_out}
use Rattle.engine.specs.Checks.{wrong_length, lent_checks, open_checks, checks_of_change}
use Rattle.engine.specs.Index as Engine
use Rattle.engine.specs.Checks as Checks
use Rattle.engine.proofs.ChecksLaws.{right_lengths, sound_lent}
use Rattle.history.specs.Index.{LentCall, fed, fed_all, reply_of, reply_to, next, replies, after, opened_words}
use Rattle.history.specs.Claims.{EveryHistoryIsTheLedgers, asking}
use Rattle.history.proofs.Relation.{records_of_held, TableMatches, Left}
use Rattle.history.proofs.GoodKept.{opened_good}
use Rattle.history.proofs.Sound.{matching_sound, count_is}
use Rattle.history.proofs.Steps.{clock_same, clock_left, checks, change_same, change_left}
use Rattle.ledger.specs.declared.Refusal.{Refusal}

-- ---- open

-- all three slots emptied
module _ (table : List ℤ) (sized : length table ≡ table_words) where
  abbrev first : List ℤ
  first = with_slot_empty table 0

  abbrev second : List ℤ
  second = with_slot_empty first 1

  abbrev third : List ℤ
  third = with_slot_empty second 2

  first_long : length first ≡ table_words
  first_long = length_slot_empty table 0 sized (omega arith) ∙ sized

  second_long : length second ≡ table_words
  second_long = length_slot_empty first 1 first_long (omega arith) ∙ first_long

  third_long : length third ≡ table_words
  third_long = length_slot_empty second 2 second_long (omega arith) ∙ second_long

  all_empty : (slot n : ℕ) → slot < slots → n < cells → row_at third slot n ≡ empty_row
  all_empty zero n h k =
      row_kept second 2 second_long (omega arith) 0 n k (λ e. omega arith)
      ∙ row_kept first 1 first_long (omega arith) 0 n k (λ e. omega arith)
      ∙ row_emptied table 0 sized (omega arith) n k
  all_empty (suc zero) n h k =
      row_kept second 2 second_long (omega arith) 1 n k (λ e. omega arith)
      ∙ row_emptied first 1 first_long (omega arith) n k
  all_empty (suc (suc zero)) n h k = row_emptied second 2 second_long (omega arith) n k
  all_empty (suc (suc (suc slot))) n h k = absurd (omega arith)

  opened_table : (time : ℤ) → TableMatches (opened time) third
  unfolding rows_in speeds_placed passing bounds_of
  opened_table time =
      record {
        table_long = third_long;
        rows_are = λ p live n h. all_empty (slot_of p) n (slot_on p) h;
        rest_empty = λ slot n h k far. all_empty slot n h k;
      }

-- an open that was accepted passed its checks
settled_passed : (v : Result (Unit {0}) Refusal) (w w' : Words) → is_accepted (settled v w w').answer ≡ true → v ≡ Ok tt
settled_passed (Ok tt) w w' h = refl
settled_passed (Err r) w w' h = absurd (true_false (sym h))

module _ (w : Words) (time : ℤ) (accepted : is_accepted (open_out w time).answer ≡ true) where
  passed : first_to_fail (open_checks w time) ≡ Ok tt
  unfolding open_out
  passed = settled_passed (first_to_fail (open_checks w time)) w (Index.opened time w) accepted

  pub opened_left : Left (opened time) (opened_words w time)
  unfolding open_out Index.opened records_of_held
  opened_left =
      let long = right_lengths w (first_passed (wrong_length w) WrongLength (check (bad_time time) BadTime ∷ []) passed) in
      let rest = others_passed (wrong_length w) WrongLength (check (bad_time time) BadTime ∷ []) passed in
      rw (opened_words, passed)
      (record {
        good = opened_good time (not-false (is_time time) (first_passed (bad_time time) BadTime [] rest));
        matches = record {
          can_change = opened_can_change time w long;
          time_is = opened_time time w;
          records_are = opened_records time w;
          table = opened_table w.table long.table_long time;
        };
      })

-- ---- one call

-- by the verdict: refused, both stay; else both change, and as many floats are held in both
module _ (l l' : Ledger) (w w' : Words) where
  left_by : Left l w → (v : Result (Unit {0}) Refusal) → (v ≡ Ok tt → Left l' w') → Left (cond (is_accepted (answer_by v (Accepted (length l'.held)))) l' l) (settled v w w').words
  left_by left (Ok tt) changed = changed refl
  left_by left (Err r) changed = left

  reply_by : (list : List ℕ) (v : Result (Unit {0}) Refusal) → (v ≡ Ok tt → Left l' w')
      → reply_of (leaving_list (settled v w w') list)
      ≡ record { answer = answer_by v (Accepted (length l'.held)); ids = cond (is_accepted (answer_by v (Accepted (length l'.held)))) [] [] }
  reply_by list (Ok tt) changed =
      let left = changed refl in
      ap (λ (n : ℕ). reply_of (leaving_list (record { answer = Accepted n; words = w' }) list)) (count_is l' w' left.good left.matches)
  reply_by list (Err r) changed = refl

module _ (l : Ledger) (w : Words) (left : Left l w) (list : List ℕ) where
  -- the checks of the lent words are passed
  sound_here : (more : List Check) → first_to_fail (lent_checks w more) ≡ first_to_fail more
  sound_here more = sym (sound_lent w (matching_sound l w left.good left.matches) more)

  module _ (t : ℤ) where
    abbrev clocking : LentCall
    clocking = record { call = Call.Clock t; list = list }

    clock_verdict : first_to_fail (Checks.checks_of w (Call.Clock t) 0) ≡ first_to_fail (clock_checks l.now t)
    clock_verdict = sound_here (clock_checks (time_in w) t) ∙ ap first_to_fail (clock_same l w left t)

    clock_leaves : Left (L.next l (fed clocking)) (next w clocking)
    unfolding L.next L.answer_to L.changed_by call_out clock_out
    clock_leaves = rw (next, clock_verdict) (left_by l (stepped t l) w (Index.stepped t w) left (first_to_fail (clock_checks l.now t)) (clock_left l w left t))

    clock_reply : reply_to w clocking ≡ L.reply_to l (fed clocking)
    unfolding L.reply_to L.answer_to L.changed_by L.ids_of call_out clock_out
    clock_reply = rw clock_verdict (reply_by l (stepped t l) w (Index.stepped t w) list (first_to_fail (clock_checks l.now t)) (clock_left l w left t))

  module _ (c : Change) where
    abbrev changing : LentCall
    changing = record { call = Call.Change c; list = list }

    change_verdict : first_to_fail (Checks.checks_of w (Call.Change c) 0) ≡ first_to_fail (checks l w left c)
    change_verdict = sound_here (checks_of_change (time_in w) (records_in w) c) ∙ ap first_to_fail (change_same l w left c)

    abbrev ledger_then : Ledger
    ledger_then = changed c (stepped (time_of c) l)

    abbrev words_then : Words
    words_then = Engine.changed c (Index.stepped (time_of c) w)

    change_leaves : Left (L.next l (fed changing)) (next w changing)
    unfolding L.next L.answer_to L.changed_by call_out change_out
    change_leaves = rw (next, change_verdict) (left_by l ledger_then w words_then left (first_to_fail (checks l w left c)) (change_left l w left c))

    change_reply : reply_to w changing ≡ L.reply_to l (fed changing)
    unfolding L.reply_to L.answer_to L.changed_by L.ids_of call_out change_out
    change_reply = rw change_verdict (reply_by l ledger_then w words_then list (first_to_fail (checks l w left c)) (change_left l w left c))

  -- an ask leaves both as they are
  ask_leaves : (ask : Ask) → Left (L.next l (fed (asking ask list))) (next w (asking ask list))
  unfolding L.next L.changed_by call_out
  ask_leaves ask = go (is_accepted (L.answer_to l (fed (asking ask list))))
    where
      go : (b : Bool) → Left (cond b l l) w
      go true = left
      go false = left

pub call_leaves : (l : Ledger) (w : Words) (lent : LentCall) → Left l w → Left (L.next l (fed lent)) (next w lent)
call_leaves l w lent left = go lent.call
  where
    go : (call : Call) → Left (L.next l (fed (record { call = call; list = lent.list }))) (next w (record { call = call; list = lent.list }))
    go (Call.Clock t) = clock_leaves l w left lent.list t
    go (Call.Change c) = change_leaves l w left lent.list c
    go (Call.Ask ask) = ask_leaves l w left lent.list ask

pub calls_leave : (calls : List LentCall) (l : Ledger) (w : Words) → Left l w → Left (L.after l (fed_all calls)) (after w calls)
unfolding after L.after
calls_leave [] l w left = left
calls_leave (lent ∷ more) l w left =
    calls_leave more (L.next l (fed lent)) (next w lent) (call_leaves l w lent left)

-- at every point the ledger is good and the words match it
pub every_point_matches : (w : Words) (time : ℤ) → is_accepted (open_out w time).answer ≡ true → (calls : List LentCall)
    → Left (L.after (opened time) (fed_all calls)) (after (opened_words w time) calls)
every_point_matches w time accepted calls =
    calls_leave calls (opened time) (opened_words w time) (opened_left w time accepted)

-- ---- every answer of every list, once each ask answers as the ledger does

module _ (ask_agrees : (l : Ledger) (w : Words) → Left l w → (ask : Ask) (list : List ℕ) → reply_to w (asking ask list) ≡ L.reply_to l (fed (asking ask list))) where
  pub call_reply : (l : Ledger) (w : Words) (lent : LentCall) → Left l w → reply_to w lent ≡ L.reply_to l (fed lent)
  call_reply l w lent left = go lent.call
    where
      go : (call : Call) → reply_to w (record { call = call; list = lent.list }) ≡ L.reply_to l (fed (record { call = call; list = lent.list }))
      go (Call.Clock t) = clock_reply l w left lent.list t
      go (Call.Change c) = change_reply l w left lent.list c
      go (Call.Ask ask) = ask_agrees l w left ask lent.list

  calls_reply : (calls : List LentCall) (l : Ledger) (w : Words) → Left l w → replies w calls ≡ L.replies l (fed_all calls)
  unfolding replies L.replies
  calls_reply [] l w left = refl
  calls_reply (lent ∷ more) l w left =
      ap₂ ◌∷◌ (call_reply l w lent left) (calls_reply more (L.next l (fed lent)) (next w lent) (call_leaves l w lent left))

  pub every_history_with_asks : EveryHistoryIsTheLedgers
  every_history_with_asks w time accepted calls =
      calls_reply calls (opened time) (opened_words w time) (opened_left w time accepted)
