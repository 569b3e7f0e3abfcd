-- What is claimed of each single call of the index, over every store and table of every length, reached by calls or not: the order of its checks
-- (S15), the list (S3), the counts (S4) and the rounds of an ask, and what a refused call gives back. An accepted ask was lent a sound store and
-- table: number 2 is given over any other.
-- Assumes nothing.
use Rattle.std.specs.Prelude.{◌≡◌, true, false, not, List, [], ◌++◌, map, ℕ, ltb, ℤ, pos, length, drop}
use Rattle.rows.specs.Phases.{phase_of, live_phases}
use Rattle.methods.specs.Aims.{Aim}
use Rattle.methods.specs.Methods.{Rows, choice}
use Rattle.records.specs.Order.{phase_of_key}
use Rattle.records.specs.Words.{Words, time_in, records_in, are_sound}
use Rattle.records.specs.declared.Record.{Record}
use Rattle.ledger.specs.Answers.{value_of, no_counts, counts_of, is_accepted}
use Rattle.ledger.specs.Refusals.{in_check_order, bad_ask_time, bad_window, bad_ask}
use Rattle.ledger.specs.Machine.{Held, listed_held, useful_cells, summed}
use Rattle.ledger.specs.declared.Answer.{Answer}
use Rattle.ledger.specs.declared.Ask.{Ask}
use Rattle.ledger.specs.declared.Call.{Call}
use Rattle.asking.specs.Asking.{choice_of}
use Rattle.asking.specs.Claims.{ids_inside}
use Rattle.engine.specs.Index.{ask_out, call_out}
use Rattle.engine.specs.Checks.{open_checks, checks_of}
use Rattle.history.specs.Index.{LentCall, reply_to}

-- ---- S15, A3: the checks of each of the calls stand in number order, 10 right after 3

pub record InOrder (w : Words) : Type 0 where
  pub open_order : (time : ℤ) → in_check_order (open_checks w time) ≡ true
  pub call_order : (call : Call) (room : ℕ) → in_check_order (checks_of w call room) ≡ true

abbrev pub EveryCallChecksInOrder : Type 0
EveryCallChecksInOrder = (w : Words) → InOrder w

-- ---- an ask

module _ (w : Words) (ask : Ask) (list : List ℕ) where
  abbrev answer_of_ask : Answer
  answer_of_ask = (ask_out w ask list).answer

  -- S3: the ids of all held records listed, by rising number, are written in front, and the rest of the list is kept
  pub record ListOfAsk (ids : List ℕ) : Type 0 where
    pub accepted_with_room :
        are_sound w ≡ true
        → bad_ask_time (time_in w) ask.query ≡ false
        → bad_window ask.query ≡ false
        → bad_ask ask ≡ false
        → is_accepted answer_of_ask ≡ not (ltb (length list) (length ids))
    pub ids_in_front : is_accepted answer_of_ask ≡ true → (ask_out w ask list).list ≡ ids ++ drop (length ids) list
    pub ids_returned : is_accepted answer_of_ask ≡ true → value_of answer_of_ask ≡ length ids
    pub untouched : is_accepted answer_of_ask ≡ false → (ask_out w ask list).list ≡ list

  -- S4: cells read, useful cells and rounds, summed over the live phases. In each the cells are chosen by the rows of the phase's slot, and one is
  -- useful (`is_useful`, of the ledger) where a listed float is placed in it in that phase by its held report
  pub record CountsOfAsk (held : List Held) (phases : List ℕ) : Type 0 where
    pub cells_are : (counts_of answer_of_ask).cells ≡ summed (λ p. length (choice_of w ask p).cells) phases
    pub useful_are : (counts_of answer_of_ask).useful ≡ summed (λ p. useful_cells p (listed_held ask.query held) (choice_of w ask p).cells) phases
    pub rounds_are : (counts_of answer_of_ask).rounds ≡ summed (λ p. (choice_of w ask p).rounds) phases

abbrev pub ListIsWritten : Type 0
ListIsWritten = (w : Words) (ask : Ask) (list : List ℕ) → ListOfAsk w ask list (ids_inside ask.query (records_in w))

-- the held reports of the words: a record's report, and the live phase of its key
abbrev pub held_record : ℤ → Record → Held
held_record now r = record { report = r.report; phase = phase_of_key (phase_of now) r.key }

abbrev pub held_in : Words → List Held
held_in w = map (held_record (time_in w)) (records_in w)

abbrev pub CountsAreExact : Type 0
CountsAreExact =
    (w : Words) (ask : Ask) (list : List ℕ)
    → is_accepted (ask_out w ask list).answer ≡ true
    → CountsOfAsk w ask list (held_in w) (live_phases (phase_of (time_in w)))

-- rounds are 0 but for method 2: in each choice, and so in each answer
abbrev pub ChoiceRoundsAreMethodTwos : Type 0
ChoiceRoundsAreMethodTwos =
    (method : ℕ) (rows : Rows) (aim : Aim) → (method ≡ 2 → ⊥) → (choice method rows aim).rounds ≡ 0

abbrev pub RoundsAreMethodTwos : Type 0
RoundsAreMethodTwos =
    (w : Words) (ask : Ask) (list : List ℕ)
    → (ask.method ≡ pos 2 → ⊥)
    → (counts_of (ask_out w ask list).answer).rounds ≡ 0

-- a refused call, an ask above all, has no ids and no cells, and leaves the list
pub record RefusedAsk (w : Words) (lent : LentCall) : Type 0 where
  pub no_ids : (reply_to w lent).ids ≡ []
  pub no_cells : counts_of (reply_to w lent).answer ≡ no_counts
  pub list_stays : (call_out w lent.call lent.list).list ≡ lent.list

abbrev pub RefusedAskIsEmpty : Type 0
RefusedAskIsEmpty =
    (w : Words) (lent : LentCall)
    → is_accepted (reply_to w lent).answer ≡ false
    → RefusedAsk w lent
