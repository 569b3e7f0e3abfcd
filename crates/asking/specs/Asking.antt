-- What an ask finds in the lent words, phase by phase, and what it gives back: document 01, "The four ways to choose cells", its last paragraph,
-- and "Store and table", the answer list. Total: for every word, every number and every list.
-- Assumes nothing.
use Rattle.std.specs.Prelude.{◌≡◌, List, [], ◌∷◌, ◌++◌, ℕ, suc, length, drop, replicate, Result, Ok, Err}
use Rattle.ints.specs.Whole.{up}
use Rattle.grid.specs.Units.{cells, last_id}
use Rattle.grid.specs.Reports.{is_listed}
use Rattle.rows.specs.Phases.{phase_of, live_phases, slot_of}
use Rattle.methods.specs.Aims.{aim_in}
use Rattle.methods.specs.Methods.{Choice, choice}
use Rattle.methods.specs.Slots.{rows_of_slot}
use Rattle.methods.specs.Marks.{marks_of}
use Rattle.records.specs.Words.{Words, time_in, records_in}
use Rattle.records.specs.declared.Record.{Record}
use Rattle.reading.specs.Reading.{listed_in, cells_in, useful_in, with_ids}
use Rattle.sorting.specs.Ids.{rising}
use Rattle.ledger.specs.Machine.{summed}
use Rattle.ledger.specs.Answers.{number_of, value_of, counts_of}
use Rattle.ledger.specs.declared.Answer.{Answer}
use Rattle.ledger.specs.declared.Answer.TheVariants.{Listed, Refused}
use Rattle.ledger.specs.declared.Ask.{Ask}
use Rattle.ledger.specs.declared.Refusal.{Refusal}

module _ (w : Words) (ask : Ask) where
  -- in a live phase: the choice by the rows of its slot, the chosen cells as marks, and the records that reading these lists
  abbrev pub choice_of : ℕ → Choice
  choice_of p = choice (up ask.method) (rows_of_slot w.table (slot_of p)) (aim_in p ask.query)

  abbrev pub marks_in : ℕ → List ℕ
  marks_in p = marks_of (choice_of p).cells

  abbrev pub listed_of : ℕ → List Record
  listed_of p = listed_in (marks_in p) (slot_of p) (is_listed ask.query) (records_in w)

  -- the marks of the ids listed in some phases
  unfoldable pub found_in : List ℕ → List ℕ → List ℕ
  found_in found [] = found
  found_in found (p ∷ ps) = found_in (with_ids found (listed_of p)) ps

  abbrev pub phases_now : List ℕ
  phases_now = live_phases (phase_of (time_in w))

  -- ids needed, the ids by rising number, and the three counts: sums over the live phases of what reading and choosing give back
  unfoldable pub ids_needed : ℕ
  ids_needed = summed (λ p. length (listed_of p)) phases_now

  unfoldable pub ids_found : List ℕ
  ids_found = rising (found_in (replicate (suc last_id) 0) phases_now)

  unfoldable pub cells_counted : ℕ
  cells_counted = summed (λ p. cells_in (marks_in p) 0 cells) phases_now

  unfoldable pub useful_counted : ℕ
  useful_counted = summed (λ p. useful_in (slot_of p) (listed_of p) 0 cells) phases_now

  unfoldable pub rounds_counted : ℕ
  rounds_counted = summed (λ p. (choice_of p).rounds) phases_now

-- what an ask gives back and leaves in the answer list; it leaves the words
pub record AskOutcome : Type 0 where
  pub answer : Answer
  pub list : List ℕ

-- by the verdict of its checks: refused, the list stays; else the ids are written in front and the rest of the list is kept
abbrev pub ask_settled : Result (Unit {0}) Refusal → Words → Ask → List ℕ → AskOutcome
ask_settled (Err r) w ask list = record { answer = Refused r; list = list }
ask_settled (Ok tt) w ask list = record {
  answer = Listed (ids_needed w ask) (cells_counted w ask) (useful_counted w ask) (rounds_counted w ask);
  list = ids_found w ask ++ drop (length (ids_found w ask)) list;
}

-- an ask's number, value, counts and list at exit are those of its definition, and so is the answer that has them
pub record GivesList (o : AskOutcome) (a : Answer) (list : List ℕ) : Type 0 where
  pub number_is : number_of a ≡ number_of o.answer
  pub value_is : value_of a ≡ value_of o.answer
  pub counts_are : counts_of a ≡ counts_of o.answer
  pub answer_is : a ≡ o.answer
  pub list_is : list ≡ o.list
