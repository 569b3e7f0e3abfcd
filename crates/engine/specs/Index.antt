-- What each public call of the index gives back and leaves in the lent words, as an equation of the words at entry: document 01, "What a call
-- gives back when it declines", "Store and table" and "Phases and speed rows". Total: for every number and every buffer of every length.
-- Assumes nothing.
use Rattle.std.specs.Prelude.{List, ℕ, ℤ, length, Result, Ok, Err}
use Rattle.records.specs.Words.{Words, records_in}
use Rattle.words.specs.Words.{opened, stepped, placed, taken_out}
use Rattle.ledger.specs.Refusals.{first_to_fail, time_of}
use Rattle.ledger.specs.declared.Answer.{Answer}
use Rattle.ledger.specs.declared.Answer.TheVariants.{Accepted, Refused}
use Rattle.ledger.specs.declared.Ask.{Ask}
use Rattle.ledger.specs.declared.Call.{Call}
use Rattle.ledger.specs.declared.Change.{Change}
use Rattle.asking.specs.Asking.{AskOutcome, ask_settled}
use Rattle.engine.specs.Checks.{open_checks, checks_of}
use Rattle.ledger.specs.declared.Refusal.{Refusal}

-- ---- open, clock and the changes

-- what a call that may change the words gives back and leaves
pub record Outcome : Type 0 where
  pub answer : Answer
  pub words : Words

-- by the verdict of its checks: refused, the words at entry; else the new words and the floats held in them
abbrev pub settled : Result (Unit {0}) Refusal → Words → Words → Outcome
settled (Err r) w w' = record { answer = Refused r; words = w }
settled (Ok tt) w w' = record { answer = Accepted (length (records_in w')); words = w' }

unfoldable pub open_out : Words → ℤ → Outcome
open_out w t = settled (first_to_fail (open_checks w t)) w (opened t w)

unfoldable pub clock_out : Words → ℤ → Outcome
clock_out w t = settled (first_to_fail (checks_of w (Call.Clock t) 0)) w (stepped t w)

-- what a change does after the clock step
abbrev pub changed : Change → Words → Words
changed (Change.Add r) w = placed r w
changed (Change.Report r) w = placed r (taken_out r.id w)
changed (Change.Drop id t) w = taken_out id w

unfoldable pub change_out : Words → Change → Outcome
change_out w c = settled (first_to_fail (checks_of w (Call.Change c) 0)) w (changed c (stepped (time_of c) w))

-- ---- ask

unfoldable pub ask_out : Words → Ask → List ℕ → AskOutcome
ask_out w ask list = ask_settled (first_to_fail (checks_of w (Call.Ask ask) (length list))) w ask list

-- ---- any call, lent a list that it leaves unless it is an ask

pub record CallOutcome : Type 0 where
  pub answer : Answer
  pub words : Words
  pub list : List ℕ

abbrev pub leaving_list : Outcome → List ℕ → CallOutcome
leaving_list o list = record { answer = o.answer; words = o.words; list = list }

abbrev pub leaving_words : AskOutcome → Words → CallOutcome
leaving_words o w = record { answer = o.answer; words = w; list = o.list }

unfoldable pub call_out : Words → Call → List ℕ → CallOutcome
call_out w (Call.Clock t) list = leaving_list (clock_out w t) list
call_out w (Call.Change c) list = leaving_list (change_out w c) list
call_out w (Call.Ask ask) list = leaving_words (ask_out w ask list) w
