-- The ledger's calls after an open: what each answers and what it leaves. Document 01, "The plain ledger" and "What a call gives back when it
-- declines", refusals from 3 on. The ledger is fed each call's name and numbers, and of an ask's answer list its length alone.
-- Assumes nothing.
use Rattle.std.specs.Prelude.{cond, List, [], ◌∷◌, ℕ, ℤ, length, Result, Ok, Err}
use Rattle.grid.specs.Reports.{rect_of}
use Rattle.grid.specs.declared.When.TheVariants.{At, During}
use Rattle.ledger.specs.Answers.{is_accepted}
use Rattle.ledger.specs.Refusals.{Check, check, first_to_fail, bad_time, clock_checks, time_of, id_of, change_checks, ask_checks}
use Rattle.ledger.specs.Machine.{Ledger, stepped, is_held, changed, ids_listed, cells_read, useful_read, rounds_taken}
use Rattle.ledger.specs.declared.Answer.{Answer}
use Rattle.ledger.specs.declared.Answer.TheVariants.{Accepted, Listed, Refused}
use Rattle.ledger.specs.declared.Ask.{Ask}
use Rattle.ledger.specs.declared.Call.{Call}
use Rattle.ledger.specs.declared.Refusal.TheVariants.{BadTime}
use Rattle.ledger.specs.declared.Refusal.{Refusal}

-- the timeslice ask of a call's six numbers: the method, the asked time, the low corner, the high one
abbrev pub ask_of : ℤ → ℤ → ℤ → ℤ → ℤ → ℤ → Ask
ask_of method time low_x low_y high_x high_y =
    record { method = method; query = record { rect = rect_of low_x low_y high_x high_y; when = At time } }

-- the window ask of a call's seven numbers: the method, the first time, the last, the low corner, the high one
abbrev pub window_of : ℤ → ℤ → ℤ → ℤ → ℤ → ℤ → ℤ → Ask
window_of method first last low_x low_y high_x high_y =
    record { method = method; query = record { rect = rect_of low_x low_y high_x high_y; when = During first last } }

-- what the ledger is fed: a call, and the length of the answer list that it is lent, which matters to an ask alone
pub record Fed : Type 0 where
  pub call : Call
  pub room : ℕ

-- what a call gives back: its answer, and the ids that it lists, in order
pub record Reply : Type 0 where
  pub answer : Answer
  pub ids : List ℕ

-- the answer: a refusal by the first check to fail, else that of an accepted call
abbrev pub answer_by : Result (Unit {0}) Refusal → Answer → Answer
answer_by (Err r) accepted = Refused r
answer_by (Ok tt) accepted = accepted

-- ---- the checks of each call, in their order, what it leaves where none fails, and its answer then

abbrev pub open_checks : ℤ → List Check
open_checks t = check (bad_time t) BadTime ∷ []

abbrev pub answer_of_open : ℤ → Answer
answer_of_open t = answer_by (first_to_fail (open_checks t)) (Accepted 0)

-- who is held is judged after the clock step
abbrev pub checks_of : Ledger → Call → ℕ → List Check
checks_of l (Call.Clock t) room = clock_checks l.now t
checks_of l (Call.Change c) room =
    let after = (stepped (time_of c) l).held in
    change_checks l.now c (is_held (id_of c) after) (length after)
checks_of l (Call.Ask a) room = ask_checks l.now a room (length (ids_listed l a))

unfoldable pub changed_by : Ledger → Call → Ledger
changed_by l (Call.Clock t) = stepped t l
changed_by l (Call.Change c) = changed c (stepped (time_of c) l)
changed_by l (Call.Ask a) = l

abbrev pub if_none_fails : Ledger → Call → Answer
if_none_fails l (Call.Clock t) = Accepted (length (changed_by l (Call.Clock t)).held)
if_none_fails l (Call.Change c) = Accepted (length (changed_by l (Call.Change c)).held)
if_none_fails l (Call.Ask a) = Listed (length (ids_listed l a)) (cells_read l a) (useful_read l a) (rounds_taken l a)

unfoldable pub answer_to : Ledger → Fed → Answer
answer_to l fed = answer_by (first_to_fail (checks_of l fed.call fed.room)) (if_none_fails l fed.call)

-- the ids that an accepted call lists
unfoldable pub ids_of : Ledger → Call → List ℕ
ids_of l (Call.Clock t) = []
ids_of l (Call.Change c) = []
ids_of l (Call.Ask a) = ids_listed l a

-- a refused call changes nothing, not even the time, and lists nothing
unfoldable pub next : Ledger → Fed → Ledger
next l fed = cond (is_accepted (answer_to l fed)) (changed_by l fed.call) l

unfoldable pub reply_to : Ledger → Fed → Reply
reply_to l fed = record { answer = answer_to l fed; ids = cond (is_accepted (answer_to l fed)) (ids_of l fed.call) [] }

-- every reply to a list of calls, and the ledger after it
unfoldable pub replies : Ledger → List Fed → List Reply
replies l [] = []
replies l (fed ∷ more) = reply_to l fed ∷ replies (next l fed) more

unfoldable pub after : Ledger → List Fed → Ledger
after l [] = l
after l (fed ∷ more) = after (next l fed) more
