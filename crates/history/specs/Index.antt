-- The index as a machine over its lent words: each call is lent the words as the call before left them, and any answer list besides, which only
-- an ask touches.
-- Assumes nothing.
use Rattle.std.specs.Prelude.{List, [], ◌∷◌, map, ℕ, ℤ, length, take}
use Rattle.records.specs.Words.{Words}
use Rattle.ledger.specs.Calls.{Fed, Reply}
use Rattle.ledger.specs.declared.Answer.{Answer}
use Rattle.ledger.specs.declared.Answer.TheVariants.{Accepted, Listed, Refused}
use Rattle.ledger.specs.declared.Call.{Call}
use Rattle.engine.specs.Index.{CallOutcome, open_out, call_out}

-- a call to the index, with the list that it is lent
pub record LentCall : Type 0 where
  pub call : Call
  pub list : List ℕ

-- what the ledger is fed of it: the call, and of its list the length alone
abbrev pub fed : LentCall → Fed
fed lent = record { call = lent.call; room = length lent.list }

abbrev pub fed_all : List LentCall → List Fed
fed_all = map fed

-- the ids of an accepted ask are those written in front of the list
abbrev pub ids_written : Answer → List ℕ → List ℕ
ids_written (Accepted held) list = []
ids_written (Listed ids cells useful rounds) list = take ids list
ids_written (Refused r) list = []

abbrev pub reply_of : CallOutcome → Reply
reply_of o = record { answer = o.answer; ids = ids_written o.answer o.list }

abbrev pub reply_to : Words → LentCall → Reply
reply_to w lent = reply_of (call_out w lent.call lent.list)

abbrev pub next : Words → LentCall → Words
next w lent = (call_out w lent.call lent.list).words

unfoldable pub replies : Words → List LentCall → List Reply
replies w [] = []
replies w (lent ∷ more) = reply_to w lent ∷ replies (next w lent) more

unfoldable pub after : Words → List LentCall → Words
after w [] = w
after w (lent ∷ more) = after (next w lent) more

-- the words that an open leaves
abbrev pub opened_words : Words → ℤ → Words
opened_words w time = (open_out w time).words
