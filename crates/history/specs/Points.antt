-- A point of a list of calls, document 01, "The plain ledger": it lies after open or after any of the calls that follow it. And what is claimed of
-- every point.
-- Assumes nothing.
use Rattle.std.specs.Prelude.{◌≡◌, true, List, ℤ}
use Rattle.records.specs.Words.{Words, are_sound}
use Rattle.ledger.specs.Answers.{is_accepted}
use Rattle.ledger.specs.Machine.{Ledger, opened}
use Rattle.ledger.specs.Calls as L
use Rattle.engine.specs.Index.{open_out}
use Rattle.history.specs.Index.{LentCall, fed, fed_all, reply_to, next, after, opened_words}

-- the ledger and the index's words at a point: both opened at one time, whatever the buffers held, and then given the same calls
pub record Point (l : Ledger) (w : Words) : Type 0 where
  pub lent : Words
  pub time : ℤ
  pub calls : List LentCall
  pub opens : is_accepted (open_out lent time).answer ≡ true
  pub words_are : w ≡ after (opened_words lent time) calls
  pub ledger_is : l ≡ L.after (opened time) (fed_all calls)

-- at every point the words are sound, the next call's answer is the ledger's, and that call leads to a point
pub record PointGoesOn (l : Ledger) (w : Words) : Type 0 where
  pub sound : are_sound w ≡ true
  pub answers : (call : LentCall) → reply_to w call ≡ L.reply_to l (fed call)
  pub leads : (call : LentCall) → Point (L.next l (fed call)) (next w call)

abbrev pub EveryPointGoesOn : Type 0
EveryPointGoesOn = (l : Ledger) (w : Words) → Point l w → PointGoesOn l w
