-- Whom the clock leaves: document 02, A7. After an accepted clock, add, report or drop no held float is silent, whatever the store and table that the call was
-- lent; and so at every point of every list of calls. Soundness says nothing of silence: lent words may hold a silent float, and asks list it till then.
-- Assumes nothing.
use Rattle.std.specs.Prelude.{◌≡◌, Bool, true, false, List, ℤ}
use Rattle.ints.specs.Lists.{every}
use Rattle.grid.specs.Reports.{stays_at}
use Rattle.records.specs.Words.{Words, time_in, records_in}
use Rattle.ledger.specs.Answers.{is_accepted}
use Rattle.ledger.specs.Machine.{Ledger, opened}
use Rattle.ledger.specs.Calls as L
use Rattle.ledger.specs.Calls.{Fed}
use Rattle.ledger.specs.declared.Call.{Call}
use Rattle.history.specs.Index.{LentCall, reply_to, next}
use Rattle.history.specs.Points.{Point}

-- the calls that make a clock step
abbrev pub steps : Call → Bool
steps (Call.Clock t) = true
steps (Call.Change c) = true
steps (Call.Ask ask) = false

-- nobody held is silent at the present time
abbrev pub none_silent : Ledger → Bool
none_silent l = every (λ h. stays_at l.now h.report) l.held

abbrev pub none_silent_in : Words → Bool
none_silent_in w = every (λ r. stays_at (time_in w) r.report) (records_in w)

-- of any ledger, and of any words, reached by calls or not
abbrev pub StepLeavesNoneSilent : Type 0
StepLeavesNoneSilent =
    (l : Ledger) (fed : Fed) → steps fed.call ≡ true → is_accepted (L.answer_to l fed) ≡ true → none_silent (L.next l fed) ≡ true

abbrev pub IndexStepLeavesNoneSilent : Type 0
IndexStepLeavesNoneSilent =
    (w : Words) (lent : LentCall) → steps lent.call ≡ true → is_accepted (reply_to w lent).answer ≡ true → none_silent_in (next w lent) ≡ true

-- over every list
abbrev pub NoHeldFloatIsSilent : Type 0
NoHeldFloatIsSilent = (time : ℤ) (calls : List Fed) → none_silent (L.after (opened time) calls) ≡ true

abbrev pub NoPointHasASilentFloat : Type 0
NoPointHasASilentFloat = (l : Ledger) (w : Words) → Point l w → none_silent_in w ≡ true
