-- What the functions that take bytes ask and leave, whatever the session of which this is kept.
-- Assumes nothing.
use Rattle.std.specs.Prelude.{◌≡◌, List, [], ◌∷◌, ◌++◌, ℕ, ℤ, ◌<◌, ◌≤◌, length, take}
use Rattle.records.specs.Words.{Words}
use Rattle.history.specs.Points.{Point}
use Rattle.lines.specs.Lines.{Written}
use Rattle.answering.specs.Answering.{answer_bytes, CanAnswer, AnswersLine}
use Rattle.session.specs.declared.feeding.Fed.{Fed}
use Rattle.session.specs.Session.{Session, taking, writing, session_after, written_for, written_at_end, ledger_at_end, line_bytes, Kept, Keeps}

-- at a point of some list, with a list and a line of their lengths, few bytes of it held, and room for one more answer
pub record CanFeed (store table : List ℤ) (list line : List ℕ) (used : ℕ) (out : List ℕ) : Type 0 where
  pub can_answer : CanAnswer answer_bytes store table list out
  pub line_long : length line ≡ line_bytes
  pub few : used ≤ line_bytes

-- one more byte of a line held, of those that fit
pub record Holds (b : ℕ) (line : List ℕ) (used : ℕ) (line' : List ℕ) (used' : ℕ) : Type 0 where
  pub bytes : take used' line' ≡ take (length line) (take used line ++ b ∷ [])
  pub few : used' ≤ length line

-- the bytes held answered as a line
abbrev pub EndsLine : Kept → Words → List ℕ → List ℕ → ℕ → Type 0
EndsLine k w' out out' filled = AnswersLine (take k.held k.line) k.index w' out out' filled

-- one byte taken, whatever the session of which this is kept
pub record Takes (b : ℕ) (k k' : Kept) (out out' : List ℕ) (filled : ℕ) : Type 0 where
  pub stands : (s : Session) → Keeps s k → Keeps (taking s b) k'
  pub writes : (s : Session) → Keeps s k → Written (writing s b) out out' filled
  pub fits : filled ≤ length out'

-- the first `taken` bytes of a chunk taken, one at least where there is one; the caller goes on from there
pub record FeedsKept (chunk : List ℕ) (k k' : Kept) (out' : List ℕ) (fed : Fed) : Type 0 where
  pub stands : (s : Session) → Keeps s k → Keeps (session_after s (take fed.taken chunk)) k'
  pub writes : (s : Session) → Keeps s k → take fed.filled out' ≡ written_for s (take fed.taken chunk)
  pub within : fed.taken ≤ length chunk
  pub goes_on : 0 < length chunk → 0 < fed.taken
  pub fits : fed.filled ≤ length out'
  pub held_is : fed.held ≡ k'.held

-- the line that lacks its newline answered
pub record EndsKept (k : Kept) (w' : Words) (out' : List ℕ) (filled : ℕ) : Type 0 where
  pub leads : (s : Session) → Keeps s k → Point (ledger_at_end s) w'
  pub writes : (s : Session) → Keeps s k → take filled out' ≡ written_at_end s
  pub fits : filled ≤ length out'
