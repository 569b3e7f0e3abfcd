-- What the functions that answer a line ask and leave. What a line is answered is in specs/Replay.antt.
-- Assumes nothing.
use Rattle.std.specs.Prelude.{◌≡◌, List, ℕ, ◌+◌, ◌≤◌, ℤ, length}
use Rattle.records.specs.Words.{Words, words}
use Rattle.ledger.specs.Machine.{Ledger}
use Rattle.ledger.specs.declared.Answer.{Answer}
use Rattle.ledger.specs.declared.Answer.TheVariants.{Accepted, Listed, Refused}
use Rattle.history.specs.Points.{Point}
use Rattle.lines.specs.Lines.{line_length, letter_of, Written}
use Rattle.lines.specs.declared.Line.{Line}
use Rattle.answers.specs.Answers.{most_answered}
use Rattle.answering.specs.Replay.{list_length, answer_to, next, line_answered, after_line}

-- the longest answer, every id listed, and with its newline
abbrev pub longest_answer : ℕ
longest_answer = line_length (most_answered + list_length)

abbrev pub answer_bytes : ℕ
answer_bytes = longest_answer + 1

-- store and table are at a point of some list
pub record AtPoint (store table : List ℤ) : Type 0 where
  pub ledger : Ledger
  pub point : Point ledger (words store table)

-- how many ids a call wrote in front of its list
abbrev pub ids_told : Answer → ℕ
ids_told (Accepted held) = 0
ids_told (Listed ids cells useful rounds) = ids
ids_told (Refused r) = 0

-- at a point of some list, with an answer list of its length and room for an answer
pub record CanAnswer (most : ℕ) (store table : List ℤ) (list out : List ℕ) : Type 0 where
  pub at_point : ∥ AtPoint store table ∥₁
  pub list_long : length list ≡ list_length
  pub room : most ≤ length out

-- and the letter of a line
pub record CanTell (line : Line) (letter : ℕ) (store table : List ℤ) (list out : List ℕ) : Type 0 where
  pub can_answer : CanAnswer longest_answer store table list out
  pub letter_is : letter ≡ letter_of line

-- what a line leaves and writes, whatever the list whose point the words are at
pub record Answers (line : Line) (w w' : Words) (out out' : List ℕ) (filled : ℕ) : Type 0 where
  pub leads : (l : Ledger) → Point l w → Point (next l line) w'
  pub writes : (l : Ledger) → Point l w → Written (answer_to l line) out out' filled

-- the same of a line's bytes, whose answer ends with a newline
pub record AnswersLine (line : List ℕ) (w w' : Words) (out out' : List ℕ) (filled : ℕ) : Type 0 where
  pub leads : (l : Ledger) → Point l w → Point (after_line l line) w'
  pub writes : (l : Ledger) → Point l w → Written (line_answered l line) out out' filled
