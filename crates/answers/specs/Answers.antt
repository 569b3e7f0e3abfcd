-- How an answer is written as a line: document 01, "Lines".
-- Assumes nothing.
use Rattle.std.specs.Prelude.{◌≡◌, true, List, [], ◌∷◌, map, ℕ, ◌≤◌, pos, length}
use Rattle.ledger.specs.Answers.{number_of, value_of}
use Rattle.ledger.specs.declared.Answer.{Answer}
use Rattle.ledger.specs.declared.Answer.TheVariants.{Accepted, Listed, Refused}
use Rattle.fields.specs.Numbers.{are_writable}
use Rattle.lines.specs.Lines.{line_of, line_length, letter_of}
use Rattle.lines.specs.declared.Line.TheVariants as Line

-- what an accepted ask's line has after the number and the value returned, which is the ids listed: cells, useful, rounds, then the ids
abbrev pub further_numbers : Answer → List ℕ → List ℕ
further_numbers (Accepted held) ids = []
further_numbers (Listed listed cells useful rounds) ids = cells ∷ useful ∷ rounds ∷ ids
further_numbers (Refused why) ids = []

abbrev pub answer_numbers : Answer → List ℕ → List ℕ
answer_numbers answer ids = number_of answer ∷ value_of answer ∷ further_numbers answer ids

-- the most numbers of an answer beside its ids
abbrev pub most_answered : ℕ
most_answered = 5

abbrev pub answer_line : ℕ → Answer → List ℕ → List ℕ
answer_line letter answer ids = line_of letter (map pos (answer_numbers answer ids))

-- the answer to a line that is no call
unfoldable pub no_call_line : List ℕ
no_call_line = line_of (letter_of Line.NoCall) (pos 9 ∷ pos 0 ∷ [])

-- numbers that a line may have, and room for their fields and those of the ids, which are at most 65,535
pub record AnswerRoom (answer : Answer) (ids out : List ℕ) : Type 0 where
  pub room : line_length (length (answer_numbers answer ids)) ≤ length out
  pub writable : are_writable (map pos (answer_numbers answer [])) ≡ true
