-- What the replay program writes for an input: document 01, "Lines". By the ledger and the lines alone: no word of buffers, chunks or the index.
-- Assumes nothing.
use Rattle.std.specs.Prelude.{Bool, true, false, cond, List, [], ◌∷◌, ◌++◌, ℕ, eqb, pos}
use Prim.Native.Char.{code}
use Rattle.grid.specs.Units.{capacity}
use Rattle.ledger.specs.Answers.{is_accepted}
use Rattle.ledger.specs.Machine.{Ledger, opened}
use Rattle.ledger.specs.Calls as L
use Rattle.ledger.specs.Calls.{Fed, Reply, answer_of_open}
use Rattle.ledger.specs.declared.Call.{Call}
use Rattle.lines.specs.Lines.{letter_of}
use Rattle.answers.specs.Answers.{answer_line, no_call_line}
use Rattle.lines.specs.Reading.{read_line}
use Rattle.lines.specs.declared.Line.{Line}

abbrev pub newline : ℕ
newline = code "\n"

-- ---- one line

-- the list that every ask is lent has room for 1,024 ids, as many as floats may be held
abbrev pub list_length : ℕ
list_length = capacity

-- what the ledger is fed of a line's call
abbrev pub fed_of : Call → Fed
fed_of call = record { call = call; room = list_length }

-- the letter of the line, and what the call gives back
abbrev pub told : Line → Reply → List ℕ
told line reply = answer_line (letter_of line) reply.answer reply.ids

-- a line's answer, without its newline
unfoldable pub answer_to : Ledger → Line → List ℕ
answer_to l (Line.Open t) = told (Line.Open t) (record { answer = answer_of_open t; ids = [] })
answer_to l (Line.Call call) = told (Line.Call call) (L.reply_to l (fed_of call))
answer_to l Line.NoCall = no_call_line

-- the ledger after it. An accepted open starts a new list; what is no call changes nothing
unfoldable pub next : Ledger → Line → Ledger
next l (Line.Open t) = cond (is_accepted (answer_of_open t)) (opened t) l
next l (Line.Call call) = L.next l (fed_of call)
next l Line.NoCall = l

abbrev pub line_answered : Ledger → List ℕ → List ℕ
line_answered l line = answer_to l (read_line line) ++ newline ∷ []

abbrev pub after_line : Ledger → List ℕ → Ledger
after_line l line = next l (read_line line)

-- ---- an input

abbrev pub is_empty : List ℕ → Bool
is_empty [] = true
is_empty (b ∷ bs) = false

-- the lines of an input, the first of which begins with the bytes of `line`: each ends at a newline, the last may lack its own, and an empty last
-- piece is no line
unfoldable pub lines_from : List ℕ → List ℕ → List (List ℕ)
lines_from line [] = cond (is_empty line) [] (line ∷ [])
lines_from line (b ∷ bs) = cond (eqb b newline) (line ∷ lines_from [] bs) (lines_from (line ++ b ∷ []) bs)

-- one line per line, in order
unfoldable pub answered : Ledger → List (List ℕ) → List ℕ
answered l [] = []
answered l (line ∷ lines) = line_answered l line ++ answered (after_line l line) lines

-- the program opens at 0
unfoldable pub replayed : List ℕ → List ℕ
replayed input = answered (opened (pos 0)) (lines_from [] input)
