-- How a call is written as a line: document 01, "Lines", and document 02, A3, for the letter W. A byte is a number, and a line here has no newline.
-- Assumes nothing.
use Rattle.std.specs.Prelude.{◌≡◌, true, List, [], ◌∷◌, ◌++◌, ℕ, ◌+◌, ◌*◌, ◌≤◌, ℤ, length, drop}
use Prim.Native.Char.{code}
use Rattle.grid.specs.declared.Rect.{Rect}
use Rattle.grid.specs.declared.Report.{Report}
use Rattle.grid.specs.declared.When.{When}
use Rattle.grid.specs.declared.When.TheVariants.{At, During}
use Rattle.ledger.specs.declared.Ask.{Ask}
use Rattle.ledger.specs.declared.Change.{Change}
use Rattle.ledger.specs.declared.Call.TheVariants as Call
use Rattle.fields.specs.Fields.{width}
use Rattle.fields.specs.Numbers.{fields, are_writable}
use Rattle.lines.specs.declared.Line.{Line}

-- ---- lines

-- a letter, then numbers
abbrev pub line_of : ℕ → List ℤ → List ℕ
line_of letter numbers = letter ∷ fields numbers

-- the bytes of a line of k numbers
abbrev pub line_length : ℕ → ℕ
line_length k = 1 + width * k

-- ---- call lines

-- the most numbers that a call line may have
abbrev pub most_numbers : ℕ
most_numbers = 8

-- an ask's letter goes by what it asks for: one time, or a window
abbrev pub when_letter : When → ℕ
when_letter (At t) = code "Q"
when_letter (During first last) = code "W"

-- the letter of a line and of its answer
unfoldable pub letter_of : Line → ℕ
letter_of (Line.Open t) = code "O"
letter_of (Line.Call (Call.Clock t)) = code "C"
letter_of (Line.Call (Call.Change (Change.Add r))) = code "A"
letter_of (Line.Call (Call.Change (Change.Report r))) = code "U"
letter_of (Line.Call (Call.Change (Change.Drop id t))) = code "D"
letter_of (Line.Call (Call.Ask ask)) = when_letter ask.query.when
letter_of Line.NoCall = code "?"

-- a call's numbers, in the order in which its line has them
abbrev pub report_numbers : Report → List ℤ
report_numbers r = r.id ∷ r.t ∷ r.x ∷ r.y ∷ r.vx ∷ r.vy ∷ []

unfoldable pub change_numbers : Change → List ℤ
change_numbers (Change.Add r) = report_numbers r
change_numbers (Change.Report r) = report_numbers r
change_numbers (Change.Drop id t) = id ∷ t ∷ []

abbrev pub rect_numbers : Rect → List ℤ
rect_numbers q = q.x.low ∷ q.y.low ∷ q.x.high ∷ q.y.high ∷ []

abbrev pub when_numbers : When → List ℤ
when_numbers (At t) = t ∷ []
when_numbers (During first last) = first ∷ last ∷ []

abbrev pub ask_numbers : Ask → List ℤ
ask_numbers ask = ask.method ∷ when_numbers ask.query.when ++ rect_numbers ask.query.rect

unfoldable pub numbers_of : Line → List ℤ
numbers_of (Line.Open t) = t ∷ []
numbers_of (Line.Call (Call.Clock t)) = t ∷ []
numbers_of (Line.Call (Call.Change change)) = change_numbers change
numbers_of (Line.Call (Call.Ask ask)) = ask_numbers ask
numbers_of Line.NoCall = []

-- a call's line; what is no call has none
unfoldable pub call_line : Line → List ℕ
call_line (Line.Open t) = line_of (letter_of (Line.Open t)) (numbers_of (Line.Open t))
call_line (Line.Call call) = line_of (letter_of (Line.Call call)) (numbers_of (Line.Call call))
call_line Line.NoCall = []

-- ---- where a line is written

-- numbers that a line may have, and room for a letter and their fields
pub record Room (numbers : List ℤ) (out : List ℕ) : Type 0 where
  pub room : line_length (length numbers) ≤ length out
  pub writable : are_writable numbers ≡ true

-- a text written in front of some bytes, the rest kept, and its length returned
pub record Written (text before after : List ℕ) (returned : ℕ) : Type 0 where
  pub bytes : after ≡ text ++ drop (length text) before
  pub count : returned ≡ length text
