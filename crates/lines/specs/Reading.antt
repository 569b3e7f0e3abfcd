-- How a call line is read. That a line is read exactly to the call that writes it is proved in proofs/Claims.antt.
-- Assumes nothing.
use Rattle.std.specs.Prelude.{◌≡◌, Bool, true, cond, ◌&&◌, List, [], ◌∷◌, ◌++◌, ℕ, zero, suc, ◌-◌, eqb, ℤ, pos, length, get_or, replicate, Option, Some, None, is_some, unwrap_or}
use Prim.Native.Char.{code}
use Rattle.grid.specs.Reports.{report_of}
use Rattle.grid.specs.declared.Report.{Report}
use Rattle.ledger.specs.Calls.{ask_of, window_of}
use Rattle.ledger.specs.declared.Ask.{Ask}
use Rattle.ledger.specs.declared.Change.TheVariants as Change
use Rattle.ledger.specs.declared.Call.TheVariants as Call
use Rattle.lines.specs.declared.Line.{Line}
use Rattle.fields.specs.Numbers.{nth}
use Rattle.fields.specs.Reading.{field_at}
use Rattle.lines.specs.Lines.{most_numbers, line_length, numbers_of}

-- the field of a line's i-th number, from 0 on
abbrev pub nth_field : List ℕ → ℕ → Option ℤ
nth_field line i = field_at line (line_length i)

-- its first k numbers, and whether each of these fields has one
unfoldable pub numbers_in : List ℕ → ℕ → List ℤ
numbers_in line zero = []
numbers_in line (suc k) = numbers_in line k ++ unwrap_or (nth_field line k) (pos 0) ∷ []

unfoldable pub are_numbers : List ℕ → ℕ → Bool
are_numbers line zero = true
are_numbers line (suc k) = are_numbers line k && is_some (nth_field line k)

-- a letter, k numbers and nothing more
abbrev pub has_numbers : List ℕ → ℕ → Bool
has_numbers line k = eqb (length line) (line_length k) && are_numbers line k

-- the report, the ask and the window ask of a line's numbers
abbrev pub report_in : List ℤ → Report
report_in ns = report_of (nth ns 0) (nth ns 1) (nth ns 2) (nth ns 3) (nth ns 4) (nth ns 5)

abbrev pub ask_in : List ℤ → Ask
ask_in ns = ask_of (nth ns 0) (nth ns 1) (nth ns 2) (nth ns 3) (nth ns 4) (nth ns 5)

abbrev pub window_in : List ℤ → Ask
window_in ns = window_of (nth ns 0) (nth ns 1) (nth ns 2) (nth ns 3) (nth ns 4) (nth ns 5) (nth ns 6)

-- the call of a letter, whose numbers are 0 where none are left
unfoldable pub call_of : ℕ → List ℤ → Line
call_of letter ns =
    cond (eqb letter (code "O")) (Line.Open (nth ns 0))
    (cond (eqb letter (code "C")) (Line.Call (Call.Clock (nth ns 0)))
    (cond (eqb letter (code "A")) (Line.Call (Call.Change (Change.Add (report_in ns))))
    (cond (eqb letter (code "U")) (Line.Call (Call.Change (Change.Report (report_in ns))))
    (cond (eqb letter (code "D")) (Line.Call (Call.Change (Change.Drop (nth ns 0) (nth ns 1))))
    (cond (eqb letter (code "Q")) (Line.Call (Call.Ask (ask_in ns)))
    (cond (eqb letter (code "W")) (Line.Call (Call.Ask (window_in ns))) Line.NoCall))))))

-- how many numbers follow a letter: as many as its call has
unfoldable pub count_of : ℕ → ℕ
count_of letter = length (numbers_of (call_of letter []))

unfoldable pub read_line : List ℕ → Line
read_line line =
    let letter = get_or line 0 0 in
    let count = count_of letter in
    cond (has_numbers line count) (call_of letter (numbers_in line count)) Line.NoCall

-- ---- what the reading functions give

-- the numbers of a line that has just so many, with 0 past them
abbrev pub numbers_read : List ℕ → ℕ → Option (List ℤ)
numbers_read line count =
    cond (has_numbers line count) (Some (numbers_in line count ++ replicate (most_numbers - count) (pos 0))) None

-- a letter that begins no call, whatever follows
abbrev pub BeginsNone : ℕ → Type 0
BeginsNone letter = (ns : List ℤ) → call_of letter ns ≡ Line.NoCall
