-- What is claimed of lines, proved in proofs/Claims.antt: a line is read to a call exactly where the call writes it.
-- Assumes nothing.
use Rattle.std.specs.Prelude.{◌≡◌, true, List, ℕ}
use Rattle.lines.specs.declared.Line.{Line}
use Rattle.lines.specs.declared.Line.TheVariants.{NoCall}
use Rattle.fields.specs.Numbers.{are_writable}
use Rattle.lines.specs.Lines.{numbers_of, call_line}
use Rattle.lines.specs.Reading.{read_line}

-- reading a written call line returns that call, for every call whose numbers a line may have
abbrev pub ReadWritten : Type 0
ReadWritten = (call : Line) → are_writable (numbers_of call) ≡ true → read_line (call_line call) ≡ call

-- a line that is read to a call is the one that the call writes
abbrev pub WrittenRead : Type 0
WrittenRead = (line : List ℕ) (call : Line) → read_line line ≡ call → (call ≡ NoCall → ⊥) → line ≡ call_line call
