-- What is claimed of the fleet program's input and lines: document 02, A5. The proofs are in proofs/Claims.antt.
-- Assumes nothing.
use Rattle.std.specs.Prelude.{◌≡◌, true, List, [], ◌∷◌, ◌++◌, map, ◌⊎◌, ℕ, zero, suc, ◌+◌, ◌-◌, ◌*◌, ◌<◌, pos, length, Some}
use Prim.Native.Char.{code}
use Rattle.grid.specs.declared.Report.{Report}
use Rattle.ledger.specs.Calls.{Fed, Reply, replies}
use Rattle.ledger.specs.Machine.{opened}
use Rattle.ledger.specs.declared.Answer.TheVariants.{Accepted}
use Rattle.ledger.specs.declared.Call.TheVariants as Call
use Rattle.ledger.specs.declared.Change.TheVariants as Change
use Rattle.generator.specs.Generator.{jump}
use Rattle.lines.specs.Lines.{call_line}
use Rattle.lines.specs.Reading.{read_line}
use Rattle.fleets.specs.Inputs.{line_columns, is_fleet, read_fleet, input_line}
use Rattle.fleets.specs.Fleets.{draws, floats_after, written_floats, add_of, other_text, fleet_text}
use Rattle.fleets.specs.declared.Fleet.{Fleet}

-- ---- the input

-- a fleet in its ranges is said by its line, with a newline or without
pub record Said (f : Fleet) : Type 0 where
  pub bare : read_fleet (input_line f) ≡ Some f
  pub ended : read_fleet (input_line f ++ code "\n" ∷ []) ≡ Some f

abbrev pub FleetsAreSaid : Type 0
FleetsAreSaid = (f : Fleet) → is_fleet f ≡ true → Said f

-- and by nothing else
pub record SaidBy (input : List ℕ) (f : Fleet) : Type 0 where
  pub in_range_lem : is_fleet f ≡ true
  pub line_is : (input ≡ input_line f) ⊎ (input ≡ input_line f ++ code "\n" ∷ [])

abbrev pub OnlyLinesSayFleets : Type 0
OnlyLinesSayFleets = (input : List ℕ) (f : Fleet) → read_fleet input ≡ Some f → SaidBy input f

-- so where more bytes have come than a line and its newline have, whatever follows, "?" is due
abbrev pub LongInputsSayNone : Type 0
LongInputsSayNone = (first rest : List ℕ) → line_columns + 1 < length first → fleet_text (first ++ rest) ≡ other_text

-- ---- the lines, of a fleet in its ranges

-- those that are written are the floats after the skipped ones, drawn from the jump over the draws of these
abbrev pub WrittenFromTheJump : Type 0
WrittenFromTheJump =
    (f : Fleet) → is_fleet f ≡ true → written_floats f ≡ floats_after f.skip (f.floats - f.skip) (jump (draws * f.skip) f.start)

-- each reads back as its call
abbrev pub LinesReadBack : Type 0
LinesReadBack =
    (f : Fleet)
    → is_fleet f ≡ true
    → map (λ (r : Report). read_line (call_line (add_of r))) (written_floats f) ≡ map add_of (written_floats f)

-- and the ledger opened at 0 accepts each: the i-th leaves i floats held. An answer list of any length is lent
abbrev pub fed_with : ℕ → Report → Fed
fed_with room r = record { call = Call.Change (Change.Add r); room = room }

-- n replies, the first with one more float held than h
unfoldable pub accepted_after : ℕ → ℕ → List Reply
accepted_after h zero = []
accepted_after h (suc n) = record { answer = Accepted (suc h); ids = [] } ∷ accepted_after (suc h) n

abbrev pub LedgerAcceptsFleets : Type 0
LedgerAcceptsFleets =
    (f : Fleet) (room : ℕ)
    → is_fleet f ≡ true
    → replies (opened (pos 0)) (map (fed_with room) (written_floats f)) ≡ accepted_after 0 (f.floats - f.skip)
