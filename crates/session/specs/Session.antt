-- The replay program as a machine that takes one byte at a time, and how what is kept of its input stands to it. That it writes what answering's Replay says is
-- claimed in specs/Claims.antt.
-- Assumes nothing.
use Rattle.std.specs.Prelude.{◌≡◌, cond, List, [], ◌∷◌, ◌++◌, ℕ, ◌+◌, ◌≤◌, eqb, ℤ, pos, length, take}
use Rattle.ledger.specs.Machine.{Ledger, opened}
use Rattle.history.specs.Points.{Point}
use Rattle.records.specs.Words.{Words, words}
use Rattle.lines.specs.Lines.{most_numbers, line_length}
use Rattle.answering.specs.Replay.{newline, line_answered, after_line, is_empty}

-- ---- byte by byte

-- the ledger, and the bytes of the line that has not ended yet
pub record Session : Type 0 where
  pub ledger : Ledger
  pub line : List ℕ

-- at the start of the input
abbrev pub begun : Session
begun = record { ledger = opened (pos 0); line = [] }

-- what one byte leads to, and what is written for it: a newline ends the line, which is answered
abbrev pub taking : Session → ℕ → Session
taking s b =
    cond (eqb b newline)
    (record { ledger = after_line s.ledger s.line; line = [] })
    (record { ledger = s.ledger; line = s.line ++ b ∷ [] })

abbrev pub writing : Session → ℕ → List ℕ
writing s b = cond (eqb b newline) (line_answered s.ledger s.line) []

unfoldable pub session_after : Session → List ℕ → Session
session_after s [] = s
session_after s (b ∷ bs) = session_after (taking s b) bs

unfoldable pub written_for : Session → List ℕ → List ℕ
written_for s [] = []
written_for s (b ∷ bs) = writing s b ++ written_for (taking s b) bs

-- at the end of the input a line that lacks its newline is answered
abbrev pub written_at_end : Session → List ℕ
written_at_end s = cond (is_empty s.line) [] (line_answered s.ledger s.line)

abbrev pub ledger_at_end : Session → Ledger
ledger_at_end s = cond (is_empty s.line) s.ledger (after_line s.ledger s.line)

-- ---- what is kept

-- one byte more than the longest call line: those of a longer line are no call, as it is
abbrev pub line_bytes : ℕ
line_bytes = line_length most_numbers + 1

-- what is kept from byte to byte: the words of the index, and the bytes of the line that are held, in front of its place
pub record Kept : Type 0 where
  pub index : Words
  pub line : List ℕ
  pub held : ℕ

-- in buffers that are lent
abbrev pub lent : List ℤ → List ℤ → List ℕ → ℕ → Kept
lent store table line held = record { index = words store table; line = line; held = held }

-- what is kept of a session: the index at a point of a list whose ledger is the session's, and the first bytes of the line
pub record Keeps (s : Session) (k : Kept) : Type 0 where
  pub point : Point s.ledger k.index
  pub few : k.held ≤ line_bytes
  pub begins : take k.held k.line ≡ take line_bytes s.line
  pub long : length k.line ≡ line_bytes
