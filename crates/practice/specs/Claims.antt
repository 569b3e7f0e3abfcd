-- What is claimed of the fleet program's lines as the replay program's input: document 02, A5. Each float is accepted, and the calls behind them are
-- answered with the whole fleet held. The proofs are in proofs/Claims.antt.
-- Assumes nothing.
use Rattle.std.specs.Prelude.{◌≡◌, List, [], ◌∷◌, ◌++◌, map, ℕ, zero, suc, ◌-◌, pos, Some}
use Prim.Native.Char.{code}
use Rattle.ledger.specs.Calls.{after}
use Rattle.ledger.specs.Machine.{Ledger, opened}
use Rattle.ledger.specs.declared.Answer.TheVariants.{Accepted}
use Rattle.fleets.specs.Inputs.{read_fleet}
use Rattle.fleets.specs.Fleets.{written_floats, fleet_text}
use Rattle.fleets.specs.Claims.{fed_with}
use Rattle.fleets.specs.declared.Fleet.{Fleet}
use Rattle.answers.specs.Answers.{answer_line}
use Rattle.answering.specs.Replay.{newline, list_length, lines_from, answered, replayed}

-- the answer to an add that leaves so many floats held, with its newline
abbrev pub accepted_line : ℕ → List ℕ
accepted_line held = answer_line (code "A") (Accepted held) [] ++ newline ∷ []

-- n of them one after the other, the first with one more float held than h
unfoldable pub accepted_lines : ℕ → ℕ → List ℕ
accepted_lines h zero = []
accepted_lines h (suc n) = accepted_line (suc h) ++ accepted_lines (suc h) n

-- the ledger after an open at 0 and the adds of a fleet
abbrev pub after_fleet : Fleet → Ledger
after_fleet f = after (opened (pos 0)) (map (fed_with list_length) (written_floats f))

-- a fleet's lines, and more behind them: the i-th answer is that of an accepted add that leaves i floats held, and what follows is answered by the
-- ledger that holds the fleet
abbrev pub FleetThenCalls : Type 0
FleetThenCalls =
    (input more : List ℕ) (f : Fleet)
    → read_fleet input ≡ Some f
    → replayed (fleet_text input ++ more) ≡ accepted_lines 0 (f.floats - f.skip) ++ answered (after_fleet f) (lines_from [] more)

-- with nothing behind them, these answers are all
abbrev pub FleetIsReplayed : Type 0
FleetIsReplayed =
    (input : List ℕ) (f : Fleet) → read_fleet input ≡ Some f → replayed (fleet_text input) ≡ accepted_lines 0 (f.floats - f.skip)
