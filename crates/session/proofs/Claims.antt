-- The claims of specs/Claims.antt, by induction over the bytes.
-- Assumes nothing.
use mathlib.Core.Path.{◌≡◌, refl, sym, ap, ◌∙◌}
use mathlib.Core.Bool.{Bool, true, false, cond}
use mathlib.Core.List.{List, [], ◌∷◌, ◌++◌, append_assoc, append-nil}
use Prim.Native.Nat.{ℕ}
use lib.Dec.{eqb}
use Rattle.ledger.specs.Machine.{Ledger}
use Rattle.answering.specs.Replay.{newline, line_answered, after_line, lines_from, answered, replayed}
use Rattle.session.specs.Session.{Session, begun, taking, writing, session_after, written_for, written_at_end}
use Rattle.session.specs.Claims.{BytesAreTheLines, ChunksAreOneInput}

-- ---- the lines

-- the session after a byte that ends the line, or does not
abbrev then : Ledger → List ℕ → ℕ → Bool → Session
then l line b ends = cond ends (record { ledger = after_line l line; line = [] }) (record { ledger = l; line = line ++ b ∷ [] })

-- what is written for an input, its end included
abbrev whole : List ℕ → List ℕ → Ledger → List ℕ
whole input line l =
    let s : Session = record { ledger = l; line = line } in
    written_for s input ++ written_at_end (session_after s input)

bytes_from : (input line : List ℕ) (l : Ledger) → whole input line l ≡ answered l (lines_from line input)
unfolding written_for session_after lines_from answered
bytes_from [] [] l = refl
bytes_from [] (b ∷ line) l = sym (append-nil (line_answered l (b ∷ line)))
bytes_from (b ∷ input) line l = go (eqb b newline) (bytes_from input)
  where
    go :
        (ends : Bool)
        → ((line' : List ℕ) (l' : Ledger) → whole input line' l' ≡ answered l' (lines_from line' input))
        → (cond ends (line_answered l line) [] ++ written_for (then l line b ends) input) ++ written_at_end (session_after (then l line b ends) input)
        ≡ answered l (cond ends (line ∷ lines_from [] input) (lines_from (line ++ b ∷ []) input))
    go true more =
        append_assoc (line_answered l line) (written_for (then l line b true) input) (written_at_end (session_after (then l line b true) input))
        ∙ ap (λ (x : List ℕ). line_answered l line ++ x) (more [] (after_line l line))
    go false more = more (line ++ b ∷ []) l

pub bytes_are_the_lines : BytesAreTheLines
unfolding replayed
bytes_are_the_lines input = bytes_from input [] begun.ledger

-- ---- the chunks

pub chunks_are_one_input : ChunksAreOneInput
unfolding written_for session_after
chunks_are_one_input s [] second = record { session_is = refl; written_is = refl }
chunks_are_one_input s (b ∷ first) second =
    let more = chunks_are_one_input (taking s b) first second in
    record {
      session_is = more.session_is;
      written_is =
          ap (λ (x : List ℕ). writing s b ++ x) more.written_is
          ∙ sym (append_assoc (writing s b) (written_for (taking s b) first) (written_for (session_after (taking s b) first) second));
    }
