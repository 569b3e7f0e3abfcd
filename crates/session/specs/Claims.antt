-- What is claimed of the byte machine: it writes what document 01, "Lines", says for the whole input, and it does not matter in which chunks the
-- input comes. The proofs are in proofs/Claims.antt.
-- Assumes nothing.
use Rattle.std.specs.Prelude.{◌≡◌, List, ◌++◌, ℕ}
use Rattle.answering.specs.Replay.{replayed}
use Rattle.session.specs.Session.{Session, begun, session_after, written_for, written_at_end}

abbrev pub BytesAreTheLines : Type 0
BytesAreTheLines = (input : List ℕ) → written_for begun input ++ written_at_end (session_after begun input) ≡ replayed input

pub record OneAfterTheOther (s : Session) (first second : List ℕ) : Type 0 where
  pub session_is : session_after s (first ++ second) ≡ session_after (session_after s first) second
  pub written_is : written_for s (first ++ second) ≡ written_for s first ++ written_for (session_after s first) second

abbrev pub ChunksAreOneInput : Type 0
ChunksAreOneInput = (s : Session) (first second : List ℕ) → OneAfterTheOther s first second
