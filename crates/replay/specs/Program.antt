-- What the functions of the replay program that read and write leave: the session after the bytes that came, whatever the chunks.
-- Assumes nothing.
use Rattle.std.specs.Prelude.{◌≡◌, List, ℕ, ◌<◌, ◌≤◌, length, take, Result, MatchResult, IsErrAnd}
use Rattle.history.specs.Points.{Point}
use Rattle.answering.specs.Index.{words_in}
use Rattle.streams.specs.declared.Failure.{Failure}
use Rattle.session.specs.declared.feeding.Buffers.{Buffers}
use Rattle.session.specs.Session.{Session, begun, session_after, written_at_end, ledger_at_end}
use Rattle.session.specs.Buffers.{Stands}
use Rattle.replay.specs.declared.Stopped.{Stopped}
use Rattle.replay.specs.declared.Ended.{Ended}

-- these bytes taken, whatever the session that the buffers stood for
abbrev pub Takes : List ℕ → Buffers → Buffers → Type 0
Takes bytes m m' = (s : Session) → Stands s m → Stands (session_after s bytes) m'

-- the first of them. That only a failed write leaves some is no part of this: what `write` did has no definition
pub record TakesFirst (taken : ℕ) (chunk : List ℕ) (m m' : Buffers) : Type 0 where
  pub within : taken ≤ length chunk
  pub takes : Takes (take taken chunk) m m'

-- all of a chunk taken, or the first of its bytes where a write failed: of a chunk that has none nothing is written
abbrev pub TakesChunk : List ℕ → Buffers → Buffers → Result ℕ Stopped → Type 0
TakesChunk chunk m m' r = MatchResult r (λ taken. (taken ≡ length chunk) × Takes chunk m m') (λ stop. (0 < length chunk) × TakesFirst stop.taken chunk m m')

-- the same of what `read` gave: as many bytes of the chunk as it says, so that the input has ended exactly where it said 0. Where it failed none is taken and
-- nothing changed
abbrev pub AnswersRead : Result ℕ Failure → List ℕ → Buffers → Buffers → Result ℕ Stopped → Type 0
AnswersRead read chunk m m' r = MatchResult read (λ came. TakesChunk (take came chunk) m m' r) (λ _. IsErrAnd r (λ stop. (stop.taken ≡ 0) × (m' ≡ m)))

-- and of the bytes that came, which stand at the start of the chunk
abbrev pub TakesRead : List ℕ → Buffers → Buffers → Result ℕ Stopped → Type 0
TakesRead chunk' m m' r = MatchResult r (λ came. TakesFirst came chunk' m m') (λ stop. TakesFirst stop.taken chunk' m m')

-- some bytes taken, those of the chunks in order. The input has as many bytes as the run says it took; which bytes `read` gave has no definition, so no
-- more can be said of it here
pub record Took (taken : ℕ) (m m' : Buffers) : Type 0 where
  pub input : List ℕ
  pub many : length input ≡ taken
  pub takes : Takes input m m'

abbrev pub Runs : Buffers → Buffers → Result ℕ Stopped → Type 0
Runs m m' r = MatchResult r (λ taken. Took taken m m') (λ stop. Took stop.taken m m')

-- the same from the start of the program, where a read or a write failed: the line that is held is no line
pub record Stops (stop : Stopped) (m' : Buffers) : Type 0 where
  pub input : List ℕ
  pub many : length input ≡ stop.taken
  pub stands : Stands (session_after begun input) m'

-- and at the end of the input: what is left to write stands in `out`
pub record Ends (end : Ended) (m' : Buffers) (out' : List ℕ) : Type 0 where
  pub input : List ℕ
  pub many : length input ≡ end.taken
  pub leads : Point (ledger_at_end (session_after begun input)) (words_in m'.index)
  pub writes : take end.filled out' ≡ written_at_end (session_after begun input)

abbrev pub Replays : Buffers → List ℕ → Result Ended Stopped → Type 0
Replays m' out' r = MatchResult r (λ end. Ends end m' out') (λ stop. Stops stop m')
