-- What a read and a write give.
-- Assumes nothing.
use Rattle.std.specs.Prelude.{ℕ, ◌<◌, ◌≤◌, Result, IfOk}
use Rattle.streams.specs.declared.Failure.{Failure}

-- what a call that is handed n bytes may answer: a failure, or how many bytes it moved, at most n
abbrev pub Moved : ℕ → Result ℕ Failure → Type 0
Moved n r = IfOk r (λ k. k ≤ n)

-- the same of a call that moves one at least
abbrev pub TakesSome : ℕ → Result ℕ Failure → Type 0
TakesSome n r = IfOk r (λ k. (0 < k) × (k ≤ n))
