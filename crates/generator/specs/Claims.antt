-- What is claimed of jumps: document 02, A5. The proofs are in proofs/Claims.antt.
-- Assumes nothing.
use Rattle.std.specs.Prelude.{◌≡◌, ℕ, ◌+◌}
use Rattle.generator.specs.Generator.{steps, jump}

-- a jump over m steps is m single steps, for every m and start
abbrev pub JumpIsSteps : Type 0
JumpIsSteps = (m start : ℕ) → jump m start ≡ steps m start

-- a jump of a, then one of b, is the jump of a + b
abbrev pub JumpsAdd : Type 0
JumpsAdd = (a b start : ℕ) → jump b (jump a start) ≡ jump (a + b) start
