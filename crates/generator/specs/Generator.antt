-- The generator of made-up fleets: document 02, A5. A state is a number of 32 bits: single steps, draws, and a jump over many steps worked out by
-- doubling.
-- Assumes nothing.
use Rattle.std.specs.Prelude.{ℕ, zero, suc, ◌+◌, ◌*◌, ◌/◌, ◌%◌, cond, ◌==◌}
use Rattle.generator.specs.declared.steps.Affine.{Affine}

-- how many states there are: a state wraps at 32 bits
abbrev pub states : ℕ
states = 4294967296

abbrev pub mapped : Affine → ℕ → ℕ
mapped f s = (f.factor * s + f.term) % states

-- ---- single steps

abbrev pub one : Affine
one = record { factor = 1664525; term = 1013904223 }

abbrev pub step : ℕ → ℕ
step = mapped one

-- so many times
unfoldable pub times : (ℕ → ℕ) → ℕ → ℕ → ℕ
times f zero s = s
times f (suc m) s = times f m (f s)

abbrev pub steps : ℕ → ℕ → ℕ
steps = times step

-- ---- draws

-- the state after the step, and what is drawn
pub record Drawn : Type 0 where
  pub state : ℕ
  pub number : ℕ

-- a draw below n: a step first, then the share of n that the state is of all states, rounded down
abbrev pub draw_below : ℕ → ℕ → Drawn
draw_below n s = record { state = step s; number = step s * n / states }

-- ---- jumps

-- a map done twice is a map of the same kind
abbrev pub doubled : Affine → Affine
doubled f = record { factor = f.factor * f.factor % states; term = mapped f f.term }

-- m times a map, by doubling it at each halving of m; the first argument bounds the halvings, and m of them are enough
unfoldable pub jumped : ℕ → Affine → ℕ → ℕ → ℕ
jumped zero f m s = s
jumped (suc k) f zero s = s
jumped (suc k) f (suc n) s = let m = suc n in jumped k (doubled f) (m / 2) (cond (m % 2 == 0) s (mapped f s))

abbrev pub jump : ℕ → ℕ → ℕ
jump m = jumped m one m
