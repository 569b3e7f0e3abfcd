-- A test that antt computes at every place of a table gives what it tests at each place.
-- Assumes nothing.
use mathlib.Core.Path.{◌≡◌}
use mathlib.Core.Bool.{Bool, true, false, ◌&&◌}
use Prim.Native.Nat.{ℕ, zero, suc, ◌+◌, ◌<◌}
use native.Mathlib.Nat.{add-zero}
use native.Mathlib.Omega.{arith}
use lib.Dec.{T}

pub left : (a b : Bool) → T (a && b) → T a
left true b t = tt
left false b t = t

pub right : (a b : Bool) → T (a && b) → T b
right true b t = t
right false b t = absurd t

-- whether f passes at the n places from i on
abbrev pub every : (ℕ → Bool) → ℕ → ℕ → Bool
every f i zero = true
every f i (suc n) = f i && every f (suc i) n

pub at_place : (f : ℕ → Bool) (n i : ℕ) → T (every f i n) → (k : ℕ) → k < n → T (f (i + k))
at_place f zero i t k h = absurd (omega arith)
at_place f (suc n) i t zero h = rw add-zero (left (f i) _ t)
at_place f (suc n) i t (suc k) h =
    let e : i + suc k ≡ suc i + k = omega arith in
    rw e (at_place f n (suc i) (right (f i) _ t) k (omega arith))
