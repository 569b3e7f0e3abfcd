-- A window of one time lists what that time lists, and a float that is in time at a range has the start or the end of its way on the right side of
-- each end of the range.
-- Assumes nothing.
use mathlib.Core.Path.{◌≡◌, refl, ap₂, ◌∙◌}
use mathlib.Core.Bool.{true, ◌&&◌}
use mathlib.Core.Logic.{◌⊎◌, inl, inr}
use Prim.Native.Nat.{ℕ, suc}
use native.Mathlib.Omega.{arith}
use lib.IntN.{ℤ, pos, negsuc, ◌+ℤ◌, ◌-ℤ◌, ◌*ℤ◌, nat_abs}
use lib.Signed.{le_z}
use Rattle.ints.specs.Whole.{between}
use Rattle.ints.proofs.Parts.{signed, add, sub, mul, mul_keeps}
use Rattle.ints.proofs.Truth.{same_truth, and_true, and_left, and_right}
use Rattle.grid.specs.Moments.{passage_of, in_time, in_turn, meeting, inside_during}
use Rattle.grid.specs.Reports.{x_at, y_at, in_rect, inside_at}
use Rattle.grid.specs.declared.Range.{Range}
use Rattle.grid.specs.declared.Rect.{Rect}
use Rattle.grid.specs.declared.Report.{Report}
use Rattle.grid.specs.declared.moments.Passage.{Passage}

-- ---- both ends of a way

-- one end of the way is not below the range, and one is not above it
pub record EndsInReach (start end : ℤ) (r : Range) : Type 0 where
  pub low_reached : (le_z r.low start ≡ true) ⊎ (le_z r.low end ≡ true)
  pub high_reached : (le_z start r.high ≡ true) ⊎ (le_z end r.high ≡ true)

-- a float that goes up starts not above the range and ends not below it; one that goes down, the other way round
pub ends_in_reach : (p v d : ℤ) (r : Range) → in_time (passage_of p v r) d ≡ true → EndsInReach p (p +ℤ v *ℤ d) r
unfolding passage_of
ends_in_reach p (pos w) d r h =
    let entered = and_left (le_z (r.low -ℤ p) (pos w *ℤ d)) (le_z (pos 0) (r.high -ℤ p)) h in
    let left = and_right (le_z (r.low -ℤ p) (pos w *ℤ d)) (le_z (pos 0) (r.high -ℤ p)) h in
    record {
      low_reached = inr (omega (arith, signed, sub r.low p, add p (pos w *ℤ d)));
      high_reached = inl (omega (arith, signed, sub r.high p));
    }
ends_in_reach p (negsuc w) d r h =
    let entered = and_left (le_z (p -ℤ r.high) (pos (suc w) *ℤ d)) (le_z (pos 0) (p -ℤ r.low)) h in
    let left = and_right (le_z (p -ℤ r.high) (pos (suc w) *ℤ d)) (le_z (pos 0) (p -ℤ r.low)) h in
    record {
      low_reached = inl (omega (arith, signed, sub p r.low));
      high_reached =
          inr (omega (arith, signed, sub p r.high, add p (negsuc w *ℤ d), mul (negsuc w) d, mul (pos (suc w)) d));
    }

-- ---- one time

pub speed_is : (p v : ℤ) (r : Range) → (passage_of p v r).speed ≡ pos (nat_abs v)
unfolding passage_of
speed_is p (pos w) r = refl
speed_is p (negsuc w) r = refl

-- in time at once: where the float is at the start, it is in the range
at_once : (p v : ℤ) (r : Range) → in_time (passage_of p v r) (pos 0) ≡ between r.low r.high p
unfolding passage_of
at_once p (pos w) r =
    ap₂ ◌&&◌
    (same_truth (le_z (r.low -ℤ p) (pos w *ℤ pos 0)) (le_z r.low p)
    (λ h. omega (arith, signed, sub r.low p))
    (λ h. omega (arith, signed, sub r.low p)))
    (same_truth (le_z (pos 0) (r.high -ℤ p)) (le_z p r.high)
    (λ h. omega (arith, signed, sub r.high p))
    (λ h. omega (arith, signed, sub r.high p)))
at_once p (negsuc w) r =
    let high = p -ℤ r.high in
    let low = p -ℤ r.low in
    same_truth (le_z high (pos (suc w) *ℤ pos 0) && le_z (pos 0) low) (le_z r.low p && le_z p r.high)
    (λ h.
    let entered = and_left (le_z high (pos (suc w) *ℤ pos 0)) (le_z (pos 0) low) h in
    let left = and_right (le_z high (pos (suc w) *ℤ pos 0)) (le_z (pos 0) low) h in
    and_true (le_z r.low p) (le_z p r.high) (omega (arith, signed, sub p r.low)) (omega (arith, signed, sub p r.high)))
    (λ h.
    let from = and_left (le_z r.low p) (le_z p r.high) h in
    let to = and_right (le_z r.low p) (le_z p r.high) h in
    and_true (le_z high (pos (suc w) *ℤ pos 0)) (le_z (pos 0) low) (omega (arith, signed, sub p r.high)) (omega (arith, signed, sub p r.low)))

-- entered at once and not left: then each of two is entered no later than the other is left
in_turn-at-once :
    (c e : Passage) (w u : ℕ)
    → c.speed ≡ pos w
    → e.speed ≡ pos u
    → in_time c (pos 0) ≡ true
    → in_time e (pos 0) ≡ true
    → in_turn c e ≡ true
in_turn-at-once c e w u x y h k =
    let entered : le_z c.after (pos w *ℤ pos 0) ≡ true = rw x at (and_left (le_z c.after (c.speed *ℤ pos 0)) (le_z (pos 0) c.until) h) in
    let left = and_right (le_z e.after (e.speed *ℤ pos 0)) (le_z (pos 0) e.until) k in
    let below = mul_keeps c.after (pos 0) u (omega (arith, signed)) in
    let above = mul_keeps (pos 0) e.until w left in
    rw (x, y) (omega (arith, signed))

meeting_at_once :
    (p v : ℤ) (r : Range) (p' v' : ℤ) (r' : Range)
    → meeting (passage_of p v r) (passage_of p' v' r') (pos 0) ≡ between r.low r.high p && between r'.low r'.high p'
unfolding meeting
meeting_at_once p v r p' v' r' =
    let c = passage_of p v r in
    let e = passage_of p' v' r' in
    let both = in_time c (pos 0) && in_time e (pos 0) in
    let inside : both ≡ between r.low r.high p && between r'.low r'.high p' = ap₂ ◌&&◌ (at_once p v r) (at_once p' v' r') in
    same_truth (both && (in_turn c e && in_turn e c)) both
    (λ h. and_left both (in_turn c e && in_turn e c) h)
    (λ h.
    let x = and_left (in_time c (pos 0)) (in_time e (pos 0)) h in
    let y = and_right (in_time c (pos 0)) (in_time e (pos 0)) h in
    let s = speed_is p v r in
    let s' = speed_is p' v' r' in
    and_true both (in_turn c e && in_turn e c) h
    (and_true (in_turn c e) (in_turn e c)
    (in_turn-at-once c e (nat_abs v) (nat_abs v') s s' x y)
    (in_turn-at-once e c (nat_abs v') (nat_abs v) s' s y x)))
    ∙ inside

-- in order or not, a rectangle holds in a window of one time what it holds at that time
pub one_time : (q : Rect) (t : ℤ) (r : Report) → inside_during q t t r ≡ inside_at q t r
unfolding inside_during inside_at in_rect x_at y_at
one_time q t r =
    let none : t -ℤ t ≡ pos 0 = omega (arith, signed, sub t t) in
    rw none (meeting_at_once (x_at r t) r.vx q.x (y_at r t) r.vy q.y)
