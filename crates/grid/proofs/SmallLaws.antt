-- What is made of small numbers is small: the report at a time, the position then, a passage and its products.
-- Assumes nothing.
use mathlib.Core.Path.{◌≡◌, refl, sym}
use mathlib.Core.Bool.{true, false}
use Prim.Native.Nat.{ℕ, suc, ◌+◌, ◌≤◌, ◌<◌, ◌^◌}
use native.Mathlib.Omega.{arith}
use lib.IntN.{ℤ, pos, negsuc, nat_abs, neg_ℤ, ◌-ℤ◌, ◌*ℤ◌}
use lib.Signed.{non_neg, mag}
use mir.Syntax.{w64}
use mir.Val.{SFits, hbits}
use mir.Facts.{to_z-of_z}
use Rattle.std.proofs.lemmas.Int.{ints, fits_signed_mul}
use Rattle.ints.proofs.Parts.{mul_small, true_false}
use Rattle.ints.proofs.Machine.{back, held}
use Rattle.grid.specs.Units.{speed_limit}
use Rattle.grid.specs.Places.{position_after}
use Rattle.grid.specs.Moments.{along_x, along_y, passage_of, passage}
use Rattle.grid.specs.Small.{SmallMove, SmallAxis, SmallReport, SmallFigures, SmallStart, SmallStartAt, SmallPassage, SmallMeeting, SmallWindow}
use Rattle.grid.specs.declared.Range.{Range}
use Rattle.grid.specs.declared.Rect.{Rect}
use Rattle.grid.specs.declared.Report.{Report}
use Rattle.grid.specs.declared.moments.Passage.{Passage}

pub small_at : {r : Report} {s : ℤ} → SmallFigures r → nat_abs s ≤ 2 ^ 30 → SmallReport r s
small_at f h =
    record {
      along_x_lem = record { small_x = f.small_x; small_v = f.small_vx; small_t = f.small_t; small_s = h };
      along_y_lem = record { small_x = f.small_y; small_v = f.small_vy; small_t = f.small_t; small_s = h };
    }

-- a difference
pub difference_small : (a b : ℤ) (m n : ℕ) → nat_abs a ≤ m → nat_abs b ≤ n → nat_abs (a -ℤ b) ≤ m + n
difference_small a b m n h k = omega (arith, ints)

-- ---- as the machine computes: what it reads back from the bits of a difference or a product is that number

pub subtracted : (a b : ℤ) → mag a < 2 ^ hbits w64 → mag b < 2 ^ hbits w64 → nat_abs a ≤ 2 ^ 45 → nat_abs b ≤ 2 ^ 45 → back w64 (back w64 a -ℤ back w64 b) ≡ a -ℤ b
subtracted a b h k f g = omega (arith, ints)

pub multiplied : (a b : ℤ) → mag a < 2 ^ hbits w64 → mag b < 2 ^ hbits w64 → nat_abs a ≤ 2 ^ 46 → nat_abs b ≤ suc speed_limit → back w64 (back w64 a *ℤ back w64 b) ≡ a *ℤ b
multiplied a b h k f g =
    rw (held w64 a h, held w64 b k) (to_z-of_z (fits_signed_mul w64 a b (2 ^ 46) (suc speed_limit) f g (omega arith)))

-- a speed times seconds
pub gone : (v d : ℤ) → mag v < 2 ^ hbits w64 → mag d < 2 ^ hbits w64 → nat_abs v ≤ suc speed_limit → nat_abs d ≤ 2 ^ 31 → back w64 (back w64 v *ℤ back w64 d) ≡ v *ℤ d
gone v d h k f g =
    rw (held w64 v h, held w64 d k) (to_z-of_z (fits_signed_mul w64 v d (suc speed_limit) (2 ^ 31) f g (omega arith)))

-- ---- a position after some seconds

pub position_fits : {x v d : ℤ} → SmallMove x v d → SFits w64 (position_after x v d)
position_fits {x} {v} {d} h =
    omega (arith, ints, mul_small v d (suc speed_limit) (2 ^ 31) h.small_v h.small_elapsed)

pub position_small : {x v t s : ℤ} → SmallAxis x v t s → nat_abs (position_after x v (s -ℤ t)) ≤ 2 ^ 45
position_small {x} {v} {t} {s} h =
    omega (arith, ints, mul_small v (s -ℤ t) (suc speed_limit) (2 ^ 31) h.small_v (omega (arith, ints)))

-- ---- passages

-- of a float from a time on: what the two calls before gave back is small
pub from_small :
    {s x v t : ℤ} {r : Range} (p u : ℤ)
    → SmallStartAt s x v t r
    → p ≡ position_after x v (s -ℤ t)
    → u ≡ v
    → SmallStart p u r
from_small p u h e f = rw (e, f) (record { small_p = position_small h.along; small_v = h.along.small_v; small_range = h.small_range })

-- by the sign of the speed; z is read back from the three numbers that are put in
pub upward_is : (p v : ℤ) (r : Range) {z : Passage} → non_neg v ≡ true → z.after ≡ r.low -ℤ p → z.until ≡ r.high -ℤ p → z.speed ≡ v → z ≡ passage_of p v r
unfolding passage_of
upward_is p (pos w) r e a b c = λ i. record { after = a i; until = b i; speed = c i }
upward_is p (negsuc w) r e a b c = absurd (true_false (sym e))

pub downward_is : (p v : ℤ) (r : Range) {z : Passage} → non_neg v ≡ false → z.after ≡ p -ℤ r.high → z.until ≡ p -ℤ r.low → z.speed ≡ neg_ℤ v → z ≡ passage_of p v r
unfolding passage_of
downward_is p (pos w) r e a b c = absurd (true_false e)
downward_is p (negsuc w) r e a b c = λ i. record { after = a i; until = b i; speed = c i }

pub passage_small : (p v : ℤ) (r : Range) → SmallStart p v r → SmallPassage (passage_of p v r)
unfolding passage_of
passage_small p (pos w) r s =
    record { small_after = omega (arith, ints); small_until = omega (arith, ints); small_speed = s.small_v }
passage_small p (negsuc w) r s =
    record { small_after = omega (arith, ints); small_until = omega (arith, ints); small_speed = s.small_v }

-- ---- a window

module _ {r : Report} {q : Rect} {first last : ℤ} (h : SmallWindow r q first last) where
  pub window_x : SmallStartAt first r.x r.vx r.t q.x
  window_x = record { along = (small_at h.figures h.small_first).along_x_lem; small_range = h.rect.along_x_lem }

  pub window_y : SmallStartAt first r.y r.vy r.t q.y
  window_y = record { along = (small_at h.figures h.small_first).along_y_lem; small_range = h.rect.along_y_lem }

  -- through both ranges
  pub window_meeting : SmallMeeting (passage (along_x q r) first) (passage (along_y q r) first) (last -ℤ first)
  window_meeting =
      record {
        along_x_lem = passage_small _ r.vx q.x (from_small _ _ window_x refl refl);
        along_y_lem = passage_small _ r.vy q.y (from_small _ _ window_y refl refl);
        small_d = omega (arith, ints);
      }
