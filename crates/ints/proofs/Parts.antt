-- Whole numbers for omega, which reads ℕ alone. A whole number z is up z - down z, and one of the two is 0; each law below says what an
-- operation or a test does to these two parts. A fact about whole numbers is then one line, `omega (arith, signed, add x y, ..)`,
-- with the law of each sum, difference or product that stands in it.
-- Assumes nothing.
use mathlib.Core.Path.{◌≡◌, refl, sym, ap}
use mathlib.Core.Bool.{Bool, true, false}
use Prim.Native.Nat.{ℕ, zero, suc, ◌+◌, ◌*◌, ◌/◌, ◌≤◌, ◌<◌, min}
use native.Mathlib.Nat.{mul-le-mul, mul-le-mul_right, zero-div}
use native.Mathlib.Omega.{arith}
use lib.Dec.{T, ltb, leb-zero}
use lib.IntN.{ℤ, pos, negsuc, neg_ℤ, sub_ℕ, ◌+ℤ◌, ◌-ℤ◌, ◌*ℤ◌, nat_abs}
use lib.Signed.{le_z, lt_z, non_neg}
use borrow.Author.Tests.{ltb-true, ltb-false, leb-true, leb-false, le-leb, lt-leb, lt-ltb, le-ltb}
use Rattle.ints.specs.Whole.{floor_z, raised_or_lowered}
pub use Rattle.ints.specs.Whole.{up, down}

-- ---- the two parts

pub one_part : (z : ℤ) → min (up z) (down z) ≡ 0
one_part (pos n) = omega arith
one_part (negsuc n) = omega arith

pub true_false : true ≡ false → ⊥
true_false e = let z : ◌≡◌ {A = ℕ} 0 1 = cc in omega arith

-- ---- equations

pub equal : (a b : ℤ) → up a + down b ≡ up b + down a → a ≡ b
equal (pos a) (pos b) e = ap pos (omega arith)
equal (pos a) (negsuc b) e = absurd (omega arith)
equal (negsuc a) (pos b) e = absurd (omega arith)
equal (negsuc a) (negsuc b) e = ap negsuc (omega arith)

pub equal_parts : (a b : ℤ) → up a ≡ up b → down a ≡ down b → a ≡ b
equal_parts a b e h = equal a b (omega arith)

-- ---- sums, differences, products, rounding down

natural_difference : (a b : ℕ) → up (sub_ℕ a b) + b ≡ down (sub_ℕ a b) + a
natural_difference a b = go (ltb a b) refl
  where
    go : (t : Bool) → ltb a b ≡ t → up (sub_ℕ a b) + b ≡ down (sub_ℕ a b) + a
    go true e = rw e (omega (arith, ltb-true a b e))
    go false e = rw e (omega (arith, ltb-false a b e))

pub add : (a b : ℤ) → up (a +ℤ b) + (down a + down b) ≡ down (a +ℤ b) + (up a + up b)
add (pos a) (pos b) = omega arith
add (pos a) (negsuc b) = omega (arith, natural_difference a (suc b))
add (negsuc a) (pos b) = omega (arith, natural_difference b (suc a))
add (negsuc a) (negsuc b) = omega arith

pub neg : (a : ℤ) → (up (neg_ℤ a) ≡ down a) × (down (neg_ℤ a) ≡ up a)
neg (pos zero) = (refl, refl)
neg (pos (suc n)) = (refl, refl)
neg (negsuc n) = (refl, refl)

pub sub : (a b : ℤ) → up (a -ℤ b) + (down a + up b) ≡ down (a -ℤ b) + (up a + down b)
sub a b = omega (arith, add a (neg_ℤ b), neg b)

pub mul : (a b : ℤ) → (up (a *ℤ b) ≡ up a * up b + down a * down b) × (down (a *ℤ b) ≡ up a * down b + down a * up b)
mul (pos a) (pos b) = omega arith
mul (pos a) (negsuc b) = omega (arith, neg (pos (a * suc b)))
mul (negsuc a) (pos b) = omega (arith, neg (pos (suc a * b)))
mul (negsuc a) (negsuc b) = omega arith

pub up_floor : (z : ℤ) (m : ℕ) → up (floor_z z m) ≡ up z / m
up_floor (pos n) m = refl
up_floor (negsuc n) m = sym (zero-div m)

pub up_raised : (last : ℕ) (z : ℤ) → raised_or_lowered last z ≡ min last (up z)
up_raised last (pos n) = refl
up_raised last (negsuc n) = omega arith

-- ---- sizes

pub abs : (z : ℤ) → nat_abs z ≡ up z + down z
abs (pos n) = omega arith
abs (negsuc n) = omega arith

abs_neg : (z : ℤ) → nat_abs (neg_ℤ z) ≡ nat_abs z
abs_neg (pos zero) = refl
abs_neg (pos (suc n)) = refl
abs_neg (negsuc n) = refl

pub abs_mul : (a b : ℤ) → nat_abs (a *ℤ b) ≡ nat_abs a * nat_abs b
abs_mul (pos a) (pos b) = refl
abs_mul (pos a) (negsuc b) = abs_neg (pos (a * suc b))
abs_mul (negsuc a) (pos b) = abs_neg (pos (suc a * b))
abs_mul (negsuc a) (negsuc b) = refl

-- a product of small numbers is small: what keeps speed times time in 64 bits
pub mul_small : (a b : ℤ) (m n : ℕ) → nat_abs a ≤ m → nat_abs b ≤ n → up (a *ℤ b) + down (a *ℤ b) ≤ m * n
mul_small a b m n h k = omega (arith, abs (a *ℤ b), abs_mul a b, mul-le-mul h k)

-- ---- tests: what a passed or failed test tells, and what decides it

pub le_true : (a b : ℤ) → le_z a b ≡ true → up a + down b ≤ up b + down a
le_true (pos a) (pos b) e = omega (arith, leb-true a b e)
le_true (pos a) (negsuc b) e = absurd (true_false (sym e))
le_true (negsuc a) (pos b) e = omega arith
le_true (negsuc a) (negsuc b) e = omega (arith, leb-true b a e)

pub le_false : (a b : ℤ) → le_z a b ≡ false → up b + down a < up a + down b
le_false (pos a) (pos b) e = omega (arith, leb-false a b e)
le_false (pos a) (negsuc b) e = omega arith
le_false (negsuc a) (pos b) e = absurd (true_false e)
le_false (negsuc a) (negsuc b) e = omega (arith, leb-false b a e)

pub lt_true : (a b : ℤ) → lt_z a b ≡ true → up a + down b < up b + down a
lt_true (pos a) (pos b) e = omega (arith, ltb-true a b e)
lt_true (pos a) (negsuc b) e = absurd (true_false (sym e))
lt_true (negsuc a) (pos b) e = omega arith
lt_true (negsuc a) (negsuc b) e = omega (arith, ltb-true b a e)

pub lt_false : (a b : ℤ) → lt_z a b ≡ false → up b + down a ≤ up a + down b
lt_false (pos a) (pos b) e = omega (arith, ltb-false a b e)
lt_false (pos a) (negsuc b) e = omega arith
lt_false (negsuc a) (pos b) e = absurd (true_false e)
lt_false (negsuc a) (negsuc b) e = omega (arith, ltb-false b a e)

pub true_le : (a b : ℤ) → up a + down b ≤ up b + down a → le_z a b ≡ true
true_le (pos a) (pos b) h = le-leb a b (omega arith)
true_le (pos a) (negsuc b) h = absurd (omega arith)
true_le (negsuc a) (pos b) h = refl
true_le (negsuc a) (negsuc b) h = le-leb b a (omega arith)

pub false_le : (a b : ℤ) → up b + down a < up a + down b → le_z a b ≡ false
false_le (pos a) (pos b) h = lt-leb a b (omega arith)
false_le (pos a) (negsuc b) h = refl
false_le (negsuc a) (pos b) h = absurd (omega arith)
false_le (negsuc a) (negsuc b) h = lt-leb b a (omega arith)

pub true_lt : (a b : ℤ) → up a + down b < up b + down a → lt_z a b ≡ true
true_lt (pos a) (pos b) h = lt-ltb a b (omega arith)
true_lt (pos a) (negsuc b) h = absurd (omega arith)
true_lt (negsuc a) (pos b) h = refl
true_lt (negsuc a) (negsuc b) h = lt-ltb b a (omega arith)

pub false_lt : (a b : ℤ) → up b + down a ≤ up a + down b → lt_z a b ≡ false
false_lt (pos a) (pos b) h = le-ltb a b (omega arith)
false_lt (pos a) (negsuc b) h = refl
false_lt (negsuc a) (pos b) h = absurd (omega arith)
false_lt (negsuc a) (negsuc b) h = le-ltb b a (omega arith)

pub nonneg_of : (z : ℤ) → down z ≡ 0 → T (non_neg z)
nonneg_of (pos n) h = tt
nonneg_of (negsuc n) h = absurd (omega arith)

pub nonneg_is : (z : ℤ) → le_z (pos 0) z ≡ non_neg z
nonneg_is (pos n) = leb-zero n
nonneg_is (negsuc n) = refl

-- omega reads each of these as a rule: a test among the hypotheses, and a test or an equation as the goal
pub ruleset signed = (lt_true, lt_false, le_true, le_false, true_lt, false_lt, true_le, false_le, nonneg_of, equal)

-- ---- order and products: times a number from 0 up the order stays, times one below 0 it turns

pub mul_keeps : (a b : ℤ) (k : ℕ) → le_z a b ≡ true → le_z (a *ℤ pos k) (b *ℤ pos k) ≡ true
mul_keeps a b k h = omega (arith, signed, mul a (pos k), mul b (pos k), mul-le-mul_right k (le_true a b h))

-- and the other way round, where k is above 0
pub mul_cancels : (a b : ℤ) (k : ℕ) → 0 < k → le_z (a *ℤ pos k) (b *ℤ pos k) ≡ true → le_z a b ≡ true
mul_cancels a b k o h = go (le_z a b) refl
  where
    go : (t : Bool) → le_z a b ≡ t → t ≡ true
    go true e = refl
    go false e = absurd (omega (arith, signed, mul a (pos k), mul b (pos k), mul-le-mul_right k (le_false a b e), le_true (a *ℤ pos k) (b *ℤ pos k) h))

pub mul_turns : (a b : ℤ) (k : ℕ) → le_z a b ≡ true → le_z (b *ℤ negsuc k) (a *ℤ negsuc k) ≡ true
mul_turns a b k h =
    omega (arith, signed, mul a (negsuc k), mul b (negsuc k), mul-le-mul_right (suc k) (le_true a b h))
