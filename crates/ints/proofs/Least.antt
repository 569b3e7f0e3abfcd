-- The lesser and the greater of two whole numbers: their parts, and the laws of a semilattice that joining rows and the smallest around two
-- ranges rest on.
-- Assumes nothing.
use mathlib.Core.Path.{◌≡◌, refl, ◌∙◌}
use mathlib.Core.Bool.{Bool, true, false, cond, ◌||◌}
use Prim.Native.Nat.{min, max}
use native.Mathlib.Omega.{arith}
use lib.IntN.{ℤ}
use lib.Signed.{le_z}
use Rattle.ints.specs.Whole.{min_z, max_z}
use Rattle.ints.proofs.Parts.{up, down, equal_parts, one_part, le_true, le_false, signed}

pub min_parts : (a b : ℤ) → (up (min_z a b) ≡ min (up a) (up b)) × (down (min_z a b) ≡ max (down a) (down b))
unfolding min_z
min_parts a b = go (le_z a b) refl
  where
    go : (t : Bool) → le_z a b ≡ t → (up (cond (le_z a b) a b) ≡ min (up a) (up b)) × (down (cond (le_z a b) a b) ≡ max (down a) (down b))
    go true e = rw e (omega (arith, le_true a b e, one_part a, one_part b))
    go false e = rw e (omega (arith, le_false a b e, one_part a, one_part b))

pub max_parts : (a b : ℤ) → (up (max_z a b) ≡ max (up a) (up b)) × (down (max_z a b) ≡ min (down a) (down b))
unfolding max_z
max_parts a b = go (le_z a b) refl
  where
    go : (t : Bool) → le_z a b ≡ t → (up (cond (le_z a b) b a) ≡ max (up a) (up b)) × (down (cond (le_z a b) b a) ≡ min (down a) (down b))
    go true e = rw e (omega (arith, le_true a b e, one_part a, one_part b))
    go false e = rw e (omega (arith, le_false a b e, one_part a, one_part b))

pub min-same : (a : ℤ) → min_z a a ≡ a
min-same a = omega (arith, signed, min_parts a a)

pub max-same : (a : ℤ) → max_z a a ≡ a
max-same a = omega (arith, signed, max_parts a a)

pub min_comm : (a b : ℤ) → min_z a b ≡ min_z b a
min_comm a b = omega (arith, signed, min_parts a b, min_parts b a)

pub max_comm : (a b : ℤ) → max_z a b ≡ max_z b a
max_comm a b = omega (arith, signed, max_parts a b, max_parts b a)

pub min_assoc : (a b c : ℤ) → min_z (min_z a b) c ≡ min_z a (min_z b c)
min_assoc a b c =
    let p = min_parts a b in
    let q = min_parts (min_z a b) c in
    let r = min_parts b c in
    let s = min_parts a (min_z b c) in
    equal_parts _ _ (omega (arith, p.0, q.0, r.0, s.0)) (omega (arith, p.1, q.1, r.1, s.1))

pub max_assoc : (a b c : ℤ) → max_z (max_z a b) c ≡ max_z a (max_z b c)
max_assoc a b c =
    let p = max_parts a b in
    let q = max_parts (max_z a b) c in
    let r = max_parts b c in
    let s = max_parts a (max_z b c) in
    equal_parts _ _ (omega (arith, p.0, q.0, r.0, s.0)) (omega (arith, p.1, q.1, r.1, s.1))

pub min-below : (a b : ℤ) → (le_z (min_z a b) a ≡ true) × (le_z (min_z a b) b ≡ true)
min-below a b = omega (arith, signed, min_parts a b)

pub max_above : (a b : ℤ) → (le_z a (max_z a b) ≡ true) × (le_z b (max_z a b) ≡ true)
max_above a b = omega (arith, signed, max_parts a b)

-- the lesser is the greatest number below both, the greater the least above both
pub min-greatest : (a b z : ℤ) → le_z z a ≡ true → le_z z b ≡ true → le_z z (min_z a b) ≡ true
min-greatest a b z h k = omega (arith, signed, min_parts a b, one_part a, one_part b, one_part z)

pub max_least : (a b z : ℤ) → le_z a z ≡ true → le_z b z ≡ true → le_z (max_z a b) z ≡ true
max_least a b z h k = omega (arith, signed, max_parts a b, one_part a, one_part b, one_part z)

-- the greater is one of the two
pub max_one_of : (P : ℤ → Type 0) (a b : ℤ) → P a → P b → P (max_z a b)
unfolding max_z
max_one_of P a b p q = go (le_z a b)
  where
    go : (t : Bool) → P (cond t b a)
    go true = q
    go false = p

-- the first where the second is not above it
pub max-first : (a b : ℤ) → le_z b a ≡ true → max_z a b ≡ a
unfolding max_z
max-first a b h = max_comm a b ∙ rw h

pub le_refl : (a : ℤ) → le_z a a ≡ true
le_refl a = omega (arith, signed)

pub le_trans : (a b c : ℤ) → le_z a b ≡ true → le_z b c ≡ true → le_z a c ≡ true
le_trans a b c h k = omega (arith, signed)

-- the lesser is not above z where one of the two is not, the greater not below z where one of the two is not
pub min_either : (a b z : ℤ) → le_z (min_z a b) z ≡ le_z a z || le_z b z
min_either a b z = go (le_z a z) refl (le_z b z) refl
  where
    go : (t : Bool) → le_z a z ≡ t → (u : Bool) → le_z b z ≡ u → le_z (min_z a b) z ≡ le_z a z || le_z b z
    go true e u f = rw e (le_trans (min_z a b) a z (min-below a b).0 e)
    go false e true f = rw (e, f) (le_trans (min_z a b) b z (min-below a b).1 f)
    go false e false f = rw (e, f) (omega (arith, signed, min_parts a b, one_part a, one_part b, one_part z))

pub max_either : (a b z : ℤ) → le_z z (max_z a b) ≡ le_z z a || le_z z b
max_either a b z = go (le_z z a) refl (le_z z b) refl
  where
    go : (t : Bool) → le_z z a ≡ t → (u : Bool) → le_z z b ≡ u → le_z z (max_z a b) ≡ le_z z a || le_z z b
    go true e u f = rw e (le_trans z a (max_z a b) e (max_above a b).0)
    go false e true f = rw (e, f) (le_trans z b (max_z a b) f (max_above a b).1)
    go false e false f = rw (e, f) (omega (arith, signed, max_parts a b, one_part a, one_part b, one_part z))
