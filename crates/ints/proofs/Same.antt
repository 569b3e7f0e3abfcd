-- The test whether two whole numbers are the same: it passes exactly where they are equal.
-- Assumes nothing.
use mathlib.Core.Path.{◌≡◌, refl, sym, ◌∙◌}
use mathlib.Core.Bool.{Bool, true, false}
use native.Mathlib.Omega.{arith}
use lib.IntN.{ℤ}
use lib.Signed.{le_z, lt_z}
use Rattle.ints.specs.Whole.{eq_z}
use Rattle.ints.proofs.Parts.{signed, true_false}
use Rattle.ints.proofs.Truth.{same_truth, and_true, and_left, and_right}

pub same_is : (a b : ℤ) → eq_z a b ≡ true → a ≡ b
unfolding eq_z
same_is a b h =
    let l = and_left (le_z a b) (le_z b a) h in
    let g = and_right (le_z a b) (le_z b a) h in
    omega (arith, signed)

pub is_same : (a b : ℤ) → a ≡ b → eq_z a b ≡ true
unfolding eq_z
is_same a b e =
    let l : le_z a b ≡ true = rw e (omega (arith, signed)) in
    let g : le_z b a ≡ true = rw e (omega (arith, signed)) in
    and_true _ _ l g

pub not_same : (a b : ℤ) → (a ≡ b → ⊥) → eq_z a b ≡ false
not_same a b n = same_truth _ _ (λ h. absurd (n (same_is a b h))) (λ f. absurd (true_false (sym f)))

pub same_not : (a b : ℤ) → eq_z a b ≡ false → a ≡ b → ⊥
same_not a b f e = true_false (sym (is_same a b e) ∙ f)

-- of two numbers that differ, the one not above is below
pub unequal_below : (a b : ℤ) → eq_z a b ≡ false → le_z b a ≡ true → lt_z b a ≡ true
unequal_below a b h k = go (lt_z b a) refl
  where
    go : (t : Bool) → lt_z b a ≡ t → t ≡ true
    go true e = refl
    go false e = absurd (same_not a b h (omega (arith, signed)))

pub same_comm : (a b : ℤ) → eq_z a b ≡ eq_z b a
same_comm a b = same_truth _ _ (λ h. is_same b a (sym (same_is a b h))) (λ h. is_same a b (sym (same_is b a h)))
