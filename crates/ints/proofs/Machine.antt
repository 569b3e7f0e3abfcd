-- Whole numbers in machine words. A signed local holds bits, so a number of the code stands in a need as what the machine reads back from
-- its bits, `back w z`. The laws below take that away, each once over the width w. Their premises have the form in which a need has them
-- (`mag z < 2 ^ hbits w`: the range of a parameter, a field, an element or a result), so that `search` finds them.
-- Assumes nothing.
use mathlib.Core.Path.{◌≡◌, sym, ap, ◌∙◌, subst}
use mathlib.Core.Bool.{Bool, true, false, ◌&&◌, ◌||◌}
use Prim.Native.Nat.{◌+◌, ◌≤◌, ◌<◌, ◌^◌, min}
use native.Mathlib.Omega.{arith}
use lib.Dec.{T, leb}
use lib.IntN.{ℤ, pos, negsuc, nat_abs}
use lib.Pow.{pow_pos}
use lib.Signed.{mag, le_z, non_neg}
use borrow.Author.Rules.{sfits_of}
use mir.Syntax.{Width}
use mir.Val.{SFits, hbits, to_z, of_z}
use mir.Facts.{to_z-of_z, sfits_widen}
use Rattle.ints.specs.Whole.{min_z, max_z}
use Rattle.ints.proofs.Parts.{up, down, one_part, abs, nonneg_is}

-- what the machine reads back from the bits of z
abbrev pub back : Width → ℤ → ℤ
back w z = to_z w (of_z w z)

-- ---- what fits a width

pub fits : {w : Width} {z : ℤ} → (up z < 2 ^ hbits w + down z) × (down z ≤ 2 ^ hbits w + up z) → SFits w z
fits {z = pos n} h = record { sfits = omega arith }
fits {z = negsuc n} h = record { sfits = omega arith }

pub of_fits : (w : Width) (z : ℤ) → SFits w z → (up z < 2 ^ hbits w) × (down z ≤ 2 ^ hbits w)
of_fits w (pos n) h = omega (arith, pow_pos (hbits w))
of_fits w (negsuc n) h = omega (arith, pow_pos (hbits w))

-- a number that fits is read back as it is
pub held : (w : Width) (z : ℤ) → mag z < 2 ^ hbits w → back w z ≡ z
held w z h = to_z-of_z {w = w} {z = z} (record { sfits = h })

-- all that omega is to know of a number that fits, and of what the machine reads back from its bits
pub record Known (w : Width) (z : ℤ) : Type 0 where
  pub back_up : up (back w z) ≡ up z
  pub back_down : down (back w z) ≡ down z
  pub back_abs : nat_abs (back w z) ≡ up z + down z
  pub size : nat_abs z ≡ up z + down z
  pub above : up z < 2 ^ hbits w
  pub below : down z ≤ 2 ^ hbits w
  pub part : min (up z) (down z) ≡ 0

pub known : {w : Width} {z : ℤ} → SFits w z → Known w z
known {w} {z} f =
    let b = to_z-of_z f in
    record {
      back_up = ap up b;
      back_down = ap down b;
      back_abs = ap nat_abs b ∙ abs z;
      size = abs z;
      above = (of_fits w z f).0;
      below = (of_fits w z f).1;
      part = one_part z;
    }

-- ---- a cast from a signed type w to one at least as wide, w'

pub wide_fits : (w w' : Width) → T (leb (hbits w) (hbits w')) → (z : ℤ) → mag z < 2 ^ hbits w → SFits w' (back w z)
wide_fits w w' t z h = subst (SFits w') (sym (held w z h)) (sfits_widen t (sfits_of {w = w} {z = z} h))

pub wide_back : (w w' : Width) → T (leb (hbits w) (hbits w')) → (z : ℤ) → mag z < 2 ^ hbits w → back w' (back w z) ≡ z
wide_back w w' t z h = to_z-of_z {w = w'} (wide_fits w w' t z h) ∙ held w z h

-- ---- calls: r is the result, and the ensures e speaks of the arguments as the machine read them
-- `got` where it names no number of the machine's; `called` where the result is a number; `tested` where it is a test or a struct

pub got : (w : Width) (r x : ℤ) → mag r < 2 ^ hbits w → r ≡ x → back w r ≡ x
got w r x k e = held w r k ∙ e

module _ {X : Type 0} (w : Width) where
  pub tested₁ : (f : ℤ → X) (r : X) (x : ℤ) → r ≡ f (back w x) → mag x < 2 ^ hbits w → r ≡ f x
  tested₁ f r x e h = e ∙ ap f (held w x h)

  pub tested₂ : (f : ℤ → ℤ → X) (r : X) (x y : ℤ) → r ≡ f (back w x) (back w y) → mag x < 2 ^ hbits w → mag y < 2 ^ hbits w → r ≡ f x y
  tested₂ f r x y e h g = e ∙ (λ i. f (held w x h i) (held w y g i))

  pub tested₃ : (f : ℤ → ℤ → ℤ → X) (r : X) (x y z : ℤ) → r ≡ f (back w x) (back w y) (back w z) → mag x < 2 ^ hbits w → mag y < 2 ^ hbits w → mag z < 2 ^ hbits w → r ≡ f x y z
  tested₃ f r x y z e h g l = e ∙ (λ i. f (held w x h i) (held w y g i) (held w z l i))

pub called₁ : (w w' : Width) (f : ℤ → ℤ) (r x : ℤ) → mag r < 2 ^ hbits w' → r ≡ f (back w x) → mag x < 2 ^ hbits w → back w' r ≡ f x
called₁ w w' f r x k e h = held w' r k ∙ tested₁ w f r x e h

pub called₂ : (w : Width) (f : ℤ → ℤ → ℤ) (r x y : ℤ) → mag r < 2 ^ hbits w → r ≡ f (back w x) (back w y) → mag x < 2 ^ hbits w → mag y < 2 ^ hbits w → back w r ≡ f x y
called₂ w f r x y k e h g = held w r k ∙ tested₂ w f r x y e h g

-- two tests joined by &&, of which the first passed (both) or failed (neither)
pub both : (r s p q : Bool) → r ≡ true → r ≡ p → s ≡ q → s ≡ p && q
both r s p q t e h = simp (sym e ∙ t, sym h)

pub neither : (r p q : Bool) → r ≡ false → r ≡ p → r ≡ p && q
neither r p q t e = simp (sym e ∙ t, t)

-- two tests joined by ||, of which the first passed (either) or failed (otherwise)
pub either : (r p q : Bool) → r ≡ true → r ≡ p → r ≡ p || q
either r p q t e = simp (sym e ∙ t, t)

pub otherwise : (r s p q : Bool) → r ≡ false → r ≡ p → s ≡ q → s ≡ p || q
otherwise r s p q t e h = simp (sym e ∙ t, sym h)

-- ---- tests in the code, of numbers in locals or fields

pub and_taken : (w : Width) (a b c d : ℤ) → le_z (back w a) (back w b) ≡ true → mag a < 2 ^ hbits w → mag b < 2 ^ hbits w → mag c < 2 ^ hbits w → mag d < 2 ^ hbits w
    → le_z (back w c) (back w d) ≡ le_z a b && le_z c d
and_taken w a b c d e ha hb hc hd = simp (held w c hc, held w d hd, simp (held w a ha, held w b hb) at e)

pub and_left : (w : Width) (a b : ℤ) (t : Bool) → le_z (back w a) (back w b) ≡ false → mag a < 2 ^ hbits w → mag b < 2 ^ hbits w → le_z (back w a) (back w b) ≡ le_z a b && t
and_left w a b t e ha hb = e ∙ simp (simp (held w a ha, held w b hb) at e)

pub min_taken : (w : Width) (a b : ℤ) → le_z (back w a) (back w b) ≡ true → mag a < 2 ^ hbits w → mag b < 2 ^ hbits w → back w a ≡ min_z a b
unfolding min_z
min_taken w a b e ha hb = simp (held w a ha, simp (held w a ha, held w b hb) at e)

pub min-left : (w : Width) (a b : ℤ) → le_z (back w a) (back w b) ≡ false → mag a < 2 ^ hbits w → mag b < 2 ^ hbits w → back w b ≡ min_z a b
unfolding min_z
min-left w a b e ha hb = simp (held w b hb, simp (held w a ha, held w b hb) at e)

pub max_taken : (w : Width) (a b : ℤ) → le_z (back w a) (back w b) ≡ true → mag a < 2 ^ hbits w → mag b < 2 ^ hbits w → back w b ≡ max_z a b
unfolding max_z
max_taken w a b e ha hb = simp (held w b hb, simp (held w a ha, held w b hb) at e)

pub max-left : (w : Width) (a b : ℤ) → le_z (back w a) (back w b) ≡ false → mag a < 2 ^ hbits w → mag b < 2 ^ hbits w → back w a ≡ max_z a b
unfolding max_z
max-left w a b e ha hb = simp (held w a ha, simp (held w a ha, held w b hb) at e)

-- what `search reads` closes: a local read back, two tests joined, the lesser or the greater picked by a test
pub ruleset reads = (held, and_taken, and_left, min_taken, min-left, max_taken, max-left)

-- a number between two literals
pub between_taken : (w : Width) (z low high : ℤ) → le_z low (back w z) ≡ true → mag z < 2 ^ hbits w → le_z (back w z) high ≡ le_z low z && le_z z high
between_taken w z low high e h = simp (held w z h, simp (held w z h) at e)

pub between_left : (w : Width) (z low : ℤ) (t : Bool) → le_z low (back w z) ≡ false → mag z < 2 ^ hbits w → le_z low (back w z) ≡ le_z low z && t
between_left w z low t e h = e ∙ simp (simp (held w z h) at e)

pub ruleset ranges = (between_taken, between_left)

pub sign_taken : (w : Width) (z : ℤ) (t : Bool) → le_z (pos 0) (back w z) ≡ t → mag z < 2 ^ hbits w → non_neg z ≡ t
sign_taken w z t e h = sym (nonneg_is z) ∙ simp (held w z h) at e
