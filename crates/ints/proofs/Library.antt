-- The library's equality, lesser and greater of whole numbers are those of the definitions, so a proof over `==`, `min` and `max` cites the laws of these.
-- Assumes nothing.
use mathlib.Core.Path.{◌≡◌, sym, ap, ◌∙◌}
use Rattle.std.proofs.Common.{arith, eq-eqb, nat_eq, of_z, to_z}
use borrow.Author.Tests.{eqb-true}
use Rattle.std.proofs.lemmas.Int.{ints}
use Rattle.std.specs.Int.{int_min, int_max}
use Rattle.std.specs.Ordering.{int_eq}
use Rattle.std.proofs.lemmas.Bool.Decides.{Decides-int_eq}
use lib.IntN.{ℤ}
use mir.Syntax.{Width}
use mir.Val.{SFits}
use mir.Facts.{to_z-of_z}
use Rattle.ints.specs.Whole.{min_z, max_z, eq_z}
use Rattle.ints.proofs.Same.{same_is, is_same}
use Rattle.ints.proofs.Truth.{same_truth}

pub min-is : (a b : ℤ) → int_min a b ≡ min_z a b
unfolding min_z
min-is a b = grind (arith, ints)

pub max_is : (a b : ℤ) → int_max a b ≡ max_z a b
unfolding max_z
max_is a b = grind (arith, ints)

pub equal_is : (a b : ℤ) → int_eq a b ≡ eq_z a b
unfolding eq_z
equal_is a b = grind (arith, ints)

-- numbers that fit, compared by their bits
pub bits_equal : {w : Width} {a b : ℤ} → SFits w a → SFits w b → nat_eq (of_z w a) (of_z w b) ≡ eq_z a b
bits_equal {w} {a} {b} f g =
    same_truth _ _ (λ h. is_same a b (sym (to_z-of_z f) ∙ ap (to_z w) (eqb-true _ _ h) ∙ to_z-of_z g))
    (λ h. eq-eqb _ _ (ap (of_z w) (same_is a b h)))
