-- A range's test of a whole number, as std states it: the two orders.
-- Assumes nothing.
use Rattle.std.proofs.Common.{◌≡◌, arith, ℤ, cond}
use Rattle.std.proofs.lemmas.Int.{ints}
use Rattle.std.specs.Int.Signed.{le_z, lt_z}
use Rattle.std.specs.Ordering.{is_le}
use Rattle.std.proofs.Common.{Less, Greater, Equal}

pub in_order_is : (a b : ℤ) → is_le (cond (lt_z a b) Less (cond (lt_z b a) Greater Equal)) ≡ le_z a b
in_order_is a b = grind (arith, ints)
