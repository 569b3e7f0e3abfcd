-- The product of two numbers of 32 bits is one of 64.
-- Assumes nothing.
use Rattle.std.proofs.Common.{ℕ, ◌*◌, ◌≤◌, mul-le-mul}

-- the greatest number of 32 bits
abbrev top : ℕ
top = 4294967295

pub product_fits : (a b : ℕ) → a ≤ top → b ≤ top → a * b ≤ top * top
product_fits a b h k = mul-le-mul h k
