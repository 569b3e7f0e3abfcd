-- The operations on whole numbers that the definitions of the other crates use: the two parts, the lesser and the greater of two, a test "from low to high",
-- rounding down, and raising to 0 or lowering to a last number. Their laws are in proofs/.
-- Assumes nothing.
use Rattle.std.specs.Prelude.{Bool, cond, ◌&&◌, ℕ, suc, min, ℤ, pos, negsuc}
use Rattle.std.specs.Int.Signed.{le_z, shr_z}

-- the part of z above 0: z where it is not below 0, else 0
abbrev pub up : ℤ → ℕ
up (pos n) = n
up (negsuc n) = 0

-- the part of z below 0: -z where it is below 0, else 0
abbrev pub down : ℤ → ℕ
down (pos n) = 0
down (negsuc n) = suc n

-- the lesser of two
unfoldable pub min_z : ℤ → ℤ → ℤ
min_z a b = cond (le_z a b) a b

-- the greater of two
unfoldable pub max_z : ℤ → ℤ → ℤ
max_z a b = cond (le_z a b) b a

-- whether two are the same number
unfoldable pub eq_z : ℤ → ℤ → Bool
eq_z a b = le_z a b && le_z b a

-- whether z is from low to high, both included
abbrev pub between : ℤ → ℤ → ℤ → Bool
between low high z = le_z low z && le_z z high

-- z / m, rounded toward minus infinity
abbrev pub floor_z : ℤ → ℕ → ℤ
floor_z = shr_z

-- z raised to 0 or lowered to last
abbrev pub raised_or_lowered : ℕ → ℤ → ℕ
raised_or_lowered last (pos n) = min last n
raised_or_lowered last (negsuc n) = 0
