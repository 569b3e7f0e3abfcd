-- How a number stands in a line: document 01, "Lines". A byte is a number.
-- Assumes nothing.
use Rattle.std.specs.Prelude.{Bool, cond, List, [], ◌∷◌, ◌++◌, ℕ, zero, suc, ◌+◌, ◌-◌, ◌/◌, ◌%◌, ltb, ℤ, pos, negsuc, neg_ℤ, length, replicate}
use Prim.Native.Char.{code}
use Rattle.ints.specs.Whole.{between}

-- the columns of a number in a line
abbrev pub width : ℕ
width = 10

-- the digit d, from 0 to 9
abbrev pub digit : ℕ → ℕ
digit d = code "0" + d

-- the decimal digits of n, which has at most k: the last one after those of n / 10, and no leading zeros
unfoldable pub digits : ℕ → ℕ → List ℕ
digits zero n = []
digits (suc k) n = cond (ltb n 10) (digit n ∷ []) (digits k (n / 10) ++ digit (n % 10) ∷ [])

-- "-" before a number below 0
unfoldable pub written : ℤ → List ℕ
written (pos n) = digits width n
written (negsuc n) = code "-" ∷ digits width (suc n)

-- a text at the end of so many columns
abbrev pub justified : ℕ → List ℕ → List ℕ
justified columns text = replicate (columns - length text) (code " ") ++ text

unfoldable pub field_of : ℤ → List ℕ
field_of z = justified width (written z)

-- the greatest number that a line may have, and the size of the least
abbrev pub greatest : ℕ
greatest = 2147483647

abbrev pub least_size : ℕ
least_size = 999999999

abbrev pub is_writable : ℤ → Bool
is_writable = between (neg_ℤ (pos least_size)) (pos greatest)
