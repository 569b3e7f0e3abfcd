-- What the contracts of the writing functions cite: the columns of a number from the right to the left. That the columns are the number's field
-- is proved in proofs/WritingLaws.antt.
-- Assumes nothing.
use Rattle.std.specs.Prelude.{◌≡◌, true, cond, List, [], ◌∷◌, ◌++◌, ℕ, zero, suc, ◌+◌, ◌-◌, ◌/◌, ◌%◌, ◌≤◌, eqb, ℤ, pos, negsuc, length}
use Prim.Native.Char.{code}
use Rattle.fields.specs.Fields.{width, digit, is_writable}

-- the byte of a column, where n is what is left to write: its last digit, or `lead` where nothing is left
abbrev pub byte_of : ℕ → ℕ → ℕ
byte_of lead n = cond (eqb n 0) lead (digit (n % 10))

-- what stands before the digits, once the column is written
abbrev pub lead_after : ℕ → ℕ → ℕ
lead_after lead n = cond (eqb n 0) (code " ") lead

-- k columns: the digits of n at their end, `lead` before these, and blanks before that
unfoldable pub columns_of : ℕ → ℕ → ℕ → List ℕ
columns_of zero lead n = []
columns_of (suc k) lead n = columns_of k (lead_after lead n) (n / 10) ++ byte_of lead n ∷ []

-- a number in so many columns: at least one digit
abbrev pub number_in : ℕ → ℕ → ℕ → List ℕ
number_in columns lead n = columns_of (columns - 1) lead (n / 10) ++ digit (n % 10) ∷ []

-- what stands before the digits of a number
abbrev pub lead_of : ℤ → ℕ
lead_of (pos n) = code " "
lead_of (negsuc n) = code "-"

-- a column for a digit, and room for all of them from a place on
pub record NumberRoom (at columns : ℕ) (out : List ℕ) : Type 0 where
  pub some : 1 ≤ columns
  pub room : at + columns ≤ length out

-- a number that a line may have, and room for its field from a place on
pub record FieldRoom (at : ℕ) (z : ℤ) (out : List ℕ) : Type 0 where
  pub room : at + width ≤ length out
  pub writable : is_writable z ≡ true
