-- Several numbers one after the other: their fields, or numbers from 0 on in any number of columns.
-- Assumes nothing.
use Rattle.std.specs.Prelude.{◌≡◌, Bool, true, List, [], ◌∷◌, ◌++◌, ℕ, ◌+◌, ◌*◌, ◌≤◌, ℤ, pos, length, get_or}
use Rattle.ints.specs.Lists.{every}
use Rattle.fields.specs.Fields.{width, digits, justified, field_of, is_writable}

unfoldable pub fields : List ℤ → List ℕ
fields [] = []
fields (z ∷ zs) = field_of z ++ fields zs

abbrev pub are_writable : List ℤ → Bool
are_writable = every is_writable

-- the i-th of some numbers, from 0 on; 0 where none are left
abbrev pub nth : List ℤ → ℕ → ℤ
nth numbers i = get_or numbers i (pos 0)

-- numbers that a line may have, and room for their fields from a place on
pub record FieldsRoom (at : ℕ) (numbers : List ℤ) (out : List ℕ) : Type 0 where
  pub room : at + width * length numbers ≤ length out
  pub writable : are_writable numbers ≡ true

-- numbers from 0 on, each in so many columns
unfoldable pub in_columns : ℕ → List ℕ → List ℕ
in_columns columns [] = []
in_columns columns (n ∷ ns) = justified columns (digits columns n) ++ in_columns columns ns

-- a 16-bit number has up to five digits
abbrev pub short_digits : ℕ
short_digits = 5

-- columns for any 16-bit number, and room for them from a place on
pub record ColumnsRoom (at columns : ℕ) (numbers out : List ℕ) : Type 0 where
  pub wide : short_digits ≤ columns
  pub room : at + columns * length numbers ≤ length out
