-- How a number is read. That a written number is read, and that one that is read is written so, is proved in proofs/FieldsLaws.antt.
-- Assumes nothing.
use Rattle.std.specs.Prelude.{Bool, true, false, cond, ◌&&◌, List, ℕ, zero, suc, ◌+◌, ◌-◌, ◌*◌, eqb, leb, Option, Some, None, ℤ, pos, neg_ℤ, get_or}
use Prim.Native.Char.{code}
use Rattle.fields.specs.declared.reading.Seen.{Seen}
use Rattle.fields.specs.declared.reading.Seen.TheVariants.{Blanks, Minus, Zero, Digits, Other}
use Rattle.fields.specs.Fields.{width, greatest, least_size}

-- the number of the digits read so far
abbrev pub size_seen : Seen → ℕ
size_seen Blanks = 0
size_seen Minus = 0
size_seen Zero = 0
size_seen (Digits negative n) = n
size_seen Other = 0

-- one more digit
unfoldable pub with_digit : Bool → ℕ → ℕ → Seen
with_digit negative n b = cond (leb (code "0") b && leb b (code "9")) (Digits negative (10 * n + (b - code "0"))) Other

-- what is seen with one byte more: blanks, then "-" or none, then digits of which the first is not 0; or 0 alone
unfoldable pub after : Seen → ℕ → Seen
after Blanks b =
    cond (eqb b (code " ")) Blanks (cond (eqb b (code "-")) Minus (cond (eqb b (code "0")) Zero (with_digit false 0 b)))
after Minus b = cond (eqb b (code "0")) Other (with_digit true 0 b)
after Zero b = Other
after (Digits negative n) b = with_digit negative n b
after Other b = Other

-- a number that a line may have
unfoldable pub number_of : Seen → Option ℤ
number_of Blanks = None
number_of Minus = None
number_of Zero = Some (pos 0)
number_of (Digits false n) = cond (leb n greatest) (Some (pos n)) None
number_of (Digits true n) = cond (leb n least_size) (Some (neg_ℤ (pos n))) None
number_of Other = None

-- what the k bytes from a place on are
unfoldable pub seen_at : List ℕ → ℕ → ℕ → Seen
seen_at line at zero = Blanks
seen_at line at (suc k) = after (seen_at line at k) (get_or line (at + k) 0)

-- the field that starts at a place of a line
abbrev pub field_at : List ℕ → ℕ → Option ℤ
field_at line at = number_of (seen_at line at width)

-- ---- numbers from 0 on, which may be greater than a line's

-- 0, or digits without "-"
unfoldable pub unsigned_of : Seen → Option ℕ
unsigned_of Blanks = None
unsigned_of Minus = None
unsigned_of Zero = Some 0
unsigned_of (Digits false n) = Some n
unsigned_of (Digits true n) = None
unsigned_of Other = None

-- the one whose columns start at a place of a line
abbrev pub unsigned_at : List ℕ → ℕ → Option ℕ
unsigned_at line at = unsigned_of (seen_at line at width)
