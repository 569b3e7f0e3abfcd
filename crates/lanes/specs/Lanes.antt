-- Rows seen in lanes: the numbers of 16 rows are folded into 64 least and 64 greatest, number by number, and lane row j has its least from the
-- one list and its greatest from the other.
-- Assumes nothing.
use Rattle.std.specs.Prelude.{◌≡◌, List, [], ◌∷◌, ℕ, zero, suc, ◌+◌, ◌*◌, ℤ, pos, get_or}
use Rattle.ints.specs.Whole.{min_z, max_z}
use Rattle.rows.specs.Row.{bounds_of}
use Rattle.rows.specs.Table.{row_words}
use Rattle.rows.specs.declared.Row.{Row}

-- the rows folded together, and their numbers
abbrev pub lane_row_count : ℕ
lane_row_count = 16

abbrev pub lanes : ℕ
lanes = row_words * lane_row_count

-- each number folded into the one in its place; where there are fewer numbers, the rest of the lanes stays
unfoldable pub folded : (ℤ → ℤ → ℤ) → List ℤ → List ℤ → List ℤ
folded f [] ls = ls
folded f (v ∷ vs) [] = []
folded f (v ∷ vs) (l ∷ ls) = f v l ∷ folded f vs ls

-- the numbers of some rows folded into both lists
pub record Folded (block least greatest least' greatest' : List ℤ) : Type 0 where
  pub as_least : least' ≡ folded min_z block least
  pub as_greatest : greatest' ≡ folded max_z block greatest

-- lane row j. Half of each list is never read: the least of the rows' greatest, and the greatest of their least
abbrev pub lane_row : List ℤ → List ℤ → ℕ → Row
lane_row least greatest j = record {
  least_vx = get_or least (row_words * j) (pos 0);
  greatest_vx = get_or greatest (row_words * j + 1) (pos 0);
  least_vy = get_or least (row_words * j + 2) (pos 0);
  greatest_vy = get_or greatest (row_words * j + 3) (pos 0);
}

-- n lane rows, from row j on
unfoldable pub lane_rows : List ℤ → List ℤ → ℕ → ℕ → List Row
lane_rows least greatest j zero = []
lane_rows least greatest j (suc n) = lane_row least greatest j ∷ lane_rows least greatest (suc j) n

-- the bounds of all lane rows
abbrev pub lane_bounds : List ℤ → List ℤ → Row
lane_bounds least greatest = bounds_of (lane_rows least greatest 0 lane_row_count)
