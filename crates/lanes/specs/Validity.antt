-- Rows judged in lanes: each place of a block is judged as if a row started there, and the lanes in which rows do start count. A block is told from an empty
-- one number by number.
-- Assumes nothing.
use Rattle.std.specs.Prelude.{◌≡◌, Bool, true, false, ◌&&◌, List, ℕ, zero, suc, ◌+◌, ◌*◌, ◌-◌, ◌<◌, ℤ, pos, length, get_or}
use Rattle.ints.specs.Whole.{eq_z}
use Rattle.rows.specs.Row.{valid_row}
use Rattle.rows.specs.Table.{row_words, row_from, empty_rows}

-- the rows of a block, its places, which are its numbers, and the numbers that these take in
abbrev pub block_rows : ℕ
block_rows = 8

abbrev pub places : ℕ
places = row_words * block_rows

abbrev pub place_words : ℕ
place_words = places + row_words - 1

-- whether two lists have the same numbers at their first n places
unfoldable pub same_up_to : ℕ → List ℤ → List ℤ → Bool
same_up_to zero a b = true
same_up_to (suc n) a b = same_up_to n a b && eq_z (get_or a n (pos 0)) (get_or b n (pos 0))

-- each lane is valid where a row that started at its place would be
pub record Judged (words : List ℤ) (valid : List Bool) : Type 0 where
  pub each : (j : ℕ) → j < places → get_or valid j false ≡ valid_row (row_from words j)

-- the lanes in which n rows start, from row j on
unfoldable pub row_lanes_from : ℕ → ℕ → List Bool → Bool
row_lanes_from zero j valid = true
row_lanes_from (suc n) j valid = get_or valid (row_words * j) false && row_lanes_from n (suc j) valid

-- the lanes in which rows start
abbrev pub row_lanes_valid : List Bool → Bool
row_lanes_valid = row_lanes_from block_rows 0

-- what judging a block asks for: its places' numbers, and an empty block to compare it with
pub record CanJudgeBlock (words empty : List ℤ) : Type 0 where
  pub long : length words ≡ place_words
  pub none : empty ≡ empty_rows block_rows
