-- What the functions over a lent table ask of it: its length, one of the three slots, a curve number of the grid; and what a row's axis is asked.
-- Assumes nothing.
use Rattle.std.specs.Prelude.{◌≡◌, Bool, ◌&&◌, List, ℕ, ◌<◌, ℤ, length}
use Rattle.ints.specs.Whole.{eq_z}
use Rattle.grid.specs.Units.{cells}
use Rattle.rows.specs.Phases.{slots}
use Rattle.rows.specs.Row.{empty_row}
use Rattle.rows.specs.Table.{table_words}

pub record HasSlot (table : List ℤ) (slot : ℕ) : Type 0 where
  pub whole_table : length table ≡ table_words
  pub one_of_three : slot < slots

pub record HasRow (table : List ℤ) (slot number : ℕ) : Type 0 where
  pub whole_table : length table ≡ table_words
  pub one_of_three : slot < slots
  pub number_on : number < cells

-- an axis of a row as an empty row has it
abbrev pub empty_axis : ℤ → ℤ → Bool
empty_axis least greatest = eq_z least empty_row.least_vx && eq_z greatest empty_row.greatest_vx
