-- A slot of a table of valid rows, a block on the grid, and what the functions of bounds ask.
-- Assumes nothing.
use Rattle.std.specs.Prelude.{◌≡◌, true, List, ℕ, ◌+◌, ◌-◌, ◌*◌, ◌≤◌, ◌<◌, ℤ}
use Rattle.grid.specs.Units.{side}
use Rattle.grid.specs.Places.{OnGrid}
use Rattle.grid.specs.Curve.{IsCurve}
use Rattle.grid.specs.declared.Cell.{Cell}
use Rattle.rows.specs.Table.{valid_table}
use Rattle.rows.specs.Needs.{HasSlot}
use Rattle.rows.specs.declared.Row.{Row}
use Rattle.methods.specs.Reach.{columns_of}
use Rattle.methods.specs.BoundsInOnePass.{cell_count, bounds_after}
use Rattle.methods.specs.Methods.{Rows}
use Rattle.methods.specs.declared.Block.{Block}

-- a slot of a table of valid rows
pub record IsSlot (table : List ℤ) (slot : ℕ) : Type 0 where
  pub has_slot : HasSlot table slot
  pub valid_rows : valid_table table ≡ true

-- a block whose cells are on the grid
pub record BlockOnGrid (b : Block) : Type 0 where
  pub columns_on : b.last_column < side
  pub rows_on : b.last_row < side

-- to find the row of one cell
pub record CanReadCell (numbers : List ℕ) (table : List ℤ) (slot : ℕ) (c : Cell) : Type 0 where
  pub curve : IsCurve numbers
  pub has_slot : HasSlot table slot
  pub on_grid : OnGrid c

-- to find the bounds of the rows of a block's first k cells
pub record CanBoundAfter (k : ℕ) (b : Block) : Type 0 where
  pub block_on : BlockOnGrid b
  pub of_its_cells : k ≤ cell_count b

-- to find the bounds of a block's rows, and those after the first k of its cells, where a table and a slot are lent

pub record CanBound (table : List ℤ) (slot : ℕ) (b : Block) : Type 0 where
  pub has_slot : HasSlot table slot
  pub block_on : BlockOnGrid b

pub record CanBoundAfterInSlot (k : ℕ) (table : List ℤ) (slot : ℕ) (b : Block) : Type 0 where
  pub of_block : CanBound table slot b
  pub of_its_cells : k ≤ cell_count b

-- how many cells the block's rows before a row have
abbrev pub cells_before : Block → ℕ → ℕ
cells_before b row = (row - b.first_row) * columns_of b

-- to go on by the first n cells of a row
pub record CanGoOn (rows : Rows) (b : Block) (row n : ℕ) (before : Row) : Type 0 where
  pub block_on : BlockOnGrid b
  pub from_first : b.first_row ≤ row
  pub in_row : n ≤ columns_of b
  pub of_its_cells : cells_before b row + n ≤ cell_count b
  pub so_far : before ≡ bounds_after (cells_before b row) rows b
