-- Bounds in one pass: document 02, A2. The order in which a block's cells are visited, the bounds after the first k of them, and those of a block cut in
-- two. The proofs are in proofs/BoundsInOnePass.antt.
-- Assumes nothing.
use Rattle.std.specs.Prelude.{◌≡◌, true, map, ℕ, suc, ◌+◌, ◌*◌, ◌≤◌, ◌<◌, length, get_or, take}
use Rattle.ints.specs.Visits.{VisitedOnce}
use Rattle.grid.specs.Curve.{cell}
use Rattle.grid.specs.declared.Cell.{Cell}
use Rattle.rows.specs.Row.{joined, is_empty, bounds_of, Within}
use Rattle.rows.specs.declared.Row.{Row}
use Rattle.methods.specs.Reach.{columns_of, rows_of, cells_of, InBlock}
use Rattle.methods.specs.Methods.{Rows, bounds_in}
use Rattle.methods.specs.declared.Block.{Block}

-- ---- each cell of the block once, row by row from the low corner

abbrev pub cell_count : Block → ℕ
cell_count b = rows_of b * columns_of b

-- the cell that is visited after n others; there is one for each n below the count
abbrev pub visited : Block → ℕ → Cell
visited b n = get_or (cells_of b) n (cell 0 0)

-- as many visits as cells; after i whole rows and j cells more comes the cell of column j and row i, both counted from the low corner; no cell outside
-- the block is visited, and each of its own once
pub record RowByRow (b : Block) : Type 0 where
  pub as_many : length (cells_of b) ≡ cell_count b
  pub in_turn_lem : (i j : ℕ) → i < rows_of b → j < columns_of b → visited b (i * columns_of b + j) ≡ cell (b.first_column + j) (b.first_row + i)
  pub in_block : (n : ℕ) → n < cell_count b → InBlock b (visited b n)
  pub once : (c : Cell) → InBlock b c → VisitedOnce (cell_count b) (visited b) c

abbrev pub BlocksAreVisitedRowByRow : Type 0
BlocksAreVisitedRowByRow = (b : Block) → RowByRow b

-- ---- after the first k cells, for every k

-- the bounds of those cells' rows
unfoldable pub bounds_after : ℕ → Rows → Block → Row
bounds_after k rows b = bounds_of (map rows (take k (cells_of b)))

-- after all cells they are the block's
abbrev pub AfterAllCells : Type 0
AfterAllCells = (rows : Rows) (b : Block) → bounds_after (cell_count b) rows b ≡ bounds_in rows b

-- ---- a block cut in two

-- after a column and after a row: the part up to there, and the part from there on. After the last one the second part has no cell
abbrev pub up_to_column : ℕ → Block → Block
up_to_column column b = record { first_column = b.first_column; last_column = column; first_row = b.first_row; last_row = b.last_row }

abbrev pub after_column : ℕ → Block → Block
after_column column b = record { first_column = suc column; last_column = b.last_column; first_row = b.first_row; last_row = b.last_row }

abbrev pub up_to_row : ℕ → Block → Block
up_to_row row b = record { first_column = b.first_column; last_column = b.last_column; first_row = b.first_row; last_row = row }

abbrev pub after_row : ℕ → Block → Block
after_row row b = record { first_column = b.first_column; last_column = b.last_column; first_row = suc row; last_row = b.last_row }

-- the bounds of the whole are the join of both parts' bounds: they hold both, and whatever holds both holds them; a part without bounds adds nothing
pub record SmallestOfBoth (first second whole : Row) : Type 0 where
  pub is_join : whole ≡ joined first second
  pub holds_first : Within first whole
  pub holds_second : Within second whole
  pub smallest : (r : Row) → Within first r → Within second r → Within whole r
  pub first_adds_nothing : is_empty first ≡ true → whole ≡ second
  pub second_adds_nothing : is_empty second ≡ true → whole ≡ first

-- at any column and at any row
pub record CutInTwo (rows : Rows) (b : Block) : Type 0 where
  pub at_column :
      (column : ℕ)
      → b.first_column ≤ column
      → column ≤ b.last_column
      → SmallestOfBoth (bounds_in rows (up_to_column column b)) (bounds_in rows (after_column column b)) (bounds_in rows b)
  pub at_row :
      (row : ℕ)
      → b.first_row ≤ row
      → row ≤ b.last_row
      → SmallestOfBoth (bounds_in rows (up_to_row row b)) (bounds_in rows (after_row row b)) (bounds_in rows b)

abbrev pub BoundsOfCutBlocksJoin : Type 0
BoundsOfCutBlocksJoin = (rows : Rows) (b : Block) → CutInTwo rows b
