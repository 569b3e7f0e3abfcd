-- What the functions of mark ask, and what marking some cells comes to.
-- Assumes nothing.
use Rattle.std.specs.Prelude.{◌≡◌, List, ℕ, ◌<◌, length, replicate}
use Rattle.grid.specs.Units.{side, cells}
use Rattle.grid.specs.Places.{OnGrid}
use Rattle.grid.specs.declared.Cell.{Cell}
use Rattle.methods.specs.Claims.{ValidRows}
use Rattle.methods.specs.Marks.{with_cells}
use Rattle.methods.specs.Methods.{Rows}
use Rattle.methods.specs.declared.Block.{Block}
use Rattle.methods.specs.declared.View.{View}
use Rattle.reaching.specs.Reaching.{IsViewAsk}
use Rattle.choosing.specs.Bounds.{BlockOnGrid}

-- no mark is set
unfoldable pub no_marks : List ℕ
no_marks = replicate cells 0

-- the marks of some cells are set
pub record Marked (before : List ℕ) (cs : List Cell) (after : List ℕ) : Type 0 where
  pub marks_are : after ≡ with_cells before cs

-- ---- to mark a block, one row of its cells, and one cell; there is a mark for each cell of the grid

pub record CanMarkBlock (b : Block) (marks : List ℕ) : Type 0 where
  pub block_on : BlockOnGrid b
  pub one_each : length marks ≡ cells

pub record CanMarkRow (b : Block) (row : ℕ) (marks : List ℕ) : Type 0 where
  pub of_block : CanMarkBlock b marks
  pub row_on : row < side

pub record CanMarkCell (c : Cell) (marks : List ℕ) : Type 0 where
  pub on_grid : OnGrid c
  pub one_each : length marks ≡ cells

-- ---- to search from a block

pub record CanSearch (rows : Rows) (v : View) (b : Block) : Type 0 where
  pub valid : ValidRows rows
  pub ask : IsViewAsk v
  pub block_on : BlockOnGrid b
