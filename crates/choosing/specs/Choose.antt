-- What the functions of choose ask, and what finding a block, searching and choosing come to.
-- Assumes nothing.
use Rattle.std.specs.Prelude.{◌≡◌, List, ℕ, ℤ, length, Option, None, Some, IfSome}
use Rattle.grid.specs.Units.{cells}
use Rattle.methods.specs.Aims.{Aim, aim_of}
use Rattle.methods.specs.Claims.{ValidRows}
use Rattle.methods.specs.Fair.{Fair}
use Rattle.methods.specs.Methods.{Rows, Found, missing, found, Search, choice}
use Rattle.methods.specs.Slots.{rows_of_slot}
use Rattle.methods.specs.Marks.{marks_of}
use Rattle.methods.specs.declared.Block.{Block}
use Rattle.methods.specs.declared.View.{View}
use Rattle.reaching.specs.Reaching.{IsViewAsk}
use Rattle.choosing.specs.Bounds.{IsSlot, BlockOnGrid}
use Rattle.choosing.specs.declared.Searched.{Searched}

-- ---- what is asked

-- to choose; by the optimal method a reached cell lies in the naive block, since the aim is fair
pub record CanChoose (table : List ℤ) (slot : ℕ) (v : View) (marks : List ℕ) : Type 0 where
  pub of_slot : IsSlot table slot
  pub ask : IsViewAsk v
  pub fair : Fair (aim_of v)
  pub one_each : length marks ≡ cells

-- to find the block of a method that reads one
pub record CanFind (rows : Rows) (v : View) : Type 0 where
  pub valid : ValidRows rows
  pub ask : IsViewAsk v

-- to mark the cells of a block, if there is one
pub record CanMarkFound (r : Option Block) (marks : List ℕ) : Type 0 where
  pub block_on : IfSome r BlockOnGrid
  pub one_each : length marks ≡ cells

-- ---- what is given back

-- a block or none
abbrev pub found_of : Option Block → Found
found_of None = missing
found_of (Some b) = found b

pub record FoundIs (r : Option Block) (f : Found) : Type 0 where
  pub found_is : found_of r ≡ f
  pub block_on : IfSome r BlockOnGrid

-- the iterative method's block or none, and its rounds
pub record SearchIs (r : Searched) (s : Search) : Type 0 where
  pub block_is : FoundIs r.found s.block
  pub rounds_are : r.rounds ≡ s.rounds

-- a method's choice: the marks of the chosen cells and the rounds, and no count of the cells
pub record ChosenBy (method : ℕ) (table : List ℤ) (slot : ℕ) (aim : Aim) (marks : List ℕ) (rounds : ℕ) : Type 0 where
  pub marks_are : marks ≡ marks_of (choice method (rows_of_slot table slot) aim).cells
  pub rounds_are : rounds ≡ (choice method (rows_of_slot table slot) aim).rounds
