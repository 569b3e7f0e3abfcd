-- The cells of the grid by place, row by row from the low corner, those whose rows are nonempty, those of them that meet the rectangle; and what the
-- functions of reached ask.
-- Assumes nothing.
use Rattle.std.specs.Prelude.{◌≡◌, Bool, not, ℕ, zero, suc, ◌/◌, ◌%◌, ◌≤◌, ◌<◌, ℤ, length, get_or, take}
use mathlib.Core.List.{List, [], ◌∷◌, map, Memᴰ}
use Rattle.ints.specs.Lists.{passing}
use Rattle.grid.specs.Units.{side, cells}
use Rattle.grid.specs.Curve.{cell}
use Rattle.grid.specs.declared.Cell.{Cell}
use Rattle.rows.specs.Row.{is_empty}
use Rattle.methods.specs.Aims.{Aim}
use Rattle.methods.specs.Claims.{ValidRows}
use Rattle.methods.specs.Methods.{Rows}
use Rattle.methods.specs.declared.View.{View}
use Rattle.reaching.specs.Reaching.{IsViewAsk, column_reaches}
use Rattle.choosing.specs.Bounds.{IsSlot}
use Rattle.choosing.specs.Mark.{no_marks}

-- ---- places

-- the cell at a place
abbrev pub cell_at : ℕ → Cell
cell_at place = cell (place % side) (place / side)

-- the n places from `place` on, and those of all cells
unfoldable pub places_from : ℕ → ℕ → List ℕ
places_from place zero = []
places_from place (suc n) = place ∷ places_from (suc place) n

abbrev pub places : List ℕ
places = places_from 0 cells

-- those whose cells have a nonempty row
abbrev pub has_row : Rows → ℕ → Bool
has_row rows place = not (is_empty (rows (cell_at place)))

abbrev pub nonempty : Rows → List ℕ → List ℕ
nonempty rows = passing (has_row rows)

-- the cells at some places that, moved by their rows' speeds, meet the rectangle
abbrev pub meeting : Rows → Aim → List ℕ → List Cell
meeting rows aim ps = passing (λ c. aim.meets c (rows c)) (map cell_at ps)

-- whether the column of the cell at a place, moved by its row's speeds, meets the rectangle's width
abbrev pub may_meet : Rows → View → ℕ → Bool
may_meet rows v place = column_reaches v (cell_at place) (rows (cell_at place))

-- ---- what the functions ask

pub record IsPlace (place : ℕ) : Type 0 where
  pub within : place < cells

-- no mark is anything but 0 or 1
abbrev pub Bits : List ℕ → Type 0
Bits marks = (n : ℕ) → n < length marks → get_or marks n 0 ≤ 1

-- what a list of nonempty places is: over its front all of them
pub record ListsNonempty (rows : Rows) (full : List ℕ) (k : ℕ) : Type 0 where
  pub room : k ≤ length full
  pub places_are : take k full ≡ nonempty rows places

pub record CanTestPlace (rows : Rows) (v : View) (place : ℕ) : Type 0 where
  pub valid : ValidRows rows
  pub ask : IsViewAsk v
  pub is_place : IsPlace place

-- a list has places alone
abbrev pub ArePlaces : List ℕ → Type 0
ArePlaces ps = (place : ℕ) → Memᴰ place ps → place < cells

pub record CanKeep (rows : Rows) (v : View) (listed kept : List ℕ) : Type 0 where
  pub valid : ValidRows rows
  pub ask : IsViewAsk v
  pub all_places : ArePlaces listed
  pub few : length listed ≤ cells
  pub one_each : length kept ≡ cells

-- what is kept of some places, over the front of a list
pub record KeepsColumns (rows : Rows) (v : View) (ps kept : List ℕ) (m : ℕ) : Type 0 where
  pub room : m ≤ length kept
  pub kept_are : take m kept ≡ passing (may_meet rows v) ps

pub record CanMarkPlace (rows : Rows) (v : View) (place : ℕ) (marks : List ℕ) : Type 0 where
  pub valid : ValidRows rows
  pub ask : IsViewAsk v
  pub is_place : IsPlace place
  pub one_each : length marks ≡ cells
  pub bits : Bits marks

pub record CanMarkListed (rows : Rows) (v : View) (listed marks : List ℕ) : Type 0 where
  pub valid : ValidRows rows
  pub ask : IsViewAsk v
  pub all_places : ArePlaces listed
  pub one_each : length marks ≡ cells
  pub bits : Bits marks

pub record CanMarkReached (rows : Rows) (v : View) (marks : List ℕ) : Type 0 where
  pub valid : ValidRows rows
  pub ask : IsViewAsk v
  pub none_set : marks ≡ no_marks

-- the same, where a table and a slot are lent
pub record CanMarkReachedInSlot (table : List ℤ) (slot : ℕ) (v : View) (marks : List ℕ) : Type 0 where
  pub of_slot : IsSlot table slot
  pub ask : IsViewAsk v
  pub none_set : marks ≡ no_marks
