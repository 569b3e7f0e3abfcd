-- What an aim of any kind must have for the methods to be nested, to take few rounds and to miss no float. Exactness is more, and not asked here.
-- Assumes nothing.
use Rattle.std.specs.Prelude.{◌≡◌, Bool, true, false}
use mathlib.Core.List.{Memᴰ}
use Rattle.std.specs.Int.Signed.{le_z}
use Rattle.grid.specs.Places.{OnGrid}
use Rattle.grid.specs.declared.Cell.{Cell}
use Rattle.grid.specs.declared.Rect.{Rect}
use Rattle.rows.specs.Row.{joined, is_empty, valid_row}
use Rattle.rows.specs.declared.Row.{Row}
use Rattle.methods.specs.Reach.{block_of, cells_of}
use Rattle.methods.specs.Aims.{Aim, Placed, own_cell, held_by}

-- a rectangle with its corners in order
pub record InOrder (q : Rect) : Type 0 where
  pub x_ordered : le_z q.x.low q.x.high ≡ true
  pub y_ordered : le_z q.y.low q.y.high ≡ true

-- a rectangle that lies in another
pub record RectWithin (a b : Rect) : Type 0 where
  pub x_from : le_z b.x.low a.x.low ≡ true
  pub x_to : le_z a.x.high b.x.high ≡ true
  pub y_from : le_z b.y.low a.y.low ≡ true
  pub y_to : le_z a.y.high b.y.high ≡ true

-- expanded by valid bounds that are not missing, the corners are in order; expanded by bounds that hold others, the rectangle holds theirs; and a cell
-- that meets by its row lies in the block of the rectangle expanded by that row
pub record Fair (aim : Aim) : Type 0 where
  pub ordered : (w : Row) → valid_row w ≡ true → is_empty w ≡ false → InOrder (aim.expanded w)
  pub grows : (v w : Row) → joined v w ≡ w → RectWithin (aim.expanded v) (aim.expanded w)
  pub in_own_block : (c : Cell) → OnGrid c → (w : Row) → aim.meets c w ≡ true → Memᴰ c (cells_of (block_of (aim.expanded w)))

-- a float that is inside, by what the ask calls inside, and whose speeds a row holds, lies in a cell that meets by that row
pub record Sees (aim : Aim) (inside : Placed → Bool) : Type 0 where
  pub own_cell-meets : (f : Placed) (w : Row) → held_by w f ≡ true → inside f ≡ true → aim.meets (own_cell f) w ≡ true
