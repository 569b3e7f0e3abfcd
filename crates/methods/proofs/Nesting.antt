-- How the blocks of the methods lie in one another, for any fair aim: expanded by narrower bounds a rectangle has a smaller block, and the bounds of a
-- smaller block are narrower. So the blocks of the rounds shrink, and a cell that is reached stays in all of them.
-- Assumes nothing.
use mathlib.Core.Path.{◌≡◌, sym, ◌∙◌, subst}
use mathlib.Core.Bool.{true, false, not}
use mathlib.Core.List.Memᴰ
use mathlib.Core.List.{map, Memᴰ}
use Prim.Native.Nat.{ℕ, ◌+◌, ◌≤◌, ◌<◌}
use native.Mathlib.Omega.{arith}
use borrow.Author.Tests.{not-true}
use Rattle.ints.proofs.Parts.{true_false}
use Rattle.ints.proofs.Truth.{and_left, and_right}
use Rattle.grid.specs.Places.{OnGrid}
use Rattle.grid.specs.declared.Cell.{Cell}
use Rattle.grid.specs.declared.Rect.{Rect}
use Rattle.grid.proofs.PlacesLaws.{column_on}
use Rattle.rows.specs.Row.{is_empty, valid_row, Within}
use Rattle.rows.specs.declared.Row.{Row}
use Rattle.rows.proofs.RowLaws.{joined_absorbs, AllValid, bounds_hold, bounds_grow, bounds_valid, bounds_none}
use Rattle.methods.specs.Reach.{block_of, whole_grid, columns_of, rows_of, cells_of, InBlock}
use Rattle.methods.specs.Aims.{Aim}
use Rattle.methods.specs.Fair.{InOrder, RectWithin, Fair}
use Rattle.methods.specs.Methods.{Rows, bounds_in, phase_bounds, is_reached}
use Rattle.methods.specs.Claims.{ValidRows}
use Rattle.methods.specs.declared.Block.{Block}
use Rattle.methods.proofs.Axis.{column_grows}
use Rattle.methods.proofs.Blocks.{BlockWithin, cells_in, cells_within, within_grid_on}

-- ---- blocks of expanded rectangles

-- the block of the rectangle expanded by bounds that are not missing
abbrev pub expand : Aim → Row → Block
expand aim w = block_of (aim.expanded w)

pub record Ordered (b : Block) : Type 0 where
  pub columns : b.first_column ≤ b.last_column
  pub rows : b.first_row ≤ b.last_row

pub block_on : (r : Rect) → BlockWithin (block_of r) whole_grid
unfolding block_of
block_on r = omega (arith, column_on r.x.high, column_on r.y.high)

block_grows : {p q : Rect} → RectWithin p q → BlockWithin (block_of p) (block_of q)
unfolding block_of
block_grows h =
    record {
      columns_from = column_grows _ _ h.x_from;
      columns_to = column_grows _ _ h.x_to;
      rows_from = column_grows _ _ h.y_from;
      rows_to = column_grows _ _ h.y_to;
    }

block_ordered : {q : Rect} → InOrder q → Ordered (block_of q)
unfolding block_of
block_ordered h = record { columns = column_grows _ _ h.x_ordered; rows = column_grows _ _ h.y_ordered }

pub expand_grows : {aim : Aim} → Fair aim → {v w : Row} → Within v w → BlockWithin (expand aim v) (expand aim w)
expand_grows fair {v} {w} h = block_grows (fair.grows v w (joined_absorbs h))

pub same_block : {a b : Block} → a.first_column ≡ b.first_column → a.last_column ≡ b.last_column → a.first_row ≡ b.first_row → a.last_row ≡ b.last_row → a ≡ b
same_block p q r s = λ i. record { first_column = p i; last_column = q i; first_row = r i; last_row = s i }

abbrev pub size : Block → ℕ
size b = columns_of b + rows_of b

-- a block within another that is no smaller is the same
pub no_smaller : {a b : Block} → BlockWithin a b → Ordered a → (size a < size b → ⊥) → a ≡ b
no_smaller {a} {b} h o n =
    let le : size b ≤ size a = omega arith in
    same_block (omega arith) (omega arith) (omega arith) (omega arith)

-- ---- bounds of blocks

pub in_bounds : (rows : Rows) {c : Cell} (b : Block) → Memᴰ c (cells_of b) → Within (rows c) (bounds_in rows b)
unfolding bounds_in
in_bounds rows b m = bounds_hold (map rows (cells_of b)) (Memᴰ.map rows m)

pub bounds_in_grow : (rows : Rows) {a b : Block} → BlockWithin a b → Within (bounds_in rows a) (bounds_in rows b)
unfolding bounds_in
bounds_in_grow rows {a} {b} h =
    bounds_grow (map rows (cells_of a)) (map rows (cells_of b))
    (λ r m. let k = Memᴰ.of_map rows (cells_of a) m in Memᴰ.cast (sym k.2) (Memᴰ.map rows (cells_within h k.1)))

-- the block of the next round, and a block that lies on the grid and that the next round shrinks or keeps
abbrev pub next : Rows → Aim → Block → Block
next rows aim b = expand aim (bounds_in rows b)

pub record Shrinking (rows : Rows) (aim : Aim) (b : Block) : Type 0 where
  pub inside : BlockWithin (next rows aim b) b
  pub on : BlockWithin b whole_grid
  pub ordered : Ordered b

-- ---- cells that are reached

module _ (rows : Rows) (aim : Aim) (c : Cell) (r : is_reached rows aim c ≡ true) where
  pub reached_meets : aim.meets c (rows c) ≡ true
  reached_meets = and_right (not (is_empty (rows c))) _ r

  pub reached_some : is_empty (rows c) ≡ false
  reached_some = not-true (is_empty (rows c)) (and_left _ (aim.meets c (rows c)) r)

module _ (rows : Rows) (valid : ValidRows rows) where
  pub all_valid : {b : Block} → BlockWithin b whole_grid → AllValid (map rows (cells_of b))
  all_valid {b} on r m =
      let k = Memᴰ.of_map rows (cells_of b) m in
      subst (λ (z : Row). valid_row z ≡ true) k.2 (valid k.0 (within_grid_on on k.1))

  bounds_in-valid : {b : Block} → BlockWithin b whole_grid → valid_row (bounds_in rows b) ≡ true
  unfolding bounds_in
  bounds_in-valid {b} on = bounds_valid (map rows (cells_of b)) (all_valid on)

  -- the bounds of a block with a cell that is reached are not missing
  pub not_missing : (aim : Aim) {c : Cell} → is_reached rows aim c ≡ true → {b : Block} → BlockWithin b whole_grid → Memᴰ c (cells_of b) → is_empty (bounds_in rows b) ≡ true → ⊥
  unfolding bounds_in
  not_missing aim {c} r {b} on m e =
      let k = bounds_none (map rows (cells_of b)) (all_valid on) e (rows c) (Memᴰ.map rows m) in
      true_false (sym k ∙ reached_some rows aim c r)

  module _ (aim : Aim) (fair : Fair aim) where
    expand_ordered : {b : Block} → BlockWithin b whole_grid → is_empty (bounds_in rows b) ≡ false → Ordered (next rows aim b)
    expand_ordered {b} on e = block_ordered (fair.ordered (bounds_in rows b) (bounds_in-valid on) e)

    -- a cell that is reached is in the block of any bounds that hold its row
    pub expand_holds : {c : Cell} → OnGrid c → is_reached rows aim c ≡ true → {w : Row} → Within (rows c) w → InBlock (expand aim w) c
    expand_holds {c} on r {w} h =
        cells_in (expand aim w)
        (cells_within (expand_grows fair h) (fair.in_own_block c on (rows c) (reached_meets rows aim c r)))

    -- ---- blocks that a round shrinks

    pub naive_shrinking : is_empty (phase_bounds rows) ≡ false → Shrinking rows aim (expand aim (phase_bounds rows))
    naive_shrinking e =
        let on = block_on (aim.expanded (phase_bounds rows)) in
        record {
          inside = expand_grows fair (bounds_in_grow rows on);
          on = on;
          ordered = expand_ordered {b = whole_grid} (omega arith) e;
        }

    pub next_shrinking : {b : Block} → Shrinking rows aim b → is_empty (bounds_in rows b) ≡ false → Shrinking rows aim (next rows aim b)
    next_shrinking {b} s e =
        record {
          inside = expand_grows fair (bounds_in_grow rows s.inside);
          on = block_on (aim.expanded (bounds_in rows b));
          ordered = expand_ordered s.on e;
        }
