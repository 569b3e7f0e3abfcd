-- What a timeslice and a cell reach at the speeds of a row: document 01, "The four ways to choose cells", the two rules "per axis" and the block
-- of a rectangle; and what a window and a cell reach: document 02, A3, the smallest around what they reach at both its times. Positions are
-- centimetres, speeds centimetres per second; d, and the first and last of a window, are an asked time less a reference time, in seconds.
-- Assumes nothing.
use Rattle.std.specs.Prelude.{Bool, ◌&&◌, List, [], ◌∷◌, ◌++◌, ℕ, zero, suc, ◌-◌, ◌≤◌, ℤ, pos, negsuc, ◌+ℤ◌, ◌-ℤ◌, ◌*ℤ◌}
use Rattle.ints.specs.Whole.{min_z, max_z}
use Rattle.grid.specs.Units.{side}
use Rattle.grid.specs.Places.{End, Span, endless, at, column_of, row_of, cell_span, not_below, not_above}
use Rattle.grid.specs.Curve.{cell}
use Rattle.grid.specs.declared.Cell.{Cell}
use Rattle.rows.specs.declared.Row.{Row}
use Rattle.grid.specs.declared.Range.{Range}
use Rattle.grid.specs.declared.Rect.{Rect}
use Rattle.methods.specs.declared.Block.{Block}
use Rattle.methods.specs.declared.Slice.{Slice}
use Rattle.methods.specs.declared.Window.{Window}

-- ---- expanding a rectangle

-- for d at least 0: low - greatest × d to high - least × d; for d below 0: low + least × |d| to high + greatest × |d|
unfoldable pub expanded_range : Range → ℤ → ℤ → ℤ → Range
expanded_range r least greatest (pos d) = record { low = r.low -ℤ greatest *ℤ pos d; high = r.high -ℤ least *ℤ pos d }
expanded_range r least greatest (negsuc n) =
    let size = pos (suc n) in
    record { low = r.low +ℤ least *ℤ size; high = r.high +ℤ greatest *ℤ size }

-- the rectangle of a timeslice expanded by bounds
unfoldable pub expanded_rect : Slice → Row → Rect
expanded_rect s b = record {
  x = expanded_range s.rect.x b.least_vx b.greatest_vx s.d;
  y = expanded_range s.rect.y b.least_vy b.greatest_vy s.d;
}

-- the smallest range, and the smallest rectangle, that holds two
abbrev pub around_ranges : Range → Range → Range
around_ranges a b = record { low = min_z a.low b.low; high = max_z a.high b.high }

abbrev pub around_rects : Rect → Rect → Rect
around_rects a b = record { x = around_ranges a.x b.x; y = around_ranges a.y b.y }

-- a window at its two times
abbrev pub at_first : Window → Slice
at_first w = record { rect = w.rect; d = w.first }

abbrev pub at_last : Window → Slice
at_last w = record { rect = w.rect; d = w.last }

-- the rectangle of a window expanded by bounds
unfoldable pub expanded_window : Window → Row → Rect
expanded_window w b = around_rects (expanded_rect (at_first w) b) (expanded_rect (at_last w) b)

-- ---- blocks

-- every cell from the column and row of the low corner to those of the high corner
unfoldable pub block_of : Rect → Block
block_of q = record {
  first_column = column_of q.x.low;
  last_column = column_of q.x.high;
  first_row = row_of q.y.low;
  last_row = row_of q.y.high;
}

-- a cell's column and row are the block's
pub record InBlock (b : Block) (c : Cell) : Type 0 where
  pub from_column : b.first_column ≤ c.column
  pub to_column : c.column ≤ b.last_column
  pub from_row : b.first_row ≤ c.row
  pub to_row : c.row ≤ b.last_row

abbrev pub whole_grid : Block
whole_grid = record { first_column = 0; last_column = side - 1; first_row = 0; last_row = side - 1 }

abbrev pub columns_of : Block → ℕ
columns_of b = suc b.last_column - b.first_column

abbrev pub rows_of : Block → ℕ
rows_of b = suc b.last_row - b.first_row

-- n cells of a row, from a column on
unfoldable pub cells_of_row : ℕ → ℕ → ℕ → List Cell
cells_of_row row column zero = []
cells_of_row row column (suc n) = cell column row ∷ cells_of_row row (suc column) n

-- the cells of n rows of a block, from a row on
unfoldable pub cells_of_rows : Block → ℕ → ℕ → List Cell
cells_of_rows b row zero = []
cells_of_rows b row (suc n) = cells_of_row row b.first_column (columns_of b) ++ cells_of_rows b (suc row) n

-- the cells of a block, each once, row by row from the low corner
unfoldable pub cells_of : Block → List Cell
cells_of b = cells_of_rows b b.first_row (rows_of b)

-- ---- moving a cell

-- an end moved by a speed over so many seconds, forward and backward; an endless side stays endless
abbrev pub forward : End → ℤ → ℕ → End
forward endless v seconds = endless
forward (at e) v seconds = at (e +ℤ v *ℤ pos seconds)

abbrev pub backward : End → ℤ → ℕ → End
backward endless v seconds = endless
backward (at e) v seconds = at (e -ℤ v *ℤ pos seconds)

-- for d at least 0: low + least × d to high + greatest × d; for d below 0: low - greatest × |d| to high - least × |d|
unfoldable pub moved_span : Span → ℤ → ℤ → ℤ → Span
moved_span s least greatest (pos d) = record { low = forward s.low least d; high = forward s.high greatest d }
moved_span s least greatest (negsuc n) =
    record { low = backward s.low greatest (suc n); high = backward s.high least (suc n) }

-- whether a span and a range share a position
unfoldable pub meets : Span → Range → Bool
meets s r = not_below s.low r.high && not_above s.high r.low

-- whether a cell, moved by its row's speeds, meets the rectangle of a timeslice
unfoldable pub moved_cell_meets : Slice → Cell → Row → Bool
moved_cell_meets s c r =
    meets (moved_span (cell_span c.column) r.least_vx r.greatest_vx s.d) s.rect.x
    && meets (moved_span (cell_span c.row) r.least_vy r.greatest_vy s.d) s.rect.y

-- the smallest span that holds two; a side that is endless in one of them stays endless
abbrev pub lowest : End → End → End
lowest endless b = endless
lowest (at a) endless = endless
lowest (at a) (at b) = at (min_z a b)

abbrev pub highest : End → End → End
highest endless b = endless
highest (at a) endless = endless
highest (at a) (at b) = at (max_z a b)

abbrev pub around_spans : Span → Span → Span
around_spans s t = record { low = lowest s.low t.low; high = highest s.high t.high }

-- a span moved to both times of a window
abbrev pub moved_around : Span → ℤ → ℤ → Window → Span
moved_around s least greatest w = around_spans (moved_span s least greatest w.first) (moved_span s least greatest w.last)

-- whether the smallest rectangle around a cell, moved to both times of a window, meets the window's rectangle
unfoldable pub moved_around_meets : Window → Cell → Row → Bool
moved_around_meets w c r =
    meets (moved_around (cell_span c.column) r.least_vx r.greatest_vx w) w.rect.x
    && meets (moved_around (cell_span c.row) r.least_vy r.greatest_vy w) w.rect.y
