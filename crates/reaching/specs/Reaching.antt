-- What the functions of reach ask of a timeslice, a window, a row and a cell. The limits keep every sum and product in 64 bits.
-- Assumes nothing.
use Rattle.std.specs.Prelude.{◌≡◌, Bool, true, ◌&&◌, ℕ, suc, ◌≤◌, ℤ, nat_abs}
use Rattle.grid.specs.Units.{last_position, speed_limit}
use Rattle.grid.specs.Places.{OnGrid, cell_span, not_below, not_above}
use Rattle.grid.specs.Reports.{is_time, is_position}
use Rattle.grid.specs.declared.Cell.{Cell}
use Rattle.grid.specs.declared.Query.{Query}
use Rattle.grid.specs.declared.Range.{Range}
use Rattle.grid.specs.declared.Rect.{Rect}
use Rattle.grid.specs.declared.When.{When}
use Rattle.grid.specs.declared.When.TheVariants.{At, During}
use Rattle.rows.specs.Row.{valid_row}
use Rattle.rows.specs.Phases.{last_phase}
use Rattle.rows.specs.declared.Row.{Row}
use Rattle.methods.specs.Reach.{moved_span, meets, moved_around, at_first, at_last}
use Rattle.methods.specs.Slices.{latest, IsSlice}
use Rattle.methods.specs.declared.Slice.{Slice}
use Rattle.methods.specs.declared.View.{View}
use Rattle.methods.specs.declared.Window.{Window}

-- a timeslice whose rectangle has its corners in the sea
pub record IsAsk (s : Slice) : Type 0 where
  pub low_x_in_sea : is_position s.rect.x.low ≡ true
  pub high_x_in_sea : is_position s.rect.x.high ≡ true
  pub low_y_in_sea : is_position s.rect.y.low ≡ true
  pub high_y_in_sea : is_position s.rect.y.high ≡ true
  pub is_slice : IsSlice s

-- the same at both times of a window, and of a query of either kind
pub record IsWindowAsk (w : Window) : Type 0 where
  pub first_ask : IsAsk (at_first w)
  pub last_ask : IsAsk (at_last w)

abbrev pub IsViewAsk : View → Type 0
IsViewAsk (View.Slice s) = IsAsk s
IsViewAsk (View.Window w) = IsWindowAsk w

-- to count a time from a phase: no time is past the last one, and no phase past that time's
pub record CanCount (t : ℤ) (p : ℕ) : Type 0 where
  pub is_time_lem : is_time t ≡ true
  pub small_phase : p ≤ last_phase

-- to see a query from a phase
abbrev pub CanCountAll : When → ℕ → Type 0
CanCountAll (At t) p = CanCount t p
CanCountAll (During first last) p = CanCount first p × CanCount last p

pub record CanSee (query : Query) (p : ℕ) : Type 0 where
  pub times : CanCountAll query.when p

-- to expand by bounds
pub record CanExpand (s : Slice) (bounds : Row) : Type 0 where
  pub ask : IsAsk s
  pub valid : valid_row bounds ≡ true

-- the same of a window
pub record CanExpandWindow (w : Window) (bounds : Row) : Type 0 where
  pub ask : IsWindowAsk w
  pub valid : valid_row bounds ≡ true

-- the same of a query of either kind, and to test a cell moved by its row
pub record CanExpandView (v : View) (bounds : Row) : Type 0 where
  pub ask : IsViewAsk v
  pub valid : valid_row bounds ≡ true

pub record CanMeetView (v : View) (c : Cell) (row : Row) : Type 0 where
  pub ask : IsViewAsk v
  pub on_grid : OnGrid c
  pub valid : valid_row row ≡ true

-- ---- along one axis: an empty row's speeds are one past the limit

pub record SmallMotion (p v d : ℤ) : Type 0 where
  pub small_position : nat_abs p ≤ last_position
  pub small_speed : nat_abs v ≤ suc speed_limit
  pub small_d : nat_abs d ≤ latest

pub record SmallAxis (r : Range) (least greatest d : ℤ) : Type 0 where
  pub small_low : nat_abs r.low ≤ last_position
  pub small_high : nat_abs r.high ≤ last_position
  pub small_least : nat_abs least ≤ suc speed_limit
  pub small_greatest : nat_abs greatest ≤ suc speed_limit
  pub small_d : nat_abs d ≤ latest

-- ---- a column, or a row of cells, that shares a position with a range, and a cell that shares one with a rectangle

abbrev pub column_in : ℕ → Range → Bool
column_in i r = not_below (cell_span i).low r.high && not_above (cell_span i).high r.low

abbrev pub cell_in : Cell → Rect → Bool
cell_in c q = column_in c.column q.x && column_in c.row q.y

-- ---- the column of a cell alone, moved by its row's speeds

abbrev pub moved_column_meets : Slice → Cell → Row → Bool
moved_column_meets s c r = meets (moved_span (cell_span c.column) r.least_vx r.greatest_vx s.d) s.rect.x

abbrev pub column_around_meets : Window → Cell → Row → Bool
column_around_meets w c r = meets (moved_around (cell_span c.column) r.least_vx r.greatest_vx w) w.rect.x

abbrev pub column_reaches : View → Cell → Row → Bool
column_reaches (View.Slice s) c r = moved_column_meets s c r
column_reaches (View.Window w) c r = column_around_meets w c r
