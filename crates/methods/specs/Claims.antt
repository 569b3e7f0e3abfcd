-- What is claimed of the four methods, for every table of valid rows: of any fair aim that they are nested, take few rounds and miss no float, and of
-- a timeslice and a window that each is fair and sees its floats, of a timeslice alone that the optimal method is exact. The proofs are in proofs/.
-- Assumes nothing.
use Rattle.std.specs.Prelude.{◌≡◌, Bool, true, false, ◌↔◌, ℕ, ◌+◌, ◌≤◌}
use mathlib.Core.List.{Memᴰ}
use Rattle.std.specs.Int.Signed.{le_z}
use Rattle.grid.specs.Places.{End, Span, endless, at, OnGrid, in_cell}
use Rattle.grid.specs.declared.Cell.{Cell}
use Rattle.grid.specs.declared.Rect.{Rect}
use Rattle.rows.specs.Row.{valid_row}
use Rattle.rows.specs.declared.Row.{Row}
use Rattle.methods.specs.Reach.{around_rects, columns_of, rows_of, around_spans}
use Rattle.methods.specs.Aims.{Aim, slice_aim, window_aim, Placed, own_cell, held_by, in_slice, in_window}
use Rattle.methods.specs.Fair.{InOrder, RectWithin, Fair, Sees}
use Rattle.methods.specs.Methods.{Rows, found, naive_block, choice}
use Rattle.methods.specs.Slices.{IsSlice}
use Rattle.methods.specs.declared.Block.{Block}
use Rattle.methods.specs.declared.Slice.{Slice}
use Rattle.methods.specs.declared.Window.{Window}

-- rows that are valid, each
abbrev pub ValidRows : Rows → Type 0
ValidRows rows = (c : Cell) → OnGrid c → valid_row (rows c) ≡ true

-- whether a method reads a cell
abbrev pub Reads : ℕ → Rows → Aim → Cell → Type 0
Reads method rows aim c = Memᴰ c (choice method rows aim).cells

-- ---- any fair aim

-- S7: optimal within iterative within semi-naive within naive
pub record Nested (rows : Rows) (aim : Aim) : Type 0 where
  pub optimal_in_iterative : (c : Cell) → Reads 3 rows aim c → Reads 2 rows aim c
  pub iterative_in_semi_naive : (c : Cell) → Reads 2 rows aim c → Reads 1 rows aim c
  pub semi_naive_in_naive : (c : Cell) → Reads 1 rows aim c → Reads 0 rows aim c

abbrev pub MethodsAreNested : Type 0
MethodsAreNested = (rows : Rows) → ValidRows rows → (aim : Aim) → Fair aim → Nested rows aim

-- S7: the rounds are at most columns + rows - 1 of the naive block
abbrev pub RoundsAreFew : Type 0
RoundsAreFew =
    (rows : Rows)
    → ValidRows rows
    → (aim : Aim)
    → Fair aim
    → (b : Block)
    → naive_block rows aim ≡ found b
    → (choice 2 rows aim).rounds + 1 ≤ columns_of b + rows_of b

-- what the index rests on: a float that is inside and whose row holds its speeds is in a cell that every method reads
abbrev pub NoFloatIsMissed : Type 0
NoFloatIsMissed =
    (rows : Rows)
    → ValidRows rows
    → (aim : Aim)
    → Fair aim
    → (inside : Placed → Bool)
    → Sees aim inside
    → (f : Placed)
    → held_by (rows (own_cell f)) f ≡ true
    → inside f ≡ true
    → (method : ℕ)
    → Reads method rows aim (own_cell f)

-- ---- windows

-- A3: the rectangle around two holds both, and lies in every rectangle that holds both
pub record SmallestAround (a b : Rect) : Type 0 where
  pub holds_first : RectWithin a (around_rects a b)
  pub holds_second : RectWithin b (around_rects a b)
  pub smallest : (q : Rect) → RectWithin a q → RectWithin b q → RectWithin (around_rects a b) q

abbrev pub AroundIsSmallest : Type 0
AroundIsSmallest = (a b : Rect) → SmallestAround a b

-- the same of spans: an endless end reaches as far as any
abbrev pub reaches_down : End → End → Bool
reaches_down endless b = true
reaches_down (at a) endless = false
reaches_down (at a) (at b) = le_z a b

abbrev pub reaches_up : End → End → Bool
reaches_up endless b = true
reaches_up (at a) endless = false
reaches_up (at a) (at b) = le_z b a

pub record SpanWithin (s t : Span) : Type 0 where
  pub down_to : reaches_down t.low s.low ≡ true
  pub up_to : reaches_up t.high s.high ≡ true

pub record SmallestSpan (s t : Span) : Type 0 where
  pub holds_first : SpanWithin s (around_spans s t)
  pub holds_second : SpanWithin t (around_spans s t)
  pub smallest : (u : Span) → SpanWithin s u → SpanWithin t u → SpanWithin (around_spans s t) u

abbrev pub AroundSpansIsSmallest : Type 0
AroundSpansIsSmallest = (s t : Span) → SmallestSpan s t

-- whatever its times are, in order or not
abbrev pub WindowIsFair : Type 0
WindowIsFair = (w : Window) → InOrder w.rect → Fair (window_aim w)

abbrev pub WindowSees : Type 0
WindowSees = (w : Window) → Sees (window_aim w) (in_window w)

-- A3: a window of one time has the timeslice's aim, for every row and cell. That it lists the same floats is part of `WindowOfOneTimeIsTimeslice`
pub record SameAim (a b : Aim) : Type 0 where
  pub same_expansion : (r : Row) → a.expanded r ≡ b.expanded r
  pub same_meeting : (c : Cell) (r : Row) → a.meets c r ≡ b.meets c r

abbrev pub OneTimeIsTimeslice : Type 0
OneTimeIsTimeslice = (s : Slice) → SameAim (window_aim (record { rect = s.rect; first = s.d; last = s.d })) (slice_aim s)

-- ---- timeslices

-- whatever d is
abbrev pub TimesliceIsFair : Type 0
TimesliceIsFair = (s : Slice) → InOrder s.rect → Fair (slice_aim s)

abbrev pub TimesliceSees : Type 0
TimesliceSees = (s : Slice) → Sees (slice_aim s) (in_slice s)

-- some float of the cell, by what its row allows, is inside: a whole position in the cell and whole speeds in the row
pub record Reaches (rows : Rows) (inside : Placed → Bool) (c : Cell) : Type 0 where
  pub float : Placed
  pub in_cell_lem : in_cell c float.x float.y ≡ true
  pub in_row : held_by (rows c) float ≡ true
  pub is_inside : inside float ≡ true

-- S6: the optimal method reads a cell exactly when some float of the cell may be in the rectangle
abbrev pub OptimalIsExact : Type 0
OptimalIsExact =
    (rows : Rows)
    → ValidRows rows
    → (s : Slice)
    → IsSlice s
    → (c : Cell)
    → OnGrid c
    → Reads 3 rows (slice_aim s) c ↔ Reaches rows (in_slice s) c
