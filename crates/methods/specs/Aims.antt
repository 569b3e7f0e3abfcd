-- What an ask aims at in a live phase, as the methods know it, and the two kinds of aim: document 01's timeslice, a rectangle at a time that is d
-- seconds after the phase's reference time, and document 02's window (A3), a rectangle from a first such time to a last one. A query gives an aim in
-- each phase.
-- Assumes nothing.
use Rattle.std.specs.Prelude.{Bool, ℕ, ℤ, pos}
use Rattle.grid.specs.Places.{position_after, cell_of}
use Rattle.grid.specs.Moments.{inside_between}
use Rattle.grid.specs.Reports.{in_rect, x_at, y_at}
use Rattle.grid.specs.declared.Cell.{Cell}
use Rattle.grid.specs.declared.Query.{Query}
use Rattle.grid.specs.declared.Rect.{Rect}
use Rattle.grid.specs.declared.Report.{Report}
use Rattle.grid.specs.declared.When.{When}
use Rattle.grid.specs.declared.When.TheVariants.{At, During}
use Rattle.rows.specs.Row.{drift_of, holds}
use Rattle.rows.specs.Phases.{reference_time, since_reference}
use Rattle.rows.specs.declared.Drift.{Drift}
use Rattle.rows.specs.declared.Row.{Row}
use Rattle.methods.specs.Reach.{expanded_rect, moved_cell_meets, expanded_window, moved_around_meets}
use Rattle.methods.specs.declared.Slice.{Slice}
use Rattle.methods.specs.declared.View.{View}
use Rattle.methods.specs.declared.Window.{Window}

-- all that a method knows of an ask: the rectangle expanded by bounds, and whether a cell, moved by its row's speeds, meets the rectangle
pub record Aim : Type 0 where
  pub expanded : Row → Rect
  pub meets : Cell → Row → Bool

abbrev pub slice_aim : Slice → Aim
slice_aim s = record { expanded = expanded_rect s; meets = moved_cell_meets s }

abbrev pub window_aim : Window → Aim
window_aim w = record { expanded = expanded_window w; meets = moved_around_meets w }

abbrev pub aim_of : View → Aim
aim_of (View.Slice s) = slice_aim s
aim_of (View.Window w) = window_aim w

-- a query seen from phase p, and its aim there
abbrev pub seen_from : ℕ → Rect → When → View
seen_from p q (At t) = View.Slice (record { rect = q; d = since_reference p t })
seen_from p q (During first last) =
    View.Window (record { rect = q; first = since_reference p first; last = since_reference p last })

abbrev pub view_of : ℕ → Query → View
view_of p query = seen_from p query.rect query.when

abbrev pub aim_in : ℕ → Query → Aim
aim_in p query = aim_of (view_of p query)

-- ---- floats

-- a float as it is placed in a phase: its position at the reference time, in centimetres, and its speeds, in centimetres per second. It has no report
-- time: which cells are read goes by rows
pub record Placed : Type 0 where
  pub x : ℤ
  pub y : ℤ
  pub drift : Drift

-- placed in phase p by its report
abbrev pub placed_by : ℕ → Report → Placed
placed_by p r = record { x = x_at r (reference_time p); y = y_at r (reference_time p); drift = drift_of r }

-- the cell that it is placed in
abbrev pub own_cell : Placed → Cell
own_cell f = cell_of f.x f.y

-- whether its speeds lie in a row
abbrev pub held_by : Row → Placed → Bool
held_by row f = holds row f.drift

-- whether it is in the rectangle d seconds later
abbrev pub in_slice : Slice → Placed → Bool
in_slice s f = in_rect s.rect (position_after f.x f.drift.vx s.d) (position_after f.y f.drift.vy s.d)

-- whether it is in the rectangle at some moment from the first time to the last
abbrev pub in_window : Window → Placed → Bool
in_window w f =
    inside_between w.first w.last
    (record { x = f.x; v = f.drift.vx; t = pos 0; range = w.rect.x })
    (record { x = f.y; v = f.drift.vy; t = pos 0; range = w.rect.y })

-- inside, by the kind of query
abbrev pub in_view : View → Placed → Bool
in_view (View.Slice s) = in_slice s
in_view (View.Window w) = in_window w
