-- A float's report, where it says that the float is, and when a query lists it: document 01, "Units and the places on the grid", and document 02, A3 for
-- windows, A4 for reports that come later and A7 for silence. Positions are centimetres, speeds centimetres per second, times seconds.
-- Assumes nothing.
use Rattle.std.specs.Prelude.{Bool, ◌&&◌, not, ℤ, pos, neg_ℤ, ◌+ℤ◌, ◌-ℤ◌}
use Rattle.std.specs.Int.Signed.{le_z}
use Rattle.ints.specs.Whole.{between, max_z}
use Rattle.grid.specs.Units.{last_position, speed_limit, last_time, silence, last_id}
use Rattle.grid.specs.Places.{position_after, cell_of}
use Rattle.grid.specs.Moments.{inside_during}
use Rattle.grid.specs.declared.Cell.{Cell}
use Rattle.grid.specs.declared.Rect.{Rect}
use Rattle.grid.specs.declared.Query.{Query}
use Rattle.grid.specs.declared.Report.{Report}
use Rattle.grid.specs.declared.When.{When}
use Rattle.grid.specs.declared.When.TheVariants.{At, During}

-- ---- ranges

abbrev pub is_time : ℤ → Bool
is_time = between (pos 0) (pos last_time)

abbrev pub is_id : ℤ → Bool
is_id = between (pos 1) (pos last_id)

abbrev pub is_position : ℤ → Bool
is_position = between (pos 0) (pos last_position)

abbrev pub is_speed : ℤ → Bool
is_speed = between (neg_ℤ (pos speed_limit)) (pos speed_limit)

-- id, position and speed in their ranges: what check 4 asks of a report
unfoldable pub in_range : Report → Bool
in_range r =
    is_id r.id
    && ((is_position r.x && is_position r.y) && (is_speed r.vx && is_speed r.vy))

-- ---- by their numbers, in the order in which a line and an exported call have them

abbrev pub report_of : ℤ → ℤ → ℤ → ℤ → ℤ → ℤ → Report
report_of id t x y vx vy = record { id = id; t = t; x = x; y = y; vx = vx; vy = vy }

-- low corner, high corner
abbrev pub rect_of : ℤ → ℤ → ℤ → ℤ → Rect
rect_of low_x low_y high_x high_y =
    record { x = record { low = low_x; high = high_x }; y = record { low = low_y; high = high_y } }

-- ---- where the float is at time s: x + vx × (s - t), y + vy × (s - t), exactly

unfoldable pub x_at : Report → ℤ → ℤ
x_at r s = position_after r.x r.vx (s -ℤ r.t)

unfoldable pub y_at : Report → ℤ → ℤ
y_at r s = position_after r.y r.vy (s -ℤ r.t)

-- the cell of its position at time s
abbrev pub cell_at_time : Report → ℤ → Cell
cell_at_time r s = cell_of (x_at r s) (y_at r s)

-- ---- silence

-- a float whose report was sent at t has sent nothing for so long at a time that it is lost
unfoldable pub is_silent : ℤ → ℤ → Bool
is_silent time t = le_z (t +ℤ pos silence) time

-- who stays held when the clock steps to a time: a silent float retires
abbrev pub stays_at : ℤ → Report → Bool
stays_at time r = not (is_silent time r.t)

-- ---- queries

-- whether a position is in a rectangle, edges included
unfoldable pub in_rect : Rect → ℤ → ℤ → Bool
in_rect q x y = between q.x.low q.x.high x && between q.y.low q.y.high y

-- at a time
unfoldable pub inside_at : Rect → ℤ → Report → Bool
inside_at q t r = in_rect q (x_at r t) (y_at r t)

-- by the kind of query: at the time of a timeslice; at some moment of a window, from the report on
abbrev pub inside_when : Rect → When → Report → Bool
inside_when q (At t) r = inside_at q t r
inside_when q (During first last) r = inside_during q (max_z first r.t) last r

-- the last time that a query asks about
abbrev pub last_of : When → ℤ
last_of (At t) = t
last_of (During first last) = last

-- whether a query lists a float: where its report is not after that time (document 02, A4), and it is inside
unfoldable pub is_listed : Query → Report → Bool
is_listed query r = le_z r.t (last_of query.when) && inside_when query.rect query.when r
