-- A window is a fair aim, whatever its times are, and a float that is in its rectangle at some moment lies in a cell that meets: what holds at each of
-- the two times holds of the smallest around both. A window of one time is the timeslice.
-- Assumes nothing.
use mathlib.Core.Path.{◌≡◌, refl, sym, ap, ap₂, ◌∙◌}
use mathlib.Core.Bool.{true, false, ◌&&◌, ◌||◌}
use mathlib.Core.List.{Memᴰ}
use mathlib.Core.Logic.{◌⊎◌, inl, inr}
use Prim.Native.Nat.{ℕ, ◌≤◌, ◌<◌}
use native.Mathlib.Omega.{arith}
use lib.IntN.{ℤ, pos, ◌-ℤ◌, ◌*ℤ◌}
use lib.Signed.{le_z}
use Rattle.ints.specs.Whole.{min_z, max_z}
use Rattle.ints.proofs.Parts.{signed, sub}
use Rattle.ints.proofs.Least.{min-same, max-same, min-below, max_above, min-greatest, max_least, min_either, max_either, le_trans}
use Rattle.ints.proofs.Truth.{or_left, or_right, and_true, and_left, and_right}
use Rattle.grid.specs.Units.{side}
use Rattle.grid.specs.Places.{End, Span, endless, at, OnGrid, column_of, cell_span, in_span, not_below, not_above, position_after}
use Rattle.grid.specs.Moments.{passage_of, in_time, in_turn, meeting}
use Rattle.grid.specs.declared.Cell.{Cell}
use Rattle.grid.specs.declared.Range.{Range}
use Rattle.grid.proofs.MomentsOneTimeLaws.{EndsInReach, ends_in_reach}
use Rattle.grid.proofs.ReportsLaws.{moved_on}
use Rattle.grid.proofs.PlacesLaws.{in_own_cell, starts_by_column, ends_from_column}
use Rattle.rows.specs.Row.{joined, is_empty, valid_row}
use Rattle.rows.specs.declared.Row.{Row}
use Rattle.rows.proofs.RowLaws.{held_within}
use Rattle.methods.specs.Reach.{expanded_range, expanded_rect, around_ranges, at_first, at_last, expanded_window, block_of, cells_of}
use Rattle.methods.specs.Reach.{moved_span, meets, moved_cell_meets, lowest, highest, around_spans, moved_around, moved_around_meets}
use Rattle.methods.specs.Aims.{Placed, own_cell, held_by, in_window}
use Rattle.methods.specs.Fair.{InOrder, RectWithin}
use Rattle.methods.specs.Claims.{AroundIsSmallest, reaches_down, reaches_up, AroundSpansIsSmallest, WindowIsFair, WindowSees, OneTimeIsTimeslice}
use Rattle.methods.specs.declared.Slice.{Slice}
use Rattle.methods.specs.declared.Window.{Window}
use Rattle.methods.proofs.Axis.{least_travel, greatest_travel, travels, shifted, expanded_is, moved_low, moved_high}
use Rattle.methods.proofs.Axis.{Inside, low_end_before, high_end_after, low_moves, high_moves}
use Rattle.methods.proofs.Blocks.{cells_have}
use Rattle.methods.proofs.Timeslice.{slice_ordered, slice_grows}

-- ---- the smallest around two

around_smallest : (a b : Range) (low high : ℤ)
    → le_z low a.low ≡ true → le_z low b.low ≡ true → le_z a.high high ≡ true → le_z b.high high ≡ true
    → (le_z low (around_ranges a b).low ≡ true) × (le_z (around_ranges a b).high high ≡ true)
around_smallest a b low high p q r s = (min-greatest a.low b.low low p q, max_least a.high b.high high r s)

pub around_is_smallest : AroundIsSmallest
around_is_smallest a b =
    let lx = min-below a.x.low b.x.low in
    let hx = max_above a.x.high b.x.high in
    let ly = min-below a.y.low b.y.low in
    let hy = max_above a.y.high b.y.high in
    record {
      holds_first = record { x_from = lx.0; x_to = hx.0; y_from = ly.0; y_to = hy.0 };
      holds_second = record { x_from = lx.1; x_to = hx.1; y_from = ly.1; y_to = hy.1 };
      smallest = λ q f g.
          let x = around_smallest a.x b.x q.x.low q.x.high f.x_from g.x_from f.x_to g.x_to in
          let y = around_smallest a.y b.y q.y.low q.y.high f.y_from g.y_from f.y_to g.y_to in
          record { x_from = x.0; x_to = x.1; y_from = y.0; y_to = y.1 };
    }

-- the ends of a span
lowest_reaches : (a b : End) → (reaches_down (lowest a b) a ≡ true) × (reaches_down (lowest a b) b ≡ true)
lowest_reaches endless b = (refl, refl)
lowest_reaches (at a) endless = (refl, refl)
lowest_reaches (at a) (at b) = min-below a b

highest_reaches : (a b : End) → (reaches_up (highest a b) a ≡ true) × (reaches_up (highest a b) b ≡ true)
highest_reaches endless b = (refl, refl)
highest_reaches (at a) endless = (refl, refl)
highest_reaches (at a) (at b) = max_above a b

lowest_smallest : (e a b : End) → reaches_down e a ≡ true → reaches_down e b ≡ true → reaches_down e (lowest a b) ≡ true
lowest_smallest endless a b h k = refl
lowest_smallest (at e) endless b h k = h
lowest_smallest (at e) (at a) endless h k = k
lowest_smallest (at e) (at a) (at b) h k = min-greatest a b e h k

highest_smallest : (e a b : End) → reaches_up e a ≡ true → reaches_up e b ≡ true → reaches_up e (highest a b) ≡ true
highest_smallest endless a b h k = refl
highest_smallest (at e) endless b h k = h
highest_smallest (at e) (at a) endless h k = k
highest_smallest (at e) (at a) (at b) h k = max_least a b e h k

pub around_spans_is_smallest : AroundSpansIsSmallest
around_spans_is_smallest s t =
    let down = lowest_reaches s.low t.low in
    let up = highest_reaches s.high t.high in
    record {
      holds_first = record { down_to = down.0; up_to = up.0 };
      holds_second = record { down_to = down.1; up_to = up.1 };
      smallest = λ u f g.
          record {
            down_to = lowest_smallest u.low s.low t.low f.down_to g.down_to;
            up_to = highest_smallest u.high s.high t.high f.up_to g.up_to;
          };
    }

-- ---- along one axis

around_ordered : (a b : Range) → le_z a.low a.high ≡ true → le_z (around_ranges a b).low (around_ranges a b).high ≡ true
around_ordered a b o = omega (arith, signed, (min-below a.low b.low).0, (max_above a.high b.high).0)

around_grows : (a b a' b' : Range) → Inside a a' → Inside b b' → Inside (around_ranges a b) (around_ranges a' b')
around_grows a b a' b' h k =
    record {
      low_at =
          let low = min_z a'.low b'.low in
          let m = min-below a'.low b'.low in
          min-greatest a.low b.low low (le_trans low a'.low a.low m.0 h.low_at) (le_trans low b'.low b.low m.1 k.low_at);
      high_at =
          let high = max_z a'.high b'.high in
          let m = max_above a'.high b'.high in
          max_least a.high b.high high (le_trans a.high a'.high high h.high_at m.0) (le_trans b.high b'.high high k.high_at m.1);
    }

-- the lower of two ends is not above z where one of the two is not, the higher not below z where one of the two is not
below_either : (a b : End) (z : ℤ) → not_below (lowest a b) z ≡ not_below a z || not_below b z
below_either endless b z = refl
below_either (at a) endless z = sym (or_right (le_z a z) true refl)
below_either (at a) (at b) z = min_either a b z

above_either : (a b : End) (z : ℤ) → not_above (highest a b) z ≡ not_above a z || not_above b z
above_either endless b z = refl
above_either (at a) endless z = sym (or_right (le_z z a) true refl)
above_either (at a) (at b) z = max_either a b z

-- an end, seen from the other side
below_greater : (e : End) (x y : ℤ) → not_below e (max_z x y) ≡ not_below e x || not_below e y
below_greater endless x y = refl
below_greater (at e) x y = max_either x y e

above_lesser : (e : End) (x y : ℤ) → not_above e (min_z x y) ≡ not_above e x || not_above e y
above_lesser endless x y = refl
above_lesser (at e) x y = min_either x y e

-- an end moved by t and by u, the lower or the higher of the two: not past z exactly when the end itself is not past z - t or not past z - u
lowest_moves : (e : End) (t u z : ℤ) → not_below (lowest (shifted e t) (shifted e u)) z ≡ not_below e (max_z (z -ℤ t) (z -ℤ u))
lowest_moves e t u z =
    below_either (shifted e t) (shifted e u) z ∙ ap₂ ◌||◌ (low_moves e t z) (low_moves e u z) ∙ sym (below_greater e (z -ℤ t) (z -ℤ u))

highest_moves : (e : End) (t u z : ℤ) → not_above (highest (shifted e t) (shifted e u)) z ≡ not_above e (min_z (z -ℤ t) (z -ℤ u))
highest_moves e t u z =
    above_either (shifted e t) (shifted e u) z ∙ ap₂ ◌||◌ (high_moves e t z) (high_moves e u z) ∙ sym (above_lesser e (z -ℤ t) (z -ℤ u))

-- a span moved to both times meets a range exactly when it meets, where it is, the smallest range around the two expanded ones
pub around_meets_expanded :
    (s : Span) (l g d e : ℤ) (r : Range)
    → meets (around_spans (moved_span s l g d) (moved_span s l g e)) r
    ≡ not_below s.low (around_ranges (expanded_range r l g d) (expanded_range r l g e)).high
    && not_above s.high (around_ranges (expanded_range r l g d) (expanded_range r l g e)).low
unfolding meets
around_meets_expanded s l g d e r =
    rw (moved_low s l g d, moved_low s l g e, moved_high s l g d, moved_high s l g e, expanded_is r l g d, expanded_is r l g e)
    (ap₂ ◌&&◌
    (lowest_moves s.low (least_travel l g d) (least_travel l g e) r.high)
    (highest_moves s.high (greatest_travel l g d) (greatest_travel l g e) r.low))

-- ---- fair

module _ (i : ℕ) (on : i < side) (l g d e : ℤ) (r : Range) where
  around : Range
  around = around_ranges (expanded_range r l g d) (expanded_range r l g e)

  meets_between : meets (around_spans (moved_span (cell_span i) l g d) (moved_span (cell_span i) l g e)) r ≡ true → (column_of around.low ≤ i) × (i ≤ column_of around.high)
  unfolding around
  meets_between m =
      let k = rw (around_meets_expanded (cell_span i) l g d e r) at m in (
        ends_from_column i around.low (and_right (not_below (cell_span i).low around.high) _ k),
        starts_by_column i on around.high (and_left _ (not_above (cell_span i).high around.low) k),
      )

module _ (w : Window) where
  window_ordered : InOrder w.rect → (r : Row) → valid_row r ≡ true → is_empty r ≡ false → InOrder (expanded_window w r)
  unfolding expanded_window
  window_ordered o r v e =
      let k = slice_ordered (at_first w) o r v e in
      record { x_ordered = around_ordered _ _ k.x_ordered; y_ordered = around_ordered _ _ k.y_ordered }

  window_grows : (v r : Row) → joined v r ≡ r → RectWithin (expanded_window w v) (expanded_window w r)
  unfolding expanded_window
  window_grows v r e =
      let f = slice_grows (at_first w) v r e in
      let l = slice_grows (at_last w) v r e in
      let x = around_grows _ _ _ _ (record { low_at = f.x_from; high_at = f.x_to }) (record { low_at = l.x_from; high_at = l.x_to }) in
      let y = around_grows _ _ _ _ (record { low_at = f.y_from; high_at = f.y_to }) (record { low_at = l.y_from; high_at = l.y_to }) in
      record { x_from = x.low_at; x_to = x.high_at; y_from = y.low_at; y_to = y.high_at }

  window_own_block : (c : Cell) → OnGrid c → (r : Row) → moved_around_meets w c r ≡ true → Memᴰ c (cells_of (block_of (expanded_window w r)))
  unfolding moved_around_meets expanded_window expanded_rect block_of around
  window_own_block c on r m =
      let mx = meets (moved_around (cell_span c.column) r.least_vx r.greatest_vx w) w.rect.x in
      let my = meets (moved_around (cell_span c.row) r.least_vy r.greatest_vy w) w.rect.y in
      let x = meets_between c.column on.column_on r.least_vx r.greatest_vx w.first w.last w.rect.x (and_left mx my m) in
      let y = meets_between c.row on.row_on r.least_vy r.greatest_vy w.first w.last w.rect.y (and_right mx my m) in
      cells_have (block_of (expanded_window w r)) (record { from_column = x.0; to_column = x.1; from_row = y.0; to_row = y.1 })

pub window_is_fair : WindowIsFair
window_is_fair w o = record { ordered = window_ordered w o; grows = window_grows w; in_own_block = window_own_block w }

-- ---- floats in the rectangle

-- along one axis: a position of the span and a speed between least and greatest, at which the start or the end of the way is not above the range, and
-- one of them not below it
module _ (s : Span) (x v l g d e : ℤ) (r : Range) (h : in_span s x ≡ true) (from : le_z l v ≡ true) (to : le_z v g ≡ true) where
  low_end : (t : ℤ) → le_z (position_after x v t) r.high ≡ true → not_below (moved_span s l g t).low r.high ≡ true
  unfolding in_span
  low_end t k =
      rw (moved_low s l g t)
      (low_end_before s.low x (v *ℤ t) (least_travel l g t) r.high (and_left _ (not_above s.high x) h) (travels l g v t from to).0 k)

  high_end : (t : ℤ) → le_z r.low (position_after x v t) ≡ true → not_above (moved_span s l g t).high r.low ≡ true
  unfolding in_span
  high_end t k =
      rw (moved_high s l g t)
      (high_end_after s.high x (v *ℤ t) (greatest_travel l g t) r.low (and_right (not_below s.low x) _ h) (travels l g v t from to).1 k)

  way_meets : EndsInReach (position_after x v d) (position_after x v e) r → meets (around_spans (moved_span s l g d) (moved_span s l g e)) r ≡ true
  unfolding meets
  way_meets k = and_true _ _ (below k.high_reached) (above k.low_reached)
    where
      first : Span
      first = moved_span s l g d

      last : Span
      last = moved_span s l g e

      below : (le_z (position_after x v d) r.high ≡ true) ⊎ (le_z (position_after x v e) r.high ≡ true) → not_below (lowest first.low last.low) r.high ≡ true
      below (inl p) =
          rw (below_either first.low last.low r.high) (or_left (not_below first.low r.high) (not_below last.low r.high) (low_end d p))
      below (inr p) =
          rw (below_either first.low last.low r.high) (or_right (not_below first.low r.high) (not_below last.low r.high) (low_end e p))

      above : (le_z r.low (position_after x v d) ≡ true) ⊎ (le_z r.low (position_after x v e) ≡ true) → not_above (highest first.high last.high) r.low ≡ true
      above (inl p) =
          rw (above_either first.high last.high r.low) (or_left (not_above first.high r.low) (not_above last.high r.low) (high_end d p))
      above (inr p) =
          rw (above_either first.high last.high r.low) (or_right (not_above first.high r.low) (not_above last.high r.low) (high_end e p))

-- the way of a float from the first time to the last
way_ends : (x v d e : ℤ) (r : Range) → in_time (passage_of (position_after x v (d -ℤ pos 0)) v r) (e -ℤ d) ≡ true → EndsInReach (position_after x v d) (position_after x v e) r
way_ends x v d e r h =
    let none : (z : ℤ) → z -ℤ pos 0 ≡ z = (λ z. omega (arith, signed, sub z (pos 0))) in
    let k = ends_in_reach (position_after x v (d -ℤ pos 0)) v (e -ℤ d) r h in
    rw (none d, none e) at (rw (sym (moved_on x v e (pos 0) d)) at k)

module _ (w : Window) (f : Placed) (r : Row) (h : held_by r f ≡ true) (k : in_window w f ≡ true) where
  in_times : (in_time (passage_of (position_after f.x f.drift.vx (w.first -ℤ pos 0)) f.drift.vx w.rect.x) (w.last -ℤ w.first) ≡ true)
      × (in_time (passage_of (position_after f.y f.drift.vy (w.first -ℤ pos 0)) f.drift.vy w.rect.y) (w.last -ℤ w.first) ≡ true)
  unfolding meeting
  in_times =
      let c = passage_of (position_after f.x f.drift.vx (w.first -ℤ pos 0)) f.drift.vx w.rect.x in
      let e = passage_of (position_after f.y f.drift.vy (w.first -ℤ pos 0)) f.drift.vy w.rect.y in
      let d = w.last -ℤ w.first in
      let t = and_left (in_time c d && in_time e d) (in_turn c e && in_turn e c) k in
      (and_left (in_time c d) (in_time e d) t, and_right (in_time c d) (in_time e d) t)

  own_meets : moved_around_meets w (own_cell f) r ≡ true
  unfolding moved_around_meets
  own_meets =
      let v = held_within h in
      let own = in_own_cell f.x f.y in
      let ox = in_span (cell_span (own_cell f).column) f.x in
      let oy = in_span (cell_span (own_cell f).row) f.y in
      and_true _ _
      (way_meets (cell_span (own_cell f).column) f.x f.drift.vx _ _ w.first w.last w.rect.x (and_left ox oy own) v.least_x v.greatest_x
      (way_ends f.x f.drift.vx w.first w.last w.rect.x in_times.0))
      (way_meets (cell_span (own_cell f).row) f.y f.drift.vy _ _ w.first w.last w.rect.y (and_right ox oy own) v.least_y v.greatest_y
      (way_ends f.y f.drift.vy w.first w.last w.rect.y in_times.1))

pub window_sees : WindowSees
window_sees w = record { own_cell-meets = own_meets w }

-- ---- one time

same_lowest : (e : End) → lowest e e ≡ e
same_lowest endless = refl
same_lowest (at e) = ap at (min-same e)

same_highest : (e : End) → highest e e ≡ e
same_highest endless = refl
same_highest (at e) = ap at (max-same e)

same_spans : (s : Span) → around_spans s s ≡ s
same_spans s = λ i. record { low = same_lowest s.low i; high = same_highest s.high i }

same_ranges : (a : Range) → around_ranges a a ≡ a
same_ranges a = λ i. record { low = min-same a.low i; high = max-same a.high i }

module _ (s : Slice) where
  abbrev once : Window
  once = record { rect = s.rect; first = s.d; last = s.d }

  same_expansion : (r : Row) → expanded_window once r ≡ expanded_rect s r
  unfolding expanded_window
  same_expansion r = λ i. record { x = same_ranges (expanded_rect s r).x i; y = same_ranges (expanded_rect s r).y i }

  same_meeting : (c : Cell) (r : Row) → moved_around_meets once c r ≡ moved_cell_meets s c r
  unfolding moved_around_meets moved_cell_meets
  same_meeting c r =
      let x = moved_span (cell_span c.column) r.least_vx r.greatest_vx s.d in
      let y = moved_span (cell_span c.row) r.least_vy r.greatest_vy s.d in
      λ i. meets (same_spans x i) s.rect.x && meets (same_spans y i) s.rect.y

pub one_time_is_timeslice : OneTimeIsTimeslice
one_time_is_timeslice s = record { same_expansion = same_expansion s; same_meeting = same_meeting s }
