-- A timeslice is a fair aim, whatever d is, and a float that is in its rectangle lies in a cell that meets.
-- Assumes nothing.
use mathlib.Core.Path.{◌≡◌, subst}
use mathlib.Core.Bool.{true, false, ◌&&◌}
use mathlib.Core.List.{Memᴰ}
use Prim.Native.Nat.{ℕ, ◌≤◌, ◌<◌}
use lib.IntN.{ℤ}
use Rattle.ints.specs.Whole.{between}
use Rattle.ints.proofs.Truth.{and_true, and_left, and_right}
use Rattle.grid.specs.Units.{side}
use Rattle.grid.specs.Places.{OnGrid, position_after, column_of, cell_span, in_span, not_below, not_above}
use Rattle.grid.specs.Reports.{in_rect}
use Rattle.grid.specs.declared.Cell.{Cell}
use Rattle.grid.specs.declared.Range.{Range}
use Rattle.grid.proofs.PlacesLaws.{in_own_cell, starts_by_column, ends_from_column}
use Rattle.rows.specs.Row.{joined, is_empty, valid_row, Within}
use Rattle.rows.specs.declared.Row.{Row}
use Rattle.rows.proofs.RowLaws.{within_joined_left, held_within, valid_ranged}
use Rattle.methods.specs.Reach.{expanded_range, expanded_rect, block_of, cells_of, moved_span, meets, moved_cell_meets}
use Rattle.methods.specs.Aims.{Placed, own_cell, held_by, in_slice}
use Rattle.methods.specs.Fair.{InOrder, RectWithin}
use Rattle.methods.specs.Claims.{TimesliceIsFair, TimesliceSees}
use Rattle.methods.specs.declared.Slice.{Slice}
use Rattle.methods.proofs.Axis.{expanded_ordered, expanded_grows, Leads, leads_meets, meets_expanded}
use Rattle.methods.proofs.Blocks.{cells_have}

-- ---- fair

-- a moved column that meets a range lies between the columns of the expanded range
meets_between :
    (i : ℕ)
    → i < side
    → (l g d : ℤ) (r : Range)
    → meets (moved_span (cell_span i) l g d) r ≡ true
    → (column_of (expanded_range r l g d).low ≤ i) × (i ≤ column_of (expanded_range r l g d).high)
meets_between i on l g d r m =
    let e = expanded_range r l g d in
    let k : not_below (cell_span i).low e.high && not_above (cell_span i).high e.low ≡ true = rw (meets_expanded (cell_span i) l g d r) at m in
    (ends_from_column i e.low (and_right (not_below (cell_span i).low e.high) _ k), starts_by_column i on e.high (and_left _ (not_above (cell_span i).high e.low) k))

module _ (s : Slice) where
  pub slice_ordered : InOrder s.rect → (w : Row) → valid_row w ≡ true → is_empty w ≡ false → InOrder (expanded_rect s w)
  unfolding expanded_rect
  slice_ordered o w v e =
      let k = valid_ranged w v e in
      record {
        x_ordered = expanded_ordered s.rect.x _ _ s.d o.x_ordered k.x.order;
        y_ordered = expanded_ordered s.rect.y _ _ s.d o.y_ordered k.y.order;
      }

  pub slice_grows : (v w : Row) → joined v w ≡ w → RectWithin (expanded_rect s v) (expanded_rect s w)
  unfolding expanded_rect
  slice_grows v w e =
      let h = subst (Within v) e (within_joined_left v w) in
      let x = expanded_grows s.rect.x _ _ _ _ s.d h.least_x h.greatest_x in
      let y = expanded_grows s.rect.y _ _ _ _ s.d h.least_y h.greatest_y in
      record { x_from = x.low_at; x_to = x.high_at; y_from = y.low_at; y_to = y.high_at }

  slice_own_block : (c : Cell) → OnGrid c → (w : Row) → moved_cell_meets s c w ≡ true → Memᴰ c (cells_of (block_of (expanded_rect s w)))
  unfolding moved_cell_meets expanded_rect block_of
  slice_own_block c on w m =
      let mx = meets (moved_span (cell_span c.column) w.least_vx w.greatest_vx s.d) s.rect.x in
      let my = meets (moved_span (cell_span c.row) w.least_vy w.greatest_vy s.d) s.rect.y in
      let x = meets_between c.column on.column_on _ _ s.d s.rect.x (and_left mx my m) in
      let y = meets_between c.row on.row_on _ _ s.d s.rect.y (and_right mx my m) in
      cells_have (block_of (expanded_rect s w)) (record { from_column = x.0; to_column = x.1; from_row = y.0; to_row = y.1 })

pub timeslice_is_fair : TimesliceIsFair
timeslice_is_fair s o = record { ordered = slice_ordered s o; grows = slice_grows s; in_own_block = slice_own_block s }

-- ---- floats in the rectangle

module _ (s : Slice) (f : Placed) (w : Row) (h : held_by w f ≡ true) (k : in_slice s f ≡ true) where
  leads_x : Leads (own_cell f).column w.least_vx w.greatest_vx s.d s.rect.x
  unfolding in_rect
  leads_x =
      let v = held_within h in
      let y = position_after f.y f.drift.vy s.d in
      record {
        x = f.x;
        v = f.drift.vx;
        in_span_lem = and_left _ (in_span (cell_span (own_cell f).row) f.y) (in_own_cell f.x f.y);
        from_least = v.least_x;
        to_greatest = v.greatest_x;
        in_range_lem = and_left _ (between s.rect.y.low s.rect.y.high y) k;
      }

  leads_y : Leads (own_cell f).row w.least_vy w.greatest_vy s.d s.rect.y
  unfolding in_rect
  leads_y =
      let v = held_within h in
      let x = position_after f.x f.drift.vx s.d in
      record {
        x = f.y;
        v = f.drift.vy;
        in_span_lem = and_right (in_span (cell_span (own_cell f).column) f.x) _ (in_own_cell f.x f.y);
        from_least = v.least_y;
        to_greatest = v.greatest_y;
        in_range_lem = and_right (between s.rect.x.low s.rect.x.high x) _ k;
      }

  own_meets : moved_cell_meets s (own_cell f) w ≡ true
  unfolding moved_cell_meets
  own_meets =
      and_true _ _ (leads_meets (own_cell f).column _ _ s.d s.rect.x leads_x) (leads_meets (own_cell f).row _ _ s.d s.rect.y leads_y)

pub timeslice_sees : TimesliceSees
timeslice_sees s = record { own_cell-meets = own_meets s }
