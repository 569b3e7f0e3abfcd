-- The optimal method's test is exact for a timeslice: it passes at a cell on the grid exactly when some float of the cell, by what its row allows,
-- is in the rectangle d seconds later. Both axes together, from the law of one axis.
-- Assumes nothing.
use mathlib.Core.Path.{◌≡◌, refl, sym, subst}
use mathlib.Core.Bool.{Bool, true, false, ◌&&◌, not}
use mathlib.Core.Logic.{◌↔◌}
use Prim.Native.Nat.{◌≤◌}
use native.Mathlib.Omega.{arith}
use lib.IntN.{ℤ, pos, neg_ℤ, nat_abs}
use lib.Signed.{le_z}
use Rattle.ints.proofs.Parts.{true_false, signed, abs, one_part}
use Rattle.ints.proofs.Truth.{and_true, and_left, and_right}
use Rattle.grid.specs.Units.{cell_size}
use Rattle.grid.specs.Places.{cell_span, OnGrid}
use Rattle.grid.specs.Reports.{in_rect}
use Rattle.grid.specs.declared.Cell.{Cell}
use Rattle.grid.proofs.PlacesLaws.{in_no_other_cell}
use Rattle.rows.specs.Row.{is_empty, holds}
use Rattle.rows.proofs.RowLaws.{holds_not_empty, valid_ranged}
use Rattle.methods.specs.Reach.{moved_span, meets, moved_cell_meets}
use Rattle.methods.specs.Aims.{Aim, slice_aim, Placed, own_cell, held_by, in_slice}
use Rattle.methods.specs.Fair.{Sees}
use Rattle.methods.specs.Methods.{Rows, is_reached}
use Rattle.methods.specs.Slices.{earliest, latest, IsSlice}
use Rattle.methods.specs.Claims.{ValidRows, Reaches}
use Rattle.methods.specs.declared.Slice.{Slice}
use Rattle.methods.proofs.Axis.{meets_leads}
use Rattle.methods.proofs.Timeslice.{timeslice_sees}

-- d is no greater than a cell is wide
short : (d : ℤ) → le_z (neg_ℤ (pos earliest)) d ≡ true → le_z d (pos latest) ≡ true → nat_abs d ≤ cell_size
short d h k = omega (arith, signed, abs d, one_part d)

-- a cell with a float that is inside is reached
module _ (rows : Rows) (aim : Aim) {inside : Placed → Bool} (sees : Sees aim inside) where
  pub own_reached : (f : Placed) → held_by (rows (own_cell f)) f ≡ true → inside f ≡ true → is_reached rows aim (own_cell f) ≡ true
  own_reached f h k =
      rw (holds_not_empty (rows (own_cell f)) f.drift h) (sees.own_cell-meets f (rows (own_cell f)) h k)

  pub reaches_reached : {c : Cell} → OnGrid c → Reaches rows inside c → is_reached rows aim c ≡ true
  reaches_reached {c} on r =
      let f = r.float in
      let e = in_no_other_cell c on f.x f.y r.in_cell_lem in
      let h = subst (λ (o : Cell). held_by (rows o) f ≡ true) (sym e) r.in_row in
      subst (λ (o : Cell). is_reached rows aim o ≡ true) e (own_reached f h r.is_inside)

module _ (rows : Rows) (valid : ValidRows rows) (s : Slice) (is : IsSlice s) where
  pub reached_reaches : {c : Cell} → OnGrid c → is_reached rows (slice_aim s) c ≡ true → Reaches rows (in_slice s) c
  unfolding moved_cell_meets in_rect holds
  reached_reaches {c} on h = go (is_empty (rows c)) refl h
    where
      go : (t : Bool) → is_empty (rows c) ≡ t → not t && moved_cell_meets s c (rows c) ≡ true → Reaches rows (in_slice s) c
      go true e k = absurd (true_false (sym k))
      go false e k =
          let w = valid_ranged (rows c) (valid c on) e in
          let small = short s.d is.not_early is.not_late in
          let o = is.in_order in
          let mx = meets (moved_span (cell_span c.column) (rows c).least_vx (rows c).greatest_vx s.d) s.rect.x in
          let my = meets (moved_span (cell_span c.row) (rows c).least_vy (rows c).greatest_vy s.d) s.rect.y in
          let x = meets_leads c.column _ _ s.d s.rect.x small w.x.order o.x_ordered (and_left mx my k) in
          let y = meets_leads c.row _ _ s.d s.rect.y small w.y.order o.y_ordered (and_right mx my k) in
          record {
            float = record { x = x.x; y = y.x; drift = record { vx = x.v; vy = y.v } };
            in_cell_lem = and_true _ _ x.in_span_lem y.in_span_lem;
            in_row = and_true _ _ (and_true _ _ x.from_least x.to_greatest) (and_true _ _ y.from_least y.to_greatest);
            is_inside = and_true _ _ x.in_range_lem y.in_range_lem;
          }

  pub reached_is_exact : (c : Cell) → OnGrid c → (is_reached rows (slice_aim s) c ≡ true) ↔ Reaches rows (in_slice s) c
  reached_is_exact c on = (reached_reaches on, reaches_reached rows (slice_aim s) (timeslice_sees s) on)
