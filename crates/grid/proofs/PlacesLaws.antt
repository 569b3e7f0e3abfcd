-- The law of the grid that everything above cites: a position lies in the span of a column exactly when that is its column, the endless
-- sides of the edge columns included. Rows likewise, and cells by both.
-- Assumes nothing.
use mathlib.Core.Path.{◌≡◌, refl, ap, ap₂, ◌∙◌}
use mathlib.Core.Bool.{Bool, true, false, ◌&&◌}
use mathlib.Core.Logic.{◌⊎◌, inl, inr, dite}
use Prim.Native.Nat.{ℕ, zero, suc, ◌+◌, ◌*◌, ◌<◌, ◌≤◌, min, ◌/◌}
use native.Mathlib.Decide.{ℕ_discrete}
use native.Mathlib.Omega.{arith}
use lib.Dec.{eqb, eqb-suc-zero}
use lib.IntN.{ℤ, pos}
use borrow.Author.Tests.{eqb-true, eq-eqb, ne_eqb}
use Rattle.ints.specs.Whole.{floor_z}
use Rattle.ints.proofs.Parts.{up, one_part, up_floor, up_raised, le_true, true_le}
use Rattle.ints.proofs.Truth.{same_truth, and_true, and_left, and_right}
use Rattle.grid.specs.Units.{side, cell_size}
use Rattle.grid.specs.Places.{column_of, cell_span, in_span, end_at, not_below, not_above, cell_of, same_cell, in_cell, OnGrid}
use Rattle.grid.specs.declared.Cell.{Cell}

-- the column in ℕ, for omega
pub column_is : (x : ℤ) → column_of x ≡ min 31 (up x / cell_size)
unfolding column_of
column_is x = up_raised 31 (floor_z x cell_size) ∙ ap (min 31) (up_floor x cell_size)

pub column_on : (x : ℤ) → column_of x < side
column_on x = omega (arith, column_is x)

pub cell_on : (x y : ℤ) → OnGrid (cell_of x y)
cell_on x y = record { column_on = column_on x; row_on = column_on y }

-- ---- the two ends of a span, each in ℕ

low_passed : (i : ℕ) (x : ℤ) → not_below (cell_span i).low x ≡ true → cell_size * i ≤ up x
unfolding cell_span
low_passed zero x h = omega arith
low_passed (suc i) x h = omega (arith, le_true (pos (cell_size * suc i)) x (rw eqb-suc-zero at h), one_part x)

low_passes : (i : ℕ) (x : ℤ) → cell_size * i ≤ up x → not_below (cell_span i).low x ≡ true
unfolding cell_span
low_passes zero x h = refl
low_passes (suc i) x h = rw eqb-suc-zero (true_le (pos (cell_size * suc i)) x (omega (arith, one_part x)))

high_passed : (i : ℕ) (x : ℤ) → not_above (cell_span i).high x ≡ true → (i ≡ 31 → ⊥) → up x ≤ cell_size * i + 262143
unfolding cell_span
high_passed i x h inner = omega (arith, le_true x (pos (cell_size * i + 262143)) (rw (ne_eqb i 31 inner) at h), one_part x)

high_passes : (i : ℕ) (x : ℤ) → (i ≡ 31) ⊎ (up x ≤ cell_size * i + 262143) → not_above (cell_span i).high x ≡ true
unfolding cell_span
high_passes i x (inl last) = rw (eq-eqb i 31 last)
high_passes i x (inr h) = go (eqb i 31)
  where
    go : (t : Bool) → not_above (end_at t (pos (cell_size * i + 262143))) x ≡ true
    go true = refl
    go false = true_le x (pos (cell_size * i + 262143)) (omega (arith, one_part x))

-- ---- both ways

-- a column that starts at a position or below is not past that position's column
pub starts_by_column : (i : ℕ) → i < side → (x : ℤ) → not_below (cell_span i).low x ≡ true → i ≤ column_of x
starts_by_column i on x h = omega (arith, column_is x, low_passed i x h)

-- and one that ends at a position or above is not before that position's column
pub ends_from_column : (i : ℕ) (x : ℤ) → not_above (cell_span i).high x ≡ true → column_of x ≤ i
ends_from_column i x h =
    dite (ℕ_discrete i 31) (λ last. omega (arith, column_is x)) (λ inner. omega (arith, column_is x, high_passed i x h inner))

in_own_span : (i : ℕ) → i < side → (x : ℤ) → in_span (cell_span i) x ≡ true → column_of x ≡ i
unfolding in_span
in_own_span i on x h =
    let l = starts_by_column i on x (and_left _ (not_above (cell_span i).high x) h) in
    let r = ends_from_column i x (and_right (not_below (cell_span i).low x) _ h) in
    omega arith

own_span_holds : (x : ℤ) → in_span (cell_span (column_of x)) x ≡ true
unfolding in_span
own_span_holds x =
    and_true _ _ (low_passes (column_of x) x (omega (arith, column_is x)))
    (high_passes (column_of x) x
    (dite (ℕ_discrete (column_of x) 31) inl (λ inner. inr (omega (arith, column_is x)))))

-- a position lies in the span of a column exactly when that is its column
pub in_span_lem : (i : ℕ) → i < side → (x : ℤ) → in_span (cell_span i) x ≡ eqb (column_of x) i
in_span_lem i on x =
    same_truth _ _ (λ h. eq-eqb _ i (in_own_span i on x h))
    (λ e. rw (← eqb-true (column_of x) i e) (own_span_holds x))

-- ---- cells

pub one_cell : {a b : Cell} → a.column ≡ b.column → a.row ≡ b.row → a ≡ b
one_cell p q = λ i. record { column = p i; row = q i }

pub same_cell_lem : (a b : Cell) → same_cell a b ≡ true → a ≡ b
same_cell_lem a b h =
    one_cell
    (eqb-true a.column b.column (and_left (eqb a.column b.column) (eqb a.row b.row) h))
    (eqb-true a.row b.row (and_right (eqb a.column b.column) (eqb a.row b.row) h))

pub cell_same : {a b : Cell} → a ≡ b → same_cell a b ≡ true
cell_same {a} {b} e =
    and_true _ _ (eq-eqb a.column b.column (ap (λ (c : Cell). c.column) e)) (eq-eqb a.row b.row (ap (λ (c : Cell). c.row) e))

-- a position lies in a cell exactly when that is its cell
pub in_cell_lem : (c : Cell) → OnGrid c → (x y : ℤ) → in_cell c x y ≡ same_cell (cell_of x y) c
in_cell_lem c on x y = ap₂ ◌&&◌ (in_span_lem c.column on.column_on x) (in_span_lem c.row on.row_on y)

pub in_own_cell : (x y : ℤ) → in_cell (cell_of x y) x y ≡ true
in_own_cell x y = and_true _ _ (own_span_holds x) (own_span_holds y)

pub in_no_other_cell : (c : Cell) → OnGrid c → (x y : ℤ) → in_cell c x y ≡ true → cell_of x y ≡ c
in_no_other_cell c on x y h =
    let u = in_own_span c.column on.column_on x (and_left _ (in_span (cell_span c.row) y) h) in
    let v = in_own_span c.row on.row_on y (and_right (in_span (cell_span c.column) x) _ h) in
    one_cell u v
