-- The quarters of a square of the grid: they lie in it, their order is one less, and their numbers are in its numbers.
-- Assumes nothing.
use mathlib.Core.Path.{◌≡◌, ap, ◌∙◌}
use Prim.Native.Nat.{ℕ, suc, ◌+◌, ◌-◌, ◌*◌, ◌^◌, ◌<◌}
use native.Mathlib.Omega.{arith}
use lib.Dec.{T, ltb, ltb→lt}
use Rattle.grid.specs.Curve.{cell}
use Rattle.grid.specs.declared.Cell.{Cell}
use Rattle.shapes.specs.Claims.{cell_count}
use Rattle.shapes.proofs.Squares.{twice, four_quarters, part_within}
use Rattle.drawing.specs.Squares.{quarter_of}
use Rattle.drawing.specs.Needs.{Fits, Cuts}
use Rattle.drawing.specs.declared.squares.Square.{Square}

module _ (square : Square) where
  -- the side of a quarter
  abbrev pub half : ℕ
  half = 2 ^ (square.order - 1)

  pub next_order : 0 < square.order → square.order ≡ suc (square.order - 1)
  next_order h = omega arith

  -- the side and the cells of a square that has quarters
  two_halves : 0 < square.order → 2 ^ square.order ≡ half + half
  two_halves h = ap (λ (k : ℕ). 2 ^ k) (next_order h) ∙ twice (square.order - 1)

  pub four_parts : 0 < square.order → cell_count square.order ≡ 4 * cell_count (square.order - 1)
  four_parts h = ap cell_count (next_order h) ∙ four_quarters (square.order - 1)

  module _ (part : ℕ) (corner : Cell) where
    pub quarter_fits : Cuts square part corner → Fits (quarter_of square part corner)
    quarter_fits cuts =
        let f = cuts.fits in
        let s = half in
        let two = two_halves cuts.more in
        let four = four_parts cuts.more in
        record {
          orders = omega (arith, f.orders);
          columns = omega (arith, f.columns, part_within corner.column 2 s cuts.right_of);
          rows = omega (arith, f.rows, part_within corner.row 2 s cuts.upper_of);
          numbers = omega (arith, f.numbers, part_within part 4 (s * s) cuts.part_of);
        }

-- a square of an order above 0 has its quarters
pub cut :
    {square : Square} {part right upper : ℕ}
    → T (ltb part 4)
    → T (ltb right 2)
    → T (ltb upper 2)
    → Fits square
    → ((square.order ≡ 0) → ⊥)
    → Cuts square part (cell right upper)
cut {square} {part} {right} {upper} p r u fits more =
    record { fits = fits; more = omega arith; part_of = ltb→lt part 4 p; right_of = ltb→lt right 2 r; upper_of = ltb→lt upper 2 u }

-- which are of a lower order and lie on the grid
pub quarter_lower :
    (square : Square) {quarter : Square} (part : ℕ) (corner : Cell) {t : ℕ}
    → square.order ≡ t
    → quarter ≡ quarter_of square part corner
    → ((square.order ≡ 0) → ⊥)
    → quarter.order < t
quarter_lower square part corner at is more = rw is (omega arith)

pub quarter_on_grid : (square : Square) {quarter : Square} (part : ℕ) (corner : Cell) → quarter ≡ quarter_of square part corner → Cuts square part corner → Fits quarter
quarter_on_grid square part corner is cuts = rw is (quarter_fits square part corner cuts)
