-- The cells of a shape, part by part: the r-th cell of the j-th part.
-- Assumes nothing.
use mathlib.Core.Path.{◌≡◌, ap₂}
use Prim.Native.Nat.{ℕ, suc, ◌+◌, ◌*◌, ◌^◌, ◌<◌}
use Rattle.shapes.specs.Shapes.{Shape, part_of, placed_at, visit}
use Rattle.shapes.specs.Claims.{cell_count}
use Rattle.shapes.proofs.Squares.{quarter_is, rest_is}

pub visit_part : (k : ℕ) (f : Shape) (j r : ℕ) → r < cell_count k → visit (suc k) f (j * cell_count k + r) ≡ placed_at (part_of f j).corner (2 ^ k) (visit k (part_of f j).shape r)
unfolding visit
visit_part k f j r h =
    ap₂ (λ (i m : ℕ). placed_at (part_of f i).corner (2 ^ k) (visit k (part_of f i).shape m)) (quarter_is j (cell_count k) r h) (rest_is j (cell_count k) r h)
