-- The constant table is the case of order 5, and so is the constant itself.
-- Assumes nothing.
use mathlib.Core.Path.{◌≡◌, refl}
use mathlib.Core.List.{List}
use Prim.Native.Nat.{ℕ}
use lib.ListN.{length}
use Rattle.grid.specs.Units.{cells}
use Rattle.grid.proofs.CurveTables as Tables
use Rattle.grid.proofs.CurveLaws.{table_number, one_curve}
use Rattle.shapes.specs.Shapes.{ShapeA}
use Rattle.drawing.specs.Squares.{grid_square}
use Rattle.drawing.specs.Drawn.{drawn}
use Rattle.drawing.specs.Claims.{ConstantTableIsDrawn}
use Rattle.drawing.proofs.DrawnLaws.{whole_fits, drawn_long, drawn_is_curve}

pub constant_table_is_drawn : ConstantTableIsDrawn
constant_table_is_drawn constant before long curve long' =
    one_curve (drawn ShapeA grid_square before) constant (drawn_long grid_square whole_fits ShapeA before long') long (drawn_is_curve before long') curve

-- the list of 1,024 numbers by which crates/grid proves its constant
pub the_constant_is_drawn : (before : List ℕ) → length before ≡ cells → drawn ShapeA grid_square before ≡ Tables.curve
unfolding Tables.curve
the_constant_is_drawn before long = constant_table_is_drawn Tables.curve before refl (record { numbered = table_number }) long
