-- The P cases of document 01 so far: those of the grid, and P11, which speaks of the methods, as document 02, A6, has it; the limits of d; and the
-- bounds of a block of four cells, one cell after another.
-- Assumes nothing.
use Rattle.std.specs.Prelude.{cond, List, [], ◌∷◌, ◌++◌, ℕ, ℤ, pos, negsuc, length}
use Rattle.ints.specs.Examples.{Example}
use Rattle.grid.specs.Places.{same_cell, cell_of}
use Rattle.grid.specs.Examples as Grid
use Rattle.rows.specs.Phases.{since_reference}
use Rattle.rows.specs.Row.{empty_row, widened}
use Rattle.rows.specs.declared.Row.{Row}
use Rattle.methods.specs.Aims.{slice_aim, placed_by}
use Rattle.methods.specs.Methods.{Rows, Choice, choice}
use Rattle.methods.specs.BoundsInOnePass.{bounds_after}
use Rattle.methods.specs.Slices.{earliest, latest}
use Rattle.methods.specs.declared.Block.{Block}
use Rattle.methods.specs.declared.Slice.{Slice}

-- rows with one float more, placed at (x, y)
abbrev pub with_float : Rows → ℤ → ℤ → ℤ → ℤ → Rows
with_float rows x y vx vy c = cond (same_cell (cell_of x y) c) (widened (rows c) (record { vx = vx; vy = vy })) (rows c)

-- rows with one float more of P11, reported at 0 and placed in phase 0
abbrev pub with_float_p11 : Rows → ℤ → ℤ → Rows
with_float_p11 rows x vx =
    let placed = placed_by 0 (record { id = pos 1; t = pos 0; x = x; y = pos 500; vx = vx; vy = pos 0 }) in
    with_float rows placed.x placed.y vx (pos 0)

unfoldable pub rows_p11 : Rows
rows_p11 =
    with_float_p11 (with_float_p11 (with_float_p11 (λ c. empty_row) (pos 2700000) (pos 0)) (pos 1100000) (pos 200)) (pos 5300000) (pos 500)

-- its ask for 3,600, seen from phase 0
abbrev pub slice_p11 : Slice
slice_p11 = record {
  rect = record { x = record { low = pos 2621440; high = pos 2883583 }; y = record { low = pos 0; high = pos 1000 } };
  d = since_reference 0 (pos 3600);
}

unfoldable pub choice_p11 : ℕ → Choice
choice_p11 method = choice method rows_p11 (slice_aim slice_p11)

unfoldable pub examples : List (Example ℕ)
examples =
    Grid.examples
    ++ record { given = length (choice_p11 0).cells; said = 5 }
    ∷ record { given = length (choice_p11 1).cells; said = 1 }
    ∷ record { given = length (choice_p11 2).cells; said = 1 }
    ∷ record { given = length (choice_p11 3).cells; said = 1 }
    ∷ record { given = (choice_p11 2).rounds; said = 1 }
    ∷ []

-- d is from -5,400 to 16,199
unfoldable pub limits : List (Example ℕ)
limits = record { given = earliest; said = 5400 } ∷ record { given = latest; said = 16199 } ∷ []

-- both ends come up: for phase 3 at its first second, 10,800, and an hour before that; for phase 1 at its last, 14,399, and two hours after that
unfoldable pub ends : List (Example ℤ)
ends = record { given = since_reference 3 (pos 7200); said = negsuc 5399 } ∷ record { given = since_reference 1 (pos 21599); said = pos 16199 } ∷ []

-- columns 3 and 4, rows 7 and 8; one float in each of its cells but (4,7)
abbrev pub block_of_four : Block
block_of_four = record { first_column = 3; last_column = 4; first_row = 7; last_row = 8 }

unfoldable pub rows_of_four : Rows
rows_of_four =
    with_float
    (with_float (with_float (λ c. empty_row) (pos 786432) (pos 1835008) (pos 5) (pos 0)) (pos 786432) (pos 2097152) (negsuc 1) (pos 9))
    (pos 1048576)
    (pos 2097152)
    (pos 7)
    (negsuc 0)

abbrev pub row_by : ℤ → ℤ → ℤ → ℤ → Row
row_by least-vx greatest-vx least-vy greatest-vy =
    record { least_vx = least-vx; greatest_vx = greatest-vx; least_vy = least-vy; greatest_vy = greatest-vy }

unfoldable pub bounds_of_four : List (Example Row)
bounds_of_four =
    record { given = bounds_after 0 rows_of_four block_of_four; said = empty_row }
    ∷ record { given = bounds_after 1 rows_of_four block_of_four; said = row_by (pos 5) (pos 5) (pos 0) (pos 0) }
    ∷ record { given = bounds_after 2 rows_of_four block_of_four; said = row_by (pos 5) (pos 5) (pos 0) (pos 0) }
    ∷ record { given = bounds_after 3 rows_of_four block_of_four; said = row_by (negsuc 1) (pos 5) (pos 0) (pos 9) }
    ∷ record { given = bounds_after 4 rows_of_four block_of_four; said = row_by (negsuc 1) (pos 7) (negsuc 0) (pos 9) }
    ∷ []
