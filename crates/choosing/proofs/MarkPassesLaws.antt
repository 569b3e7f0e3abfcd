-- The cells of a block as the loops that mark pass them: the cells of a row from a column on, and the cells of the rows from a row on.
-- Assumes nothing.
use mathlib.Core.Path.{◌≡◌}
use mathlib.Core.List.{List, [], ◌∷◌, ◌++◌}
use Prim.Native.Nat.{ℕ, suc, ◌+◌, ◌-◌, ◌≤◌, ◌<◌}
use native.Mathlib.Omega.{arith}
use Rattle.grid.specs.Curve.{cell}
use Rattle.grid.specs.declared.Cell.{Cell}
use Rattle.methods.specs.Reach.{cells_of_row, cells_of_rows}
use Rattle.methods.specs.declared.Block.{Block}

-- ---- a row of cells

-- the block's cells of a row, from a column on
abbrev pub row_from : Block → ℕ → ℕ → List Cell
row_from b row column = cells_of_row row column (suc b.last_column - column)

pub row_before : (b : Block) (row column : ℕ) → column < b.last_column + 1 → row_from b row column ≡ cell column row ∷ row_from b row (column + 1)
unfolding cells_of_row
row_before b row column h =
    let e : suc b.last_column - column ≡ suc (suc b.last_column - (column + 1)) = omega arith in
    let n : suc column ≡ column + 1 = omega arith in
    rw (e, n)

pub row_none : (b : Block) (row column : ℕ) → b.last_column + 1 ≤ column → row_from b row column ≡ []
unfolding cells_of_row
row_none b row column h = let e : suc b.last_column - column ≡ 0 = omega arith in rw e

-- ---- the rows of a block

-- the cells of the block's rows, from a row on
abbrev pub rows_from : Block → ℕ → List Cell
rows_from b row = cells_of_rows b row (suc b.last_row - row)

pub rows_before : (b : Block) (row : ℕ) → row < b.last_row + 1 → rows_from b row ≡ row_from b row b.first_column ++ rows_from b (row + 1)
unfolding cells_of_rows
rows_before b row h =
    let e : suc b.last_row - row ≡ suc (suc b.last_row - (row + 1)) = omega arith in
    let n : suc row ≡ row + 1 = omega arith in
    rw (e, n)

pub rows_none : (b : Block) (row : ℕ) → b.last_row + 1 ≤ row → rows_from b row ≡ []
unfolding cells_of_rows
rows_none b row h = let e : suc b.last_row - row ≡ 0 = omega arith in rw e
