-- What the chart program prints: document 02, A1. 32 lines of 32 numbers in 5 columns each, row 0 first. A byte is a number.
-- Assumes nothing.
use Rattle.std.specs.Prelude.{List, [], ◌∷◌, ◌++◌, ℕ, zero, suc, ◌+◌, ◌*◌}
use Prim.Native.Char.{code}
use Rattle.grid.specs.Units.{side}
use Rattle.grid.specs.Curve.{cell, curve_number}
use Rattle.fields.specs.Numbers.{in_columns}

-- the columns of a number
abbrev pub number_columns : ℕ
number_columns = 5

-- the bytes of a line and of the whole text
abbrev pub line_bytes : ℕ
line_bytes = side * number_columns + 1

abbrev pub chart_bytes : ℕ
chart_bytes = side * line_bytes

-- the curve numbers of n cells of a row, from a column on
unfoldable pub row_numbers : ℕ → ℕ → ℕ → List ℕ
row_numbers row column zero = []
row_numbers row column (suc n) = curve_number (cell column row) ∷ row_numbers row (suc column) n

-- those of n rows, from a row on
unfoldable pub grid_rows : ℕ → ℕ → List (List ℕ)
grid_rows row zero = []
grid_rows row (suc n) = row_numbers row 0 side ∷ grid_rows (suc row) n

-- the numbers of a row in a line, with its newline
unfoldable pub chart_line : List ℕ → List ℕ
chart_line numbers = in_columns number_columns numbers ++ code "\n" ∷ []

unfoldable pub chart_lines : List (List ℕ) → List ℕ
chart_lines [] = []
chart_lines (numbers ∷ rows) = chart_line numbers ++ chart_lines rows

abbrev pub chart_text : List ℕ
chart_text = chart_lines (grid_rows 0 side)
