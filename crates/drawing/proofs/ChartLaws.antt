-- The chart's rows: where they stand in a curve table, how long their lines are, and the whole text in its bytes. Of the bytes, 10 is the newline.
-- Assumes nothing.
use mathlib.Core.Path.{◌≡◌, refl, sym, ap, ap₂, ◌∙◌}
use mathlib.Core.List.{List, [], ◌∷◌, ◌++◌, append-nil}
use Prim.Native.Nat.{ℕ, zero, suc, ◌+◌, ◌-◌, ◌*◌, ◌≤◌, ◌<◌}
use native.Mathlib.Nat.{add-zero, zero-add}
use native.Mathlib.Omega.{arith}
use lib.Dec.{lit≤, lit<}
use lib.ListN.{length, get_or, take, drop, set, length-append, drop_of_length-le}
use lib.Seq.{drop-cons}
use Rattle.grid.specs.Units.{side, cells}
use Rattle.grid.specs.Places.{OnGrid}
use Rattle.grid.specs.Curve.{cell, IsCurve}
use Rattle.grid.proofs.CurveLaws.{number_below}
use Rattle.fields.specs.Numbers.{in_columns}
use Rattle.fields.specs.Put.{put}
use Rattle.fields.proofs.PutLaws.{put_more, put_front}
use Rattle.fields.proofs.NumbersLaws.{InTurn, length-texts, length-in_columns}
use Rattle.drawing.specs.Chart.{number_columns, line_bytes, chart_bytes, row_numbers, grid_rows, chart_line, chart_lines, chart_text}

-- ---- rows of a curve table

row_of-table :
    (numbers : List ℕ) (row column n : ℕ)
    → length numbers ≡ cells
    → IsCurve numbers
    → row < side
    → column + n ≤ side
    → take n (drop (row * side + column) numbers) ≡ row_numbers row column n
unfolding row_numbers
row_of-table numbers row column zero long curve h l = refl
row_of-table numbers row column (suc n) long curve h l =
    let place = row * side + column in
    let on : OnGrid (cell column row) = record { column_on = omega arith; row_on = h } in
    let next : suc place ≡ row * side + suc column = omega arith in
    ap (take (suc n)) (drop-cons numbers place 0 (omega arith))
    ∙ ap₂ ◌∷◌ (curve.numbered (cell column row) on)
    (ap (λ (i : ℕ). take n (drop i numbers)) next ∙ row_of-table numbers row (suc column) n long curve h (omega arith))

-- the numbers of a whole row
pub row_part :
    (numbers : List ℕ) (row : ℕ)
    → length numbers ≡ cells
    → IsCurve numbers
    → row < side
    → take (row * side + side - row * side) (drop (row * side) numbers) ≡ row_numbers row 0 side
row_part numbers row long curve h =
    let wide : row * side + side - row * side ≡ side = omega arith in
    ap₂ (λ (n i : ℕ). take n (drop i numbers)) wide (sym (add-zero (row * side))) ∙ row_of-table numbers row 0 side long curve h (lit≤ tt)

pub row_length : (row column n : ℕ) → length (row_numbers row column n) ≡ n
unfolding row_numbers
row_length row column zero = refl
row_length row column (suc n) = ap suc (row_length row (suc column) n)

pub rows_length : (row n : ℕ) → length (grid_rows row n) ≡ n
unfolding grid_rows
rows_length row zero = refl
rows_length row (suc n) = ap suc (rows_length (suc row) n)

row_at : (row n i : ℕ) → i < n → get_or (grid_rows row n) i [] ≡ row_numbers (row + i) 0 side
unfolding grid_rows
row_at row zero i h = absurd (omega arith)
row_at row (suc n) zero h = ap (λ (k : ℕ). row_numbers k 0 side) (omega arith)
row_at row (suc n) (suc i) h =
    let next : suc row + i ≡ row + suc i = omega arith in
    row_at (suc row) n i (omega arith) ∙ ap (λ (k : ℕ). row_numbers k 0 side) next

-- ---- lines

pub lines_in_turn : InTurn chart_line chart_lines
unfolding chart_lines
lines_in_turn = record { none = refl; more = λ numbers rows. refl }

-- a line whose numbers are put first, and then its newline
pub line_put :
    (out out' numbers : List ℕ) (at : ℕ)
    → length numbers ≡ side
    → ((i : ℕ) → get_or numbers i 0 < 65536)
    → at + line_bytes ≤ length out
    → length out' ≡ length out
    → out' ≡ put out at (in_columns number_columns numbers)
    → set out' (at + line_bytes - 1) 10 ≡ put out at (chart_line numbers)
unfolding chart_line
line_put out out' numbers at long small room same is =
    let text = in_columns number_columns numbers in
    let wide = length-in_columns number_columns (lit≤ tt) numbers small in
    let end : at + line_bytes - 1 ≡ at + length text = omega arith in
    ap (λ (i : ℕ). set out' i 10) end ∙ put_more out out' text at 10 (omega arith) same is

-- ---- the rows of the grid

row_short : (row column n : ℕ) → row < side → column + n ≤ side → (i : ℕ) → get_or (row_numbers row column n) i 0 < 65536
unfolding row_numbers
row_short row column zero h l i = lit< tt
row_short row column (suc n) h l zero =
    let on : OnGrid (cell column row) = record { column_on = omega arith; row_on = h } in
    omega (arith, number_below (cell column row) on)
row_short row column (suc n) h l (suc i) = row_short row (suc column) n h (omega arith) i

row_bytes : (row : ℕ) → row < side → length (chart_line (row_numbers row 0 side)) ≡ line_bytes
unfolding chart_line
row_bytes row h =
    length-append (in_columns number_columns (row_numbers row 0 side)) (10 ∷ [])
    ∙ omega (arith, length-in_columns number_columns (lit≤ tt) (row_numbers row 0 side) (row_short row 0 side h (lit≤ tt)), row_length row 0 side)

-- the line that is put for a row, and the text that they are
pub line_at : (row : ℕ) → row < side → get_or (grid_rows 0 side) row [] ≡ row_numbers row 0 side
line_at row h = row_at 0 side row h ∙ ap (λ (k : ℕ). row_numbers k 0 side) (zero-add row)

pub line_bytes_lem : (row : ℕ) → row < side → length (chart_line (get_or (grid_rows 0 side) row [])) ≡ line_bytes
line_bytes_lem row h = ap (λ (numbers : List ℕ). length (chart_line numbers)) (line_at row h) ∙ row_bytes row h

text_bytes : length chart_text ≡ chart_bytes
text_bytes =
    length-texts lines_in_turn line_bytes [] (grid_rows 0 side) (λ row h. line_bytes_lem row (rw (rows_length 0 side) at h))
    ∙ ap (λ (n : ℕ). line_bytes * n) (rows_length 0 side)

-- it fills its bytes
pub text_alone : (out : List ℕ) → length out ≡ chart_bytes → put out 0 chart_text ≡ chart_text
text_alone out long =
    let bytes = text_bytes in
    let fills : length out ≤ length chart_text = omega arith in
    put_front out chart_text
    ∙ ap (λ (rest : List ℕ). chart_text ++ rest) (drop_of_length-le out fills)
    ∙ append-nil chart_text
