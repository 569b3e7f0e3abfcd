-- The cells of a block: a cell is among them exactly when its column and its row are the block's, and each stands once.
-- Of a list that has each cell once, so have the cells that pass a test.
-- Assumes nothing.
use mathlib.Core.Path.{◌≡◌, refl, ap}
use mathlib.Core.Bool.{Bool, true, false, cond}
use mathlib.Core.List.Memᴰ
use mathlib.Core.List.{List, [], ◌∷◌, ◌++◌, Memᴰ}
use mathlib.Core.Logic.{⊎_elim, dite, ◌↔◌}
use Prim.Native.Nat.{ℕ, zero, suc, ◌+◌, ◌≤◌, ◌<◌}
use native.Mathlib.Decide.{ℕ_discrete}
use native.Mathlib.Omega.{arith}
use Rattle.ints.specs.Lists.{passing}
use Rattle.ints.proofs.Lists.{passing_in}
use Rattle.grid.specs.Places.{OnGrid}
use Rattle.grid.specs.Curve.{cell}
use Rattle.grid.specs.declared.Cell.{Cell}
use Rattle.grid.proofs.PlacesLaws.{one_cell}
use Rattle.methods.specs.Reach.{columns_of, rows_of, cells_of_row, cells_of_rows, cells_of, whole_grid, InBlock}
use Rattle.methods.specs.declared.Block.{Block}

-- ---- membership

in_row : {c : Cell} (row column n : ℕ) → Memᴰ c (cells_of_row row column n) → (c.row ≡ row) × (column ≤ c.column) × (c.column < column + n)
unfolding cells_of_row
in_row row column zero m = absurd (Memᴰ.not-nil m)
in_row {c} row column (suc n) m =
    ⊎_elim
    (λ (e : c ≡ cell column row). let a = ap (λ (x : Cell). x.column) e in (ap (λ (x : Cell). x.row) e, omega arith, omega arith))
    (λ k. let r = in_row row (suc column) n k in (r.0, omega arith, omega arith))
    (Memᴰ.cases_cons m)

row_has : (c : Cell) (row column n : ℕ) → c.row ≡ row → column ≤ c.column → c.column < column + n → Memᴰ c (cells_of_row row column n)
unfolding cells_of_row
row_has c row column zero e h k = absurd (omega arith)
row_has c row column (suc n) e h k =
    dite (ℕ_discrete c.column column)
    (λ p. Memᴰ.head (one_cell p e))
    (λ p. Memᴰ.tail (row_has c row (suc column) n e (omega arith) (omega arith)))

in_rows : {c : Cell} (b : Block) (row n : ℕ) → Memᴰ c (cells_of_rows b row n) → (row ≤ c.row) × (c.row < row + n) × (b.first_column ≤ c.column) × (c.column < b.first_column + columns_of b)
unfolding cells_of_rows
in_rows b row zero m = absurd (Memᴰ.not-nil m)
in_rows b row (suc n) m =
    ⊎_elim
    (λ k. let r = in_row row b.first_column (columns_of b) k in omega arith)
    (λ k. let r = in_rows b (suc row) n k in omega arith)
    (Memᴰ.append_cases (cells_of_row row b.first_column (columns_of b)) m)

rows_have : (c : Cell) (b : Block) (row n : ℕ) → row ≤ c.row → c.row < row + n → b.first_column ≤ c.column → c.column < b.first_column + columns_of b → Memᴰ c (cells_of_rows b row n)
unfolding cells_of_rows
rows_have c b row zero h k u v = absurd (omega arith)
rows_have c b row (suc n) h k u v =
    dite (ℕ_discrete c.row row)
    (λ p. Memᴰ.append_left _ (row_has c row b.first_column (columns_of b) p u v))
    (λ p. Memᴰ.append_right (cells_of_row row b.first_column (columns_of b)) (rows_have c b (suc row) n (omega arith) (omega arith) u v))

pub cells_in : {c : Cell} (b : Block) → Memᴰ c (cells_of b) → InBlock b c
unfolding cells_of
cells_in b m = let r = in_rows b b.first_row (rows_of b) m in omega arith

pub cells_have : {c : Cell} (b : Block) → InBlock b c → Memᴰ c (cells_of b)
unfolding cells_of
cells_have {c} b h = rows_have c b b.first_row (rows_of b) (omega arith) (omega arith) (omega arith) (omega arith)

-- a cell is among a block's exactly when its column and its row are the block's
pub cells_exactly : (b : Block) (c : Cell) → Memᴰ c (cells_of b) ↔ InBlock b c
cells_exactly b c = (cells_in b, cells_have b)

pub grid_has : (c : Cell) → OnGrid c → Memᴰ c (cells_of whole_grid)
grid_has c on = cells_have whole_grid (omega arith)

-- ---- blocks within blocks

pub record BlockWithin (a b : Block) : Type 0 where
  pub columns_from : b.first_column ≤ a.first_column
  pub columns_to : a.last_column ≤ b.last_column
  pub rows_from : b.first_row ≤ a.first_row
  pub rows_to : a.last_row ≤ b.last_row

pub cells_within : {a b : Block} → BlockWithin a b → {c : Cell} → Memᴰ c (cells_of a) → Memᴰ c (cells_of b)
cells_within {a} {b} w m = let h = cells_in a m in cells_have b (omega arith)

pub within_grid_on : {b : Block} → BlockWithin b whole_grid → {c : Cell} → Memᴰ c (cells_of b) → OnGrid c
within_grid_on {b} w m = let h = cells_in b m in omega arith

-- ---- each cell once

pub data Once : List Cell → Type 0 where
  none : Once []
  one : {c : Cell} {cs : List Cell} → (Memᴰ c cs → ⊥) → Once cs → Once (c ∷ cs)

once_append : {s t : List Cell} → Once s → Once t → ((c : Cell) → Memᴰ c s → Memᴰ c t → ⊥) → Once (s ++ t)
once_append none h apart = h
once_append {t = t} (one {c} {cs} new k) h apart =
    one (λ m. ⊎_elim new (apart c (Memᴰ.head refl)) (Memᴰ.append_cases cs m)) (once_append k h (λ e m. apart e (Memᴰ.tail m)))

row_once : (row column n : ℕ) → Once (cells_of_row row column n)
unfolding cells_of_row
row_once row column zero = none
row_once row column (suc n) =
    one {c = cell column row} (λ m. let r = in_row {c = cell column row} row (suc column) n m in omega arith) (row_once row (suc column) n)

rows_once : (b : Block) (row n : ℕ) → Once (cells_of_rows b row n)
unfolding cells_of_rows
rows_once b row zero = none
rows_once b row (suc n) =
    once_append (row_once row b.first_column (columns_of b)) (rows_once b (suc row) n)
    (λ c m k. let r = in_row row b.first_column (columns_of b) m in let s = in_rows b (suc row) n k in omega arith)

pub cells_once : (b : Block) → Once (cells_of b)
unfolding cells_of
cells_once b = rows_once b b.first_row (rows_of b)

pub passing_once : (f : Cell → Bool) {cs : List Cell} → Once cs → Once (passing f cs)
unfolding passing
passing_once f none = none
passing_once f (one {c} {cs} new k) = go (f c) (passing_once f k)
  where
    go : (t : Bool) → Once (passing f cs) → Once (cond t (c ∷ passing f cs) (passing f cs))
    go true h = one (λ m. new (passing_in f cs m).0) h
    go false h = h
