-- What the code of bounds relies on: the cell that comes next in the pass over a block and the bounds after it, that the rows of a sound table's slot are
-- valid, and that their bounds by curve number are the phase's bounds.
-- Assumes nothing.
use mathlib.Core.Path.{◌≡◌, sym, ap, ap₂, ◌∙◌, subst}
use mathlib.Core.List.Memᴰ
use mathlib.Core.List.{List, map, Memᴰ}
use mathlib.Core.Logic.{⊎_elim, dite}
use Prim.Native.Nat.{ℕ, zero, suc, ◌+◌, ◌-◌, ◌≤◌, ◌<◌}
use native.Mathlib.Decide.{ℕ_discrete}
use native.Mathlib.Nat.{mul-zero, zero-mul, suc-mul, lt_of_mul-lt-mul_left, lt_of_mul-lt-mul_right}
use native.Mathlib.Omega.{arith}
use lib.IntN.{ℤ}
use Rattle.grid.specs.Units.{cells}
use Rattle.grid.specs.Curve.{cell, curve_number, cell_of_number}
use Rattle.grid.proofs.CurveLaws.{cell_on_grid, number_of_its_cell, number_below}
use Rattle.rows.specs.Row.{empty_row, joined, bounds_of}
use Rattle.rows.specs.Table.{row_at, slot_rows}
use Rattle.rows.specs.declared.Row.{Row}
use Rattle.rows.proofs.TableLaws.{valid_row-at}
use Rattle.rows.proofs.RowLaws.{bounds_grow, within_antisym}
use Rattle.methods.specs.Reach.{columns_of, rows_of, cells_of, whole_grid}
use Rattle.methods.specs.Methods.{Rows, bounds_in, phase_bounds}
use Rattle.methods.specs.BoundsInOnePass.{cell_count, visited, bounds_after}
use Rattle.methods.specs.Slots.{rows_of_slot}
use Rattle.methods.specs.Claims.{ValidRows}
use Rattle.methods.specs.declared.Block.{Block}
use Rattle.methods.proofs.Blocks.{grid_has, within_grid_on}
use Rattle.methods.proofs.BoundsInOnePass.{blocks_are_visited_row_by_row, after_none, after_one_more}
use Rattle.choosing.specs.Bounds.{IsSlot, cells_before}

-- ---- the pass over a block

-- a block with a cell has a column, and a row before whose end a cell is left is one of its rows
pub has_column : (b : Block) → 0 < cell_count b → 0 < columns_of b
has_column b h = lt_of_mul-lt-mul_left (rows_of b) (omega (arith, mul-zero (rows_of b)))

pub is_row : (b : Block) (row : ℕ) → cells_before b row < cell_count b → row - b.first_row < rows_of b
is_row b row h = lt_of_mul-lt-mul_right (columns_of b) h

module _ (b : Block) (row done : ℕ) (from_first : b.first_row ≤ row) (in_row : done < columns_of b) (more : cells_before b row + done < cell_count b) where
  -- the cell that comes after those of the rows before and some of its own row
  in_turn_lem : visited b (cells_before b row + done) ≡ cell (b.first_column + done) row
  in_turn_lem =
      (blocks_are_visited_row_by_row b).in_turn_lem (row - b.first_row) done (is_row b row (omega arith)) in_row ∙ ap (cell (b.first_column + done)) (omega arith)

  -- r joins that cell's row to the bounds so far
  pub bounds_one_more :
      (rows : Rows) {r s before : Row}
      → r ≡ joined before s
      → s ≡ rows (cell (b.first_column + done) row)
      → before ≡ bounds_after (cells_before b row + done) rows b
      → r ≡ bounds_after (cells_before b row + (done + 1)) rows b
  bounds_one_more rows e p q =
      e
      ∙ ap₂ joined q (p ∙ sym (ap rows in_turn_lem))
      ∙ sym (after_one_more rows b (cells_before b row + done) more)
      ∙ ap (λ (k : ℕ). bounds_after k rows b) (omega arith)

-- before the first row, at the end of a row, and at the end
pub no_row : (b : Block) → cells_before b b.first_row ≡ 0
no_row b =
    let none : b.first_row - b.first_row ≡ 0 = omega arith in
    rw none (zero-mul (columns_of b))

pub bounds_at_first : (rows : Rows) (b : Block) {r : Row} → r ≡ empty_row → r ≡ bounds_after (cells_before b b.first_row) rows b
bounds_at_first rows b e = e ∙ sym (after_none rows b) ∙ sym (ap (λ (k : ℕ). bounds_after k rows b) (no_row b))

pub row_more : (b : Block) (row : ℕ) → b.first_row ≤ row → cells_before b row + columns_of b ≡ cells_before b (row + 1)
row_more b row h =
    let one : row + 1 - b.first_row ≡ suc (row - b.first_row) = omega arith in
    rw one (omega (arith, suc-mul (row - b.first_row) (columns_of b)))

pub bounds_so_far : (rows : Rows) (b : Block) {r : Row} {k n : ℕ} → r ≡ bounds_after k rows b → k ≡ n → r ≡ bounds_after n rows b
bounds_so_far rows b e p = e ∙ ap (λ (k : ℕ). bounds_after k rows b) p

-- ---- the rows of a slot

-- they are valid, which is what the claims are stated for
pub slot_valid : {table : List ℤ} {slot : ℕ} → IsSlot table slot → ValidRows (rows_of_slot table slot)
slot_valid {table} {slot} s c on = valid_row-at table s.valid_rows slot (curve_number c) s.has_slot.one_of_three (number_below c on)

-- ---- the phase's bounds

module _ (table : List ℤ) (slot : ℕ) where
  slot_has : (n number k : ℕ) → number ≤ k → k < number + n → Memᴰ (row_at table slot k) (slot_rows table slot number n)
  unfolding slot_rows
  slot_has zero number k h l = absurd (omega arith)
  slot_has (suc n) number k h l =
      dite (ℕ_discrete k number)
      (λ e. Memᴰ.head (ap (row_at table slot) e))
      (λ e. Memᴰ.tail (slot_has n (suc number) k (omega arith) (omega arith)))

  record InSlot (number n : ℕ) (r : Row) : Type 0 where
    k : ℕ
    to : k < number + n
    is : r ≡ row_at table slot k

  in_slot : (n number : ℕ) (r : Row) → Memᴰ r (slot_rows table slot number n) → InSlot number n r
  unfolding slot_rows
  in_slot zero number r m = absurd (Memᴰ.not-nil m)
  in_slot (suc n) number r m =
      ⊎_elim
      (λ (e : r ≡ row_at table slot number). record { k = number; to = omega arith; is = e })
      (λ p. let s = in_slot n (suc number) r p in record { k = s.k; to = omega (arith, s.to); is = s.is })
      (Memᴰ.cases_cons m)

  pub phase_bounds_are : bounds_of (slot_rows table slot 0 cells) ≡ phase_bounds (rows_of_slot table slot)
  unfolding bounds_in
  phase_bounds_are =
      within_antisym
      (bounds_grow (slot_rows table slot 0 cells) (map (rows_of_slot table slot) (cells_of whole_grid)) into)
      (bounds_grow (map (rows_of_slot table slot) (cells_of whole_grid)) (slot_rows table slot 0 cells) back)
    where
      into : (r : Row) → Memᴰ r (slot_rows table slot 0 cells) → Memᴰ r (map (rows_of_slot table slot) (cells_of whole_grid))
      into r m =
          let s = in_slot cells 0 r m in
          let on : s.k < cells = omega (arith, s.to) in
          subst (λ (x : Row). Memᴰ x (map (rows_of_slot table slot) (cells_of whole_grid))) (ap (row_at table slot) (number_of_its_cell s.k on) ∙ sym s.is)
          (Memᴰ.map (rows_of_slot table slot) (grid_has (cell_of_number s.k) (cell_on_grid s.k on)))

      back : (r : Row) → Memᴰ r (map (rows_of_slot table slot) (cells_of whole_grid)) → Memᴰ r (slot_rows table slot 0 cells)
      back r m =
          let k = Memᴰ.of_map (rows_of_slot table slot) (cells_of whole_grid) m in
          let on = within_grid_on {b = whole_grid} (omega arith) k.1 in
          subst (λ (x : Row). Memᴰ x (slot_rows table slot 0 cells)) k.2
          (slot_has cells 0 (curve_number k.0) (omega arith) (omega (arith, number_below k.0 on)))
