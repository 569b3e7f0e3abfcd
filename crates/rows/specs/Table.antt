-- The speed table: signed 16-bit numbers, slot by slot, cells by curve number, a row's four numbers in their order. Document 01, "Store and
-- table".
-- Assumes nothing.
use Rattle.std.specs.Prelude.{Bool, true, ◌&&◌, cond, List, [], ◌∷◌, ◌++◌, ℕ, zero, suc, ◌+◌, ◌*◌, ltb, ℤ, pos, get_or, set, take, drop}
use Rattle.grid.specs.Units.{cells}
use Rattle.rows.specs.Row.{empty_row, widened, valid_row}
use Rattle.rows.specs.Phases.{slots, slot_of, live_phases}
use Rattle.rows.specs.declared.Drift.{Drift}
use Rattle.rows.specs.declared.Row.{Row}

-- the numbers of a row, of a slot's third, and of the table
abbrev pub row_words : ℕ
row_words = 4

abbrev pub slot_words : ℕ
slot_words = row_words * cells

abbrev pub table_words : ℕ
table_words = slots * slot_words

-- the row whose first number stands at k
abbrev pub row_from : List ℤ → ℕ → Row
row_from table k = record {
  least_vx = get_or table k (pos 0);
  greatest_vx = get_or table (k + 1) (pos 0);
  least_vy = get_or table (k + 2) (pos 0);
  greatest_vy = get_or table (k + 3) (pos 0);
}

-- where the row of a slot and a curve number starts
abbrev pub row_place : ℕ → ℕ → ℕ
row_place slot number = slot_words * slot + row_words * number

-- some words with another row from k on
abbrev pub with_row_from : List ℤ → ℕ → Row → List ℤ
with_row_from words k r =
    set
    (set (set (set words k r.least_vx) (k + 1) r.greatest_vx) (k + 2) r.least_vy)
    (k + 3)
    r.greatest_vy

-- the row of a slot and a curve number
unfoldable pub row_at : List ℤ → ℕ → ℕ → Row
row_at table slot number = row_from table (row_place slot number)

-- the table with another row there
unfoldable pub with_row : List ℤ → ℕ → ℕ → Row → List ℤ
with_row table slot number r = with_row_from table (row_place slot number) r

-- the table with that row widened by a drift
abbrev pub with_drift : List ℤ → ℕ → ℕ → Drift → List ℤ
with_drift table slot number v = with_row table slot number (widened (row_at table slot number) v)

-- so many empty rows, as words
unfoldable pub empty_rows : ℕ → List ℤ
empty_rows zero = []
empty_rows (suc n) =
    empty_row.least_vx ∷ empty_row.greatest_vx ∷ empty_row.least_vy ∷ empty_row.greatest_vy ∷ empty_rows n

-- the table with one slot's third emptied; the other two thirds stay
unfoldable pub with_slot_empty : List ℤ → ℕ → List ℤ
with_slot_empty table slot = take (slot_words * slot) table ++ (empty_rows cells ++ drop (slot_words * slot + slot_words) table)

-- the table with the slots of those phases emptied that come after the phase `earlier`
unfoldable pub with_later_empty : List ℤ → ℕ → List ℕ → List ℤ
with_later_empty table earlier [] = table
with_later_empty table earlier (p ∷ ps) = with_later_empty (cond (ltb earlier p) (with_slot_empty table (slot_of p)) table) earlier ps

-- the table with the rows of every newly live phase emptied, the current phase being c and before it `earlier`
abbrev pub with_newly_live_empty : List ℤ → ℕ → ℕ → List ℤ
with_newly_live_empty table earlier c = with_later_empty table earlier (live_phases c)

-- n rows of a slot, by curve number from `number` on
unfoldable pub slot_rows : List ℤ → ℕ → ℕ → ℕ → List Row
slot_rows table slot number zero = []
slot_rows table slot number (suc n) = row_at table slot number ∷ slot_rows table slot (suc number) n

-- whether the first n rows of some words are valid
unfoldable pub valid_rows : ℕ → List ℤ → Bool
valid_rows zero table = true
valid_rows (suc n) table = valid_row (row_from table 0) && valid_rows n (drop row_words table)

-- whether every row of the table is valid
abbrev pub valid_table : List ℤ → Bool
valid_table = valid_rows (slots * cells)
