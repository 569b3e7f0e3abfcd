-- Reading, for any set of cells of a slot and whatever an ask calls inside: the listed floats, those inside whose records lie in the set, how many
-- cells the set has, and how many of them hold a listed float. Document 01, "The four ways to choose cells", its last paragraph.
-- Assumes nothing.
use Rattle.std.specs.Prelude.{◌≡◌, Bool, cond, not, ◌&&◌, List, [], ◌∷◌, map, ℕ, zero, suc, ◌+◌, ◌≤◌, ◌<◌, eqb, ℤ, length, get_or, set}
use Rattle.ints.specs.Whole.{up, eq_z}
use Rattle.ints.specs.Lists.{passing, some}
use Rattle.grid.specs.Units.{cells, capacity}
use Rattle.grid.specs.Small.{SmallQuery}
use Rattle.grid.specs.declared.Query.{Query}
use Rattle.grid.specs.declared.Report.{Report}
use Rattle.records.specs.Order.{key_at, slot_of_key, number_of_key}
use Rattle.records.specs.Soundness.{IsStore}
use Rattle.records.specs.declared.Record.{Record}
use Rattle.reading.specs.declared.Reading.{Reading}

-- a set of cells, by curve number: a mark that is not 0
abbrev pub in_set : List ℕ → ℕ → Bool
in_set marks number = not (eqb (get_or marks number 0) 0)

-- whether reading a set of cells of a slot lists a record
abbrev pub is_read : List ℕ → ℕ → (Report → Bool) → Record → Bool
is_read marks slot inside r =
    (eqb (slot_of_key r.key) slot && in_set marks (number_of_key r.key)) && inside r.report

abbrev pub listed_in : List ℕ → ℕ → (Report → Bool) → List Record → List Record
listed_in marks slot inside = passing (is_read marks slot inside)

-- the cells of the set, from curve number `number` on, n of them
unfoldable pub cells_in : List ℕ → ℕ → ℕ → ℕ
cells_in marks number zero = 0
cells_in marks number (suc n) = cond (in_set marks number) 1 0 + cells_in marks (suc number) n

-- whether a record has a key
abbrev pub has_key : ℤ → List Record → Bool
has_key key = some (λ r. eq_z r.key key)

-- the useful ones among the n cells of a slot from `number` on: those with one of the listed records
unfoldable pub useful_in : ℕ → List Record → ℕ → ℕ → ℕ
useful_in slot listed number zero = 0
useful_in slot listed number (suc n) =
    cond (has_key (key_at slot number) listed) 1 0 + useful_in slot listed (suc number) n

-- the marks of ids with those of some records set
unfoldable pub with_ids : List ℕ → List Record → List ℕ
with_ids found [] = found
with_ids found (r ∷ rs) = with_ids (set found (up r.report.id) 1) rs

-- the ids of some records, as they stand
abbrev pub ids_of : List Record → List ℕ
ids_of = map (λ r. up r.report.id)

-- what reading asks: a sound store's words, one of the three slots, a place for each float held and one more, which is written over, and a query whose
-- numbers are small
pub record CanReadMarked (s : List ℤ) (slot : ℕ) (query : Query) (ids : List ℕ) : Type 0 where
  pub store : IsStore s
  pub one_of_three : slot < 3
  pub room : capacity < length ids
  pub small : SmallQuery query

-- the same, and a mark for each cell
pub record CanReadCells (s : List ℤ) (slot : ℕ) (marks : List ℕ) (query : Query) (ids : List ℕ) : Type 0 where
  pub store : IsStore s
  pub one_of_three : slot < 3
  pub one_each : length marks ≡ cells
  pub room : capacity < length ids
  pub small : SmallQuery query

-- what reading gives back: floats listed, cells read, useful cells
pub record ReadingOf (marks : List ℕ) (slot : ℕ) (inside : Report → Bool) (rs : List Record) (r : Reading) : Type 0 where
  pub listed_are : r.listed ≡ length (listed_in marks slot inside rs)
  pub cells_are : r.cells ≡ cells_in marks 0 cells
  pub useful_are : r.useful ≡ useful_in slot (listed_in marks slot inside rs) 0 cells

-- a reading none of whose counts is above `most`
pub record SmallReading (most : ℕ) (r : Reading) : Type 0 where
  pub few_listed : r.listed ≤ most
  pub few_cells : r.cells ≤ most
  pub few_useful : r.useful ≤ most

-- two readings summed
pub record ReadTogether (a b r : Reading) : Type 0 where
  pub listed_sum : r.listed ≡ a.listed + b.listed
  pub cells_sum : r.cells ≡ a.cells + b.cells
  pub useful_sum : r.useful ≡ a.useful + b.useful
