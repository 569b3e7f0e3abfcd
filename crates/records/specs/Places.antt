-- Places in a list of records, by a test that a record passes, and a store whose words are those of its records.
-- Assumes nothing.
use Rattle.std.specs.Prelude.{◌≡◌, Bool, cond, List, [], ◌∷◌, ℕ, suc, ◌≤◌, ℤ, length}
use Rattle.grid.specs.Units.{capacity}
use Rattle.records.specs.Records.{now_of, records_of, store_of}
use Rattle.records.specs.declared.Record.{Record}

-- what putting a record in or taking one out asks of a store: that its words are those of its records, sorted or not
pub record HasWords (s : List ℤ) : Type 0 where
  pub words : s ≡ store_of (now_of s) (records_of s)
  pub few : length (records_of s) ≤ capacity

-- how many records stand before the first that passes a test; all of them where none does
unfoldable pub first_of : (Record → Bool) → List Record → ℕ
first_of f [] = 0
first_of f (a ∷ rs) = cond (f a) 0 (suc (first_of f rs))
