-- How many records of a list stand before the place of another, and before the record of an id.
-- Assumes nothing.
use Rattle.std.specs.Prelude.{Bool, cond, List, ℕ, ℤ, length, Option, Some, None, nat_lt}
use Rattle.ints.specs.Whole.{eq_z}
use Rattle.records.specs.Order.{precedes}
use Rattle.records.specs.declared.Record.{Record}
use Rattle.records.specs.Places.{first_of}

-- before the place of r
abbrev pub place_of : Record → List Record → ℕ
place_of r = first_of (precedes r)

-- before the record of an id
abbrev pub has_that : ℤ → Record → Bool
has_that id a = eq_z a.report.id id

abbrev pub index_of : ℤ → List Record → ℕ
index_of id = first_of (has_that id)

-- that number, where a record of the id is among them
abbrev pub found_at : ℤ → List Record → Option ℕ
found_at id rs = cond (nat_lt (index_of id rs) (length rs)) (Some (index_of id rs)) None
