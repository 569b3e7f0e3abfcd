-- A record put into a sorted list of records at its place, and several one after the other.
-- Assumes nothing.
use Rattle.std.specs.Prelude.{cond, List, [], ◌∷◌}
use Rattle.records.specs.Order.{precedes}
use Rattle.records.specs.declared.Record.{Record}

-- a record put at its place
unfoldable pub inserted : Record → List Record → List Record
inserted r [] = r ∷ []
inserted r (a ∷ rs) = cond (precedes r a) (r ∷ a ∷ rs) (a ∷ inserted r rs)

unfoldable pub inserted_all : List Record → List Record → List Record
inserted_all [] rs = rs
inserted_all (r ∷ more) rs = inserted_all more (inserted r rs)
