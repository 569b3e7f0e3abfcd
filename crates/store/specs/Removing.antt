-- The record of an id taken out of a list of records.
-- Assumes nothing.
use Rattle.std.specs.Prelude.{cond, List, [], ◌∷◌, ℤ}
use Rattle.ints.specs.Whole.{eq_z}
use Rattle.records.specs.declared.Record.{Record}

unfoldable pub removed : ℤ → List Record → List Record
removed id [] = []
removed id (a ∷ rs) = cond (eq_z a.report.id id) rs (a ∷ removed id rs)
