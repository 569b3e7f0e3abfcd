-- The rows of a table widened by the speeds of records, each in the row of its cell.
-- Assumes nothing.
use Rattle.std.specs.Prelude.{List, [], ◌∷◌, ℤ}
use Rattle.rows.specs.Row.{drift_of}
use Rattle.rows.specs.Table.{with_drift}
use Rattle.records.specs.Order.{slot_of_key, number_of_key}
use Rattle.records.specs.declared.Record.{Record}

-- the table with the row of a record's cell widened by its speeds
abbrev pub widened_by : List ℤ → Record → List ℤ
widened_by table r = with_drift table (slot_of_key r.key) (number_of_key r.key) (drift_of r.report)

unfoldable pub widened_by_all : List ℤ → List Record → List ℤ
widened_by_all table [] = table
widened_by_all table (r ∷ rs) = widened_by_all (widened_by table r) rs
