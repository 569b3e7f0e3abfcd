-- Floats that retire: document 02, A7. Of a store's records those that stay when the clock steps, and the records after the whole step.
-- Assumes nothing.
use Rattle.std.specs.Prelude.{Bool, List, ℤ}
use Rattle.ints.specs.Lists.{passing}
use Rattle.grid.specs.Reports.{stays_at}
use Rattle.grid.specs.declared.Report.{Report}
use Rattle.records.specs.declared.Record.{Record}
use Rattle.store.specs.Stepping.{moved_records}

-- the records of the floats whose report passes a test
abbrev pub kept : (Report → Bool) → List Record → List Record
kept stays = passing (λ r. stays r.report)

-- the records after the clock stepped from now to a time: first those of silent floats go, then the others are placed anew where their phase died
unfoldable pub stepped_records : ℤ → ℤ → List Record → List Record
stepped_records now time rs = moved_records now time (kept (stays_at time) rs)
