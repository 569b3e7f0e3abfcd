-- What an open, a clock step, a report placed and a float taken out make of the lent words: document 01, "Store and table" and "Phases and
-- speed rows", and document 02, A7, for floats that retire.
-- Assumes nothing.
use Rattle.std.specs.Prelude.{Bool, List, [], ℤ}
use Rattle.grid.specs.Reports.{stays_at}
use Rattle.grid.specs.declared.Report.{Report}
use Rattle.rows.specs.Phases.{phase_of}
use Rattle.rows.specs.Table.{with_slot_empty, with_newly_live_empty}
use Rattle.records.specs.Records.{store_of}
use Rattle.records.specs.Words.{Words, time_in, records_in}
use Rattle.records.specs.declared.Record.{Record}
use Rattle.store.specs.Inserting.{inserted}
use Rattle.store.specs.Removing.{removed}
use Rattle.store.specs.Widening.{widened_by, widened_by_all}
use Rattle.store.specs.Stepping.{placed_in, moves, replaced, moved_records}
use Rattle.retiring.specs.Retiring.{kept}

-- that time, no float held, every row empty
unfoldable pub opened : ℤ → Words → Words
opened time w = record {
  store = store_of time [];
  table = with_slot_empty (with_slot_empty (with_slot_empty w.table 0) 1) 2;
}

-- ---- the clock step

-- the floats whose report passes a test stay held. The table is as it was: the rows of a float that goes stay till their phase dies
unfoldable pub keeping : (Report → Bool) → Words → Words
keeping stays w = record { store = store_of (time_in w) (kept stays (records_in w)); table = w.table }

-- the rows of every newly live phase emptied; then the row of each re-placed float widened
unfoldable pub table_moved : ℤ → ℤ → List Record → List ℤ → List ℤ
table_moved now time rs table =
    widened_by_all (with_newly_live_empty table (phase_of now) (phase_of time)) (replaced (phase_of time) (moves now time) rs)

-- the clock moved on, with the floats that are held
unfoldable pub moved_on : ℤ → Words → Words
moved_on time w = record {
  store = store_of time (moved_records (time_in w) time (records_in w));
  table = table_moved (time_in w) time (records_in w) w.table;
}

-- first every silent float retires, then the others are re-placed
unfoldable pub stepped : ℤ → Words → Words
stepped time w = moved_on time (keeping (stays_at time) w)

-- ---- what a change does after it

-- a report placed in the phase of its time: its record put in, its row widened
unfoldable pub placed : Report → Words → Words
placed r w =
    let new = placed_in (phase_of r.t) r in
    record { store = store_of (time_in w) (inserted new (records_in w)); table = widened_by w.table new }

-- the float of an id taken out. Its row stays: a row never narrows while its phase lives
unfoldable pub taken_out : ℤ → Words → Words
taken_out id w = record { store = store_of (time_in w) (removed id (records_in w)); table = w.table }
