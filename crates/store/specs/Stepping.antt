-- The second half of the clock step of a store, as a change of its sorted list of records: whose phase lives on, who moves, and the phase in which one that
-- moves is placed. The first half, in which silent floats retire, is crate retiring.
-- Assumes nothing.
use Rattle.std.specs.Prelude.{Bool, not, List, map, ℕ, ℤ}
use Rattle.ints.specs.Lists.{passing}
use Rattle.grid.specs.declared.Report.{Report}
use Rattle.rows.specs.Phases.{phase_of, is_live}
use Rattle.records.specs.Order.{key_in, phase_of_key}
use Rattle.records.specs.declared.Record.{Record}
use Rattle.store.specs.Inserting.{inserted_all}

-- a report placed in phase p
abbrev pub placed_in : ℕ → Report → Record
placed_in p r = record { key = key_in p r; report = r }

-- ---- the clock from now to a time

-- a record whose phase lives on stays as it is
abbrev pub lives_on : ℤ → ℤ → Record → Bool
lives_on now time r = is_live (phase_of time) (phase_of_key (phase_of now) r.key)

-- any other moves: it is placed anew, in the phase of the time
abbrev pub moves : ℤ → ℤ → Record → Bool
moves now time r = not (lives_on now time r)

-- of some records, those that move, placed in phase p
abbrev pub replaced : ℕ → (Record → Bool) → List Record → List Record
replaced p moving rs = map (λ r. placed_in p r.report) (passing moving rs)

-- the records after the clock moved on from now to a time
unfoldable pub moved_records : ℤ → ℤ → List Record → List Record
moved_records now time rs =
    inserted_all (replaced (phase_of time) (moves now time) rs) (passing (lives_on now time) rs)
