-- The plain ledger: document 01, "The plain ledger", and document 02, A7, for floats that retire. It keeps the time, the held reports and the
-- placements, and knows nothing of buffers, keys or slots.
-- Assumes nothing.
use Rattle.std.specs.Prelude.{Bool, ◌&&◌, cond, not, List, [], ◌∷◌, ◌++◌, map, ℕ, ◌+◌, eqb, leb, ℤ, length}
use Rattle.ints.specs.Whole.{eq_z, up}
use Rattle.ints.specs.Lists.{passing, some}
use Rattle.grid.specs.Places.{same_cell}
use Rattle.grid.specs.Reports.{cell_at_time, stays_at, is_listed}
use Rattle.grid.specs.declared.Cell.{Cell}
use Rattle.grid.specs.declared.Query.{Query}
use Rattle.grid.specs.declared.Report.{Report}
use Rattle.rows.specs.Row.{drift_of, row_of_drift, bounds_of}
use Rattle.rows.specs.Phases.{phase_of, reference_time, is_live, live_phases}
use Rattle.rows.specs.declared.Drift.{Drift}
use Rattle.rows.specs.declared.Row.{Row}
use Rattle.methods.specs.Aims.{aim_in}
use Rattle.methods.specs.Methods.{Rows, Choice, choice}
use Rattle.ledger.specs.declared.Ask.{Ask}
use Rattle.ledger.specs.declared.Change.{Change}

-- a held report, and the phase in which its float is placed
pub record Held : Type 0 where
  pub report : Report
  pub phase : ℕ

-- vx and vy placed in a cell of a phase
pub record Placement : Type 0 where
  pub phase : ℕ
  pub cell : Cell
  pub drift : Drift

pub record Ledger : Type 0 where
  pub now : ℤ
  pub held : List Held
  pub placements : List Placement

-- where a float is placed in a phase: the cell of its position at the reference time
abbrev pub place_in : ℕ → Report → Cell
place_in p r = cell_at_time r (reference_time p)

abbrev pub placement : ℕ → Report → Placement
placement p r = record { phase = p; cell = place_in p r; drift = drift_of r }

-- open at t: that time, nothing held, no placements
abbrev pub opened : ℤ → Ledger
opened t = record { now = t; held = []; placements = [] }

-- ---- the clock step to a time, which clock, add, report and drop share

-- the floats whose report passes a test stay held. Placements are as they were: the rows of a float that goes stay till their phase dies
unfoldable pub keeping : (Report → Bool) → Ledger → Ledger
keeping stays l = record {
  now = l.now;
  held = passing (λ h. stays h.report) l.held;
  placements = l.placements;
}

-- a float whose phase lives on stays placed as it is
abbrev pub lives_on : ℤ → Held → Bool
lives_on time h = is_live (phase_of time) h.phase

-- any other moves: it is placed in the phase of the time
abbrev pub moves : ℤ → Held → Bool
moves time h = not (lives_on time h)

abbrev pub moved_one : ℤ → Held → Held
moved_one time h = cond (lives_on time h) h (record { report = h.report; phase = phase_of time })

unfoldable pub moved_held : ℤ → List Held → List Held
moved_held time hs = map (moved_one time) hs

-- re-placed floats append one
unfoldable pub new_placements : ℤ → List Held → List Placement
new_placements time hs = map (λ h. placement (phase_of time) h.report) (passing (moves time) hs)

-- placements of dead phases go
unfoldable pub live_placements : ℤ → List Placement → List Placement
live_placements time ps = passing (λ p. is_live (phase_of time) p.phase) ps

-- the clock moved on, with the floats that are held
unfoldable pub moved_on : ℤ → Ledger → Ledger
moved_on time l = record {
  now = time;
  held = moved_held time l.held;
  placements = live_placements time l.placements ++ new_placements time l.held;
}

-- first every silent float retires, then the others are re-placed
unfoldable pub stepped : ℤ → Ledger → Ledger
stepped time l = moved_on time (keeping (stays_at time) l)

-- ---- the changes after it

abbrev pub is_held : ℤ → List Held → Bool
is_held id = some (λ h. eq_z h.report.id id)

unfoldable pub without : ℤ → List Held → List Held
without id [] = []
without id (h ∷ hs) = cond (eq_z h.report.id id) hs (h ∷ without id hs)

-- a report placed in the current phase
unfoldable pub with_report : Report → Ledger → Ledger
with_report r l =
    let c = phase_of l.now in
    record {
      now = l.now;
      held = record { report = r; phase = c } ∷ l.held;
      placements = l.placements ++ placement c r ∷ [];
    }

unfoldable pub without_id : ℤ → Ledger → Ledger
without_id id l = record { now = l.now; held = without id l.held; placements = l.placements }

-- what a change does after the clock step
abbrev pub changed : Change → Ledger → Ledger
changed (Change.Add r) l = with_report r l
changed (Change.Report r) l = with_report r (without_id r.id l)
changed (Change.Drop id t) l = without_id id l

-- ---- asks

-- the speeds placed in a cell of a phase, each as a row
unfoldable pub speeds_placed : ℕ → Cell → List Placement → List Row
speeds_placed p c ps = map (λ a. row_of_drift a.drift) (passing (λ a. eqb a.phase p && same_cell a.cell c) ps)

-- a row is the bounds of that phase and cell's placements, empty with none
unfoldable pub rows_in : Ledger → ℕ → Rows
rows_in l p c = bounds_of (speeds_placed p c l.placements)

-- what a method chooses in a live phase
abbrev pub choice_in : Ledger → ℕ → Query → ℕ → Choice
choice_in l method query p = choice method (rows_in l p) (aim_in p query)

-- the held reports that a query lists
abbrev pub listed_held : Query → List Held → List Held
listed_held query = passing (λ h. is_listed query h.report)

-- whether a listed float is placed in a cell of a phase by its held report
abbrev pub is_useful : ℕ → Cell → List Held → Bool
is_useful p c = some (λ h. eqb h.phase p && same_cell (place_in p h.report) c)

-- the useful ones of some cells
unfoldable pub useful_cells : ℕ → List Held → List Cell → ℕ
useful_cells p listed [] = 0
useful_cells p listed (c ∷ cs) = cond (is_useful p c listed) 1 0 + useful_cells p listed cs

-- by rising number
unfoldable pub put_in_order : ℕ → List ℕ → List ℕ
put_in_order n [] = n ∷ []
put_in_order n (m ∷ ms) = cond (leb n m) (n ∷ m ∷ ms) (m ∷ put_in_order n ms)

unfoldable pub ids_in_order : List Held → List ℕ
ids_in_order [] = []
ids_in_order (h ∷ hs) = put_in_order (up h.report.id) (ids_in_order hs)

-- summed over some phases
unfoldable pub summed : (ℕ → ℕ) → List ℕ → ℕ
summed f [] = 0
summed f (p ∷ ps) = f p + summed f ps

module _ (l : Ledger) (a : Ask) where
  abbrev pub phases_asked : List ℕ
  phases_asked = live_phases (phase_of l.now)

  abbrev pub choice_asked : ℕ → Choice
  choice_asked p = choice_in l (up a.method) a.query p

  abbrev pub held_asked : List Held
  held_asked = listed_held a.query l.held

  abbrev pub ids_listed : List ℕ
  ids_listed = ids_in_order held_asked

  abbrev pub cells_read : ℕ
  cells_read = summed (λ p. length (choice_asked p).cells) phases_asked

  abbrev pub useful_read : ℕ
  useful_read = summed (λ p. useful_cells p held_asked (choice_asked p).cells) phases_asked

  abbrev pub rounds_taken : ℕ
  rounds_taken = summed (λ p. (choice_asked p).rounds) phases_asked
