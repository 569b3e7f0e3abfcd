-- Keys, the live phase of a key, and the order of records: document 01, "Store and table".
-- Assumes nothing.
use Rattle.std.specs.Prelude.{Bool, true, ◌&&◌, ◌||◌, cond, List, [], ◌∷◌, ℕ, ◌+◌, ◌-◌, ◌*◌, ◌/◌, ◌%◌, eqb, ℤ, pos}
use Rattle.std.specs.Int.Signed.{lt_z}
use Rattle.ints.specs.Whole.{up, eq_z}
use Rattle.ints.specs.Lists.{some}
use Rattle.grid.specs.Units.{cells}
use Rattle.grid.specs.Curve.{curve_number}
use Rattle.grid.specs.Reports.{cell_at_time}
use Rattle.grid.specs.declared.Report.{Report}
use Rattle.rows.specs.Phases.{slots, reference_time, live_phases, slot_of}
use Rattle.records.specs.declared.Record.{Record}

-- the last key of the three slots
abbrev pub last_key : ℕ
last_key = slots * cells - 1

-- slot × 1,024 + curve number
abbrev pub key_at : ℕ → ℕ → ℤ
key_at slot number = pos (slot * cells + number)

-- of the cell of the float's position at the phase's reference time
unfoldable pub key_in : ℕ → Report → ℤ
key_in p r = key_at (slot_of p) (curve_number (cell_at_time r (reference_time p)))

-- the slot and the curve number of a key
abbrev pub slot_of_key : ℤ → ℕ
slot_of_key key = up key / cells

abbrev pub number_of_key : ℤ → ℕ
number_of_key key = up key % cells

-- the phase of those given that has a slot (0 where none has)
unfoldable pub phase_with_slot : List ℕ → ℕ → ℕ
phase_with_slot [] slot = 0
phase_with_slot (p ∷ ps) slot = cond (eqb (slot_of p) slot) p (phase_with_slot ps slot)

-- the live phase of a key, the current phase being c
abbrev pub phase_of_key : ℕ → ℤ → ℕ
phase_of_key c key = phase_with_slot (live_phases c) (slot_of_key key)

-- sorted by key, then id
unfoldable pub precedes : Record → Record → Bool
precedes a b = lt_z a.key b.key || (eq_z a.key b.key && lt_z a.report.id b.report.id)

abbrev pub precedes_first : Record → List Record → Bool
precedes_first a [] = true
precedes_first a (b ∷ bs) = precedes a b

unfoldable pub is_sorted : List Record → Bool
is_sorted [] = true
is_sorted (a ∷ rs) = precedes_first a rs && is_sorted rs

-- whether a float is among some records
abbrev pub has_id : ℤ → List Record → Bool
has_id id = some (λ r. eq_z r.report.id id)
