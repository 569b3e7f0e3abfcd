-- Phases of 3,600 seconds, their reference times, which of them are live, and the slot of each: document 01, "Phases and speed rows", with the
-- reference time of document 02, A6.
-- Times are seconds from 0 on.
-- Assumes nothing.
use Rattle.std.specs.Prelude.{Bool, ◌&&◌, List, [], ◌∷◌, ℕ, zero, suc, ◌+◌, ◌*◌, ◌/◌, ◌%◌, leb, ℤ, pos, negsuc, ◌-ℤ◌}
use Rattle.grid.specs.Units.{last_time}

-- the length of a phase
abbrev pub phase_seconds : ℕ
phase_seconds = 3600

-- the slots of the table: the phases that are live at once
abbrev pub slots : ℕ
slots = 3

-- the phase in which a time lies
unfoldable pub phase_of : ℤ → ℕ
phase_of (pos t) = t / phase_seconds
phase_of (negsuc t) = 0

-- the phase of the last time
abbrev pub last_phase : ℕ
last_phase = last_time / phase_seconds

-- how long after its start the reference time of a phase lies: document 02, A6
abbrev pub mid_phase : ℕ
mid_phase = 1800

-- the reference time of a phase. Every d of the methods and every placement goes by it
unfoldable pub reference_time : ℕ → ℤ
reference_time p = pos (phase_seconds * p + mid_phase)

-- d: an asked time less the reference time of a phase
abbrev pub since_reference : ℕ → ℤ → ℤ
since_reference p asked = asked -ℤ reference_time p

-- whether phase p is live when the current phase is c: c-2, c-1 and c are
unfoldable pub is_live : ℕ → ℕ → Bool
is_live c p = leb p c && leb c (p + 2)

-- the live phases, newest first: c, c-1 and c-2, where not negative
unfoldable pub live_phases : ℕ → List ℕ
live_phases zero = 0 ∷ []
live_phases (suc zero) = 1 ∷ 0 ∷ []
live_phases (suc (suc c)) = suc (suc c) ∷ suc c ∷ c ∷ []

unfoldable pub slot_of : ℕ → ℕ
slot_of p = p % slots
