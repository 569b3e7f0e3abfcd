-- The timeslices that document 01 allows: an ask lies near now, and so not far from the reference time of a live phase.
-- Assumes nothing.
use Rattle.std.specs.Prelude.{◌≡◌, true, ℕ, ◌+◌, ◌-◌, ◌*◌, pos, neg_ℤ}
use Rattle.std.specs.Int.Signed.{le_z}
use Rattle.grid.specs.Units.{ask_before, ask_after}
use Rattle.rows.specs.Phases.{phase_seconds, mid_phase, slots}
use Rattle.methods.specs.Fair.{InOrder}
use Rattle.methods.specs.declared.Slice.{Slice}

-- how far below 0 d may lie: now is not before the start of a live phase, and its reference time is in its middle
abbrev pub earliest : ℕ
earliest = ask_before + mid_phase

-- the greatest d: now is less than three phases after the start of a live phase
abbrev pub latest : ℕ
latest = slots * phase_seconds - 1 - mid_phase + ask_after

-- a timeslice of a live phase, in the sea or not: corners in order, and d from -5,400 to 16,199
pub record IsSlice (s : Slice) : Type 0 where
  pub in_order : InOrder s.rect
  pub not_early : le_z (neg_ℤ (pos earliest)) s.d ≡ true
  pub not_late : le_z s.d (pos latest) ≡ true
