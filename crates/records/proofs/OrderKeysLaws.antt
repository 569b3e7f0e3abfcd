-- Keys: the slot and the curve number of a key, the live phase with a slot, and what a right key says.
-- Assumes nothing.
use mathlib.Core.Path.{◌≡◌, refl, sym, ap, ◌∙◌}
use mathlib.Core.Bool.{true}
use mathlib.Core.List.{List, [], ◌∷◌}
use mathlib.Core.Logic.{dite}
use Prim.Native.Nat.{ℕ, zero, suc, ◌+◌, ◌-◌, ◌*◌, ◌%◌, ◌≤◌, ◌<◌}
use native.Mathlib.Decide.{ℕ_discrete, dec_lt}
use native.Mathlib.Omega.{arith}
use lib.Dec.{leb}
use lib.IntN.{ℤ, pos}
use lib.Signed.{le_z}
use borrow.Author.Tests.{eq-eqb, ne_eqb, le-leb}
use Rattle.ints.specs.Whole.{eq_z, between}
use Rattle.ints.proofs.Parts.{signed}
use Rattle.ints.proofs.Truth.{and_true, and_right}
use Rattle.ints.proofs.Same.{same_is, is_same}
use Rattle.grid.specs.Units.{cells}
use Rattle.grid.specs.Curve.{curve_number}
use Rattle.grid.specs.Reports.{x_at, y_at, cell_at_time}
use Rattle.grid.specs.declared.Report.{Report}
use Rattle.grid.proofs.PlacesLaws.{cell_on}
use Rattle.grid.proofs.CurveLaws.{number_below}
use Rattle.rows.specs.Phases.{phase_of, reference_time, is_live, live_phases, slot_of, slots}
use Rattle.rows.proofs.PhasesLaws.{live_range, range_live, slot_on}
use Rattle.records.specs.Order.{key_in, slot_of_key, number_of_key, phase_with_slot, phase_of_key, last_key}
use Rattle.records.specs.Soundness.{key_is_right}
use Rattle.records.specs.declared.Record.{Record}

-- ---- the two parts of a key

pub cell_number_below : (r : Report) (s : ℤ) → curve_number (cell_at_time r s) < cells
cell_number_below r s = number_below (cell_at_time r s) (cell_on (x_at r s) (y_at r s))

pub slot_of-key_in : (p : ℕ) (r : Report) → slot_of_key (key_in p r) ≡ slot_of p
unfolding key_in
slot_of-key_in p r = omega (arith, cell_number_below r (reference_time p))

pub number_of-key_in : (p : ℕ) (r : Report) → number_of_key (key_in p r) ≡ curve_number (cell_at_time r (reference_time p))
unfolding key_in
number_of-key_in p r = omega (arith, cell_number_below r (reference_time p))

-- a key of the three slots, in ℕ
pub key_in-below : (p : ℕ) (r : Report) → between (pos 0) (pos last_key) (key_in p r) ≡ true
unfolding key_in
key_in-below p r =
    let n = slot_of p * cells + curve_number (cell_at_time r (reference_time p)) in
    let h : n ≤ last_key = omega (arith, cell_number_below r (reference_time p), slot_on p) in
    and_true (le_z (pos 0) (pos n)) (le_z (pos n) (pos last_key)) (omega (arith, signed)) (omega (arith, signed))

-- ---- the live phase with a slot

first : (p : ℕ) (ps : List ℕ) (slot : ℕ) → slot_of p ≡ slot → phase_with_slot (p ∷ ps) slot ≡ p
unfolding phase_with_slot
first p ps slot e = rw (eq-eqb (slot_of p) slot e)

later : (p : ℕ) (ps : List ℕ) (slot : ℕ) → (slot_of p ≡ slot → ⊥) → phase_with_slot (p ∷ ps) slot ≡ phase_with_slot ps slot
unfolding phase_with_slot
later p ps slot n = rw (ne_eqb (slot_of p) slot n)

none : (slot : ℕ) → phase_with_slot [] slot ≡ 0
unfolding phase_with_slot
none slot = refl

-- how far the phase with a slot lies back from the current phase
abbrev pub back_to : ℕ → ℕ → ℕ
back_to c slot = (c % slots + slots - slot) % slots

pub no_such_slot : (c slot : ℕ) → slots ≤ slot → phase_with_slot (live_phases c) slot ≡ 0
unfolding live_phases phase_with_slot
no_such_slot zero slot h = later 0 [] slot (λ e. omega (arith, slot_on 0))
no_such_slot (suc zero) slot h =
    later 1 (0 ∷ []) slot (λ e. omega (arith, slot_on 1)) ∙ later 0 [] slot (λ e. omega (arith, slot_on 0))
no_such_slot (suc (suc c)) slot h =
    later (suc (suc c)) (suc c ∷ c ∷ []) slot (λ e. omega (arith, slot_on (suc (suc c))))
    ∙ later (suc c) (c ∷ []) slot (λ e. omega (arith, slot_on (suc c)))
    ∙ later c [] slot (λ e. omega (arith, slot_on c))

-- as far back as the slots differ, and 0 where that is before phase 0
pub phase_back : (c slot : ℕ) → slot < slots → phase_with_slot (live_phases c) slot ≡ c - back_to c slot
unfolding live_phases slot_of
phase_back zero slot h =
    dite (ℕ_discrete (slot_of 0) slot)
    (λ e. first 0 [] slot e ∙ omega arith)
    (λ n. later 0 [] slot n ∙ none slot ∙ omega arith)
phase_back (suc zero) slot h =
    dite (ℕ_discrete (slot_of 1) slot)
    (λ e. first 1 (0 ∷ []) slot e ∙ omega arith)
    (λ n. later 1 (0 ∷ []) slot n ∙ dite (ℕ_discrete (slot_of 0) slot)
    (λ e. first 0 [] slot e ∙ omega arith)
    (λ m. later 0 [] slot m ∙ none slot ∙ omega arith))
phase_back (suc (suc c)) slot h =
    dite (ℕ_discrete (slot_of (suc (suc c))) slot)
    (λ e. first (suc (suc c)) (suc c ∷ c ∷ []) slot e ∙ omega arith)
    (λ n.
    later (suc (suc c)) (suc c ∷ c ∷ []) slot n
    ∙ dite (ℕ_discrete (slot_of (suc c)) slot)
    (λ e. first (suc c) (c ∷ []) slot e ∙ omega arith)
    (λ m. later (suc c) (c ∷ []) slot m ∙ first c [] slot (omega arith) ∙ omega arith))

-- it is live, for each of the three slots: where no live phase has the slot, phase 0 is live still
pub with_slot_live : (c slot : ℕ) → slot < slots → is_live c (phase_with_slot (live_phases c) slot) ≡ true
with_slot_live c slot h = let e = phase_back c slot h in range_live c _ (omega arith) (omega arith)

pub phase_of_key-small : (c : ℕ) (key : ℤ) → phase_of_key c key ≤ c
phase_of_key-small c key =
    dite (dec_lt (slot_of_key key) slots)
    (λ h. omega (arith, phase_back c (slot_of_key key) h))
    (λ n. let b : slots ≤ slot_of_key key = omega arith in omega (arith, no_such_slot c (slot_of_key key) b))

-- ---- a right key

-- the key is that of a live phase
pub record Placed (now : ℤ) (r : Record) : Type 0 where
  pub key_is : r.key ≡ key_in (phase_of_key (phase_of now) r.key) r.report
  pub live : is_live (phase_of now) (phase_of_key (phase_of now) r.key) ≡ true
  pub slot_is : slot_of_key r.key ≡ slot_of (phase_of_key (phase_of now) r.key)
  pub in_slots : between (pos 0) (pos last_key) r.key ≡ true

pub right_placed : (now : ℤ) (r : Record) → key_is_right now r ≡ true → Placed now r
unfolding key_is_right
right_placed now r h =
    let c = phase_of now in
    let p = phase_of_key c r.key in
    let key = same_is r.key (key_in p r.report) (and_right (leb (phase_of r.report.t) p) _ h) in
    let slot : slot_of_key r.key ≡ slot_of p = ap slot_of_key key ∙ slot_of-key_in p r.report in
    record {
      key_is = key;
      live = with_slot_live c (slot_of_key r.key) (omega (arith, slot_on p));
      slot_is = slot;
      in_slots = rw key (key_in-below p r.report);
    }

-- a key in a live phase is a key of that phase, and right where the phase is not before that of t
pub live-phase_of_key : (c p : ℕ) (r : Report) → is_live c p ≡ true → phase_of_key c (key_in p r) ≡ p
unfolding slot_of
live-phase_of_key c p r live =
    let range = live_range c p live in
    ap (phase_with_slot (live_phases c)) (slot_of-key_in p r) ∙ phase_back c (slot_of p) (slot_on p) ∙ omega arith

pub placed_right : (now : ℤ) (p : ℕ) (r : Report) → is_live (phase_of now) p ≡ true → phase_of r.t ≤ p → key_is_right now (record { key = key_in p r; report = r }) ≡ true
unfolding key_is_right
placed_right now p r live h =
    let q = phase_of_key (phase_of now) (key_in p r) in
    let e : q ≡ p = live-phase_of_key (phase_of now) p r live in
    and_true
    (leb (phase_of r.t) q)
    (eq_z (key_in p r) (key_in q r))
    (le-leb (phase_of r.t) q (omega arith))
    (is_same (key_in p r) (key_in q r) (ap (λ (k : ℕ). key_in k r) (sym e)))
