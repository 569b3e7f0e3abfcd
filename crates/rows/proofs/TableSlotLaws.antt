-- Which slots have a live phase: every slot has one once three phases are live, and a slot without one is left alone when the rows of newly live
-- phases are emptied.
-- Assumes nothing.
use mathlib.Core.Path.{◌≡◌, refl, sym, ◌∙◌}
use mathlib.Core.Bool.{Bool, true, false, cond}
use mathlib.Core.List.{List, [], ◌∷◌, Memᴰ}
use mathlib.Core.Logic.{◌⊎◌, inl, inr, dite}
use Prim.Native.Nat.{ℕ, ◌+◌, ◌*◌, ◌-◌, ◌/◌, ◌≤◌, ◌<◌}
use native.Mathlib.Decide.{dec_le}
use native.Mathlib.Omega.{arith}
use lib.Dec.{ltb}
use lib.IntN.{ℤ}
use lib.ListN.{length}
use Rattle.grid.specs.Units.{cells}
use Rattle.rows.specs.Phases.{is_live, live_phases, slot_of, slots}
use Rattle.rows.specs.Table.{table_words, row_at, with_slot_empty, with_later_empty, with_newly_live_empty}
use Rattle.rows.proofs.PhasesLaws.{live_range, range_live, listed_live, slot_on}
use Rattle.rows.proofs.TableLaws.{emptied_if_later, length_later_empty, row_kept}

-- the live phase with the slot of an earlier phase, the current phase being c
pub phase_in_slot : (c q : ℕ) → q ≤ c → (p : ℕ) × (is_live c p ≡ true) × (slot_of p ≡ slot_of q)
unfolding slot_of
phase_in_slot c q h =
    let p = q + 3 * ((c - q) / 3) in
    (p, range_live c p (omega arith) (omega arith), omega arith)

-- whether a slot has a live phase
pub slot_cases : (c slot : ℕ) → slot < slots → ((p : ℕ) × (is_live c p ≡ true) × (slot_of p ≡ slot)) ⊎ ((p : ℕ) → is_live c p ≡ true → slot_of p ≡ slot → ⊥)
unfolding slot_of
slot_cases c slot h =
    dite (dec_le slot c)
    (λ l. let table = phase_in_slot c slot l in inl (table.0, table.1, table.2 ∙ omega arith))
    (λ n. inr (λ p live e. omega (arith, live_range c p live)))

later_other :
    (table : List ℤ) (earlier : ℕ) (ps : List ℕ) (slot number : ℕ)
    → length table ≡ table_words
    → number < cells
    → ((p : ℕ) → Memᴰ p ps → slot_of p ≡ slot → ⊥)
    → row_at (with_later_empty table earlier ps) slot number ≡ row_at table slot number
unfolding with_later_empty
later_other table earlier [] slot number e h far = refl
later_other table earlier (p ∷ ps) slot number e h far =
    later_other (emptied_if_later table earlier p) earlier ps slot number (length_later_empty table earlier (p ∷ []) e) h (λ q m. far q (Memᴰ.tail m))
    ∙ go (ltb earlier p)
  where
    go : (later : Bool) → row_at (cond later (with_slot_empty table (slot_of p)) table) slot number ≡ row_at table slot number
    go true = row_kept table (slot_of p) e (slot_on p) slot number h (λ same. far p (Memᴰ.head refl) (sym same))
    go false = refl

pub other_slot_kept :
    (table : List ℤ) (earlier c slot number : ℕ)
    → length table ≡ table_words
    → number < cells
    → ((p : ℕ) → is_live c p ≡ true → slot_of p ≡ slot → ⊥)
    → row_at (with_newly_live_empty table earlier c) slot number ≡ row_at table slot number
other_slot_kept table earlier c slot number e h far =
    later_other table earlier (live_phases c) slot number e h (λ p m. far p (listed_live c p m))
