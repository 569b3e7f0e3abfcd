-- The laws of phases: the phase of a time in ℕ, the list of live phases has exactly the live ones, and no two of them share a slot.
-- Assumes nothing.
use mathlib.Core.Path.{◌≡◌, refl, sym}
use mathlib.Core.Bool.{true}
use mathlib.Core.List.Memᴰ
use mathlib.Core.List.{Memᴰ}
use mathlib.Core.Logic.{⊎_elim, dite}
use Prim.Native.Nat.{ℕ, zero, suc, ◌+◌, ◌/◌, ◌≤◌, ◌<◌}
use native.Mathlib.Decide.{ℕ_discrete}
use native.Mathlib.Nat.{zero-div}
use native.Mathlib.Omega.{arith}
use borrow.Author.Tests.{leb-true, le-leb}
use lib.Dec.{leb}
use lib.IntN.{ℤ, pos, negsuc}
use Rattle.ints.proofs.Parts.{up, le_true, one_part}
use Rattle.ints.proofs.Truth.{and_true, and_left, and_right}
use Rattle.rows.specs.Phases.{phase_of, phase_seconds, is_live, live_phases, slot_of, slots}
use lib.Signed.{le_z}

-- the phase in ℕ, for omega
pub phase_is : (z : ℤ) → phase_of z ≡ up z / 3600
unfolding phase_of
phase_is (pos t) = refl
phase_is (negsuc t) = sym (zero-div phase_seconds)

pub phases_grow : (a b : ℤ) → le_z a b ≡ true → phase_of a ≤ phase_of b
phases_grow a b h = omega (arith, le_true a b h, phase_is a, phase_is b, one_part a, one_part b)

-- ---- live phases

pub live_range : (c p : ℕ) → is_live c p ≡ true → (p ≤ c) × (c ≤ p + 2)
unfolding is_live
live_range c p h =
    (leb-true p c (and_left _ (leb c (p + 2)) h), leb-true c (p + 2) (and_right (leb p c) _ h))

pub range_live : (c p : ℕ) → p ≤ c → c ≤ p + 2 → is_live c p ≡ true
unfolding is_live
range_live c p h k = and_true _ _ (le-leb p c h) (le-leb c (p + 2) k)

-- two live phases with the same slot are the same phase
pub same_slot : (c p q : ℕ) → is_live c p ≡ true → is_live c q ≡ true → slot_of p ≡ slot_of q → p ≡ q
unfolding slot_of
same_slot c p q h k e = omega (arith, live_range c p h, live_range c q k)

pub slot_on : (p : ℕ) → slot_of p < slots
unfolding slot_of
slot_on p = omega arith

-- a phase is in the list exactly when it is live
pub listed_live : (c p : ℕ) → Memᴰ p (live_phases c) → is_live c p ≡ true
unfolding live_phases
listed_live zero p m = let e = Memᴰ.eq_of_singleton m in range_live 0 p (omega arith) (omega arith)
listed_live (suc zero) p m =
    ⊎_elim
    (λ e. range_live 1 p (omega arith) (omega arith))
    (λ n. let e = Memᴰ.eq_of_singleton n in range_live 1 p (omega arith) (omega arith))
    (Memᴰ.cases_cons m)
listed_live (suc (suc c)) p m =
    ⊎_elim
    (λ e. range_live (suc (suc c)) p (omega arith) (omega arith))
    (λ n.
    ⊎_elim
    (λ e. range_live (suc (suc c)) p (omega arith) (omega arith))
    (λ k. let e = Memᴰ.eq_of_singleton k in range_live (suc (suc c)) p (omega arith) (omega arith))
    (Memᴰ.cases_cons n))
    (Memᴰ.cases_cons m)

pub live_listed : (c p : ℕ) → is_live c p ≡ true → Memᴰ p (live_phases c)
unfolding live_phases
live_listed zero p h = let e : p ≡ 0 = omega (arith, live_range 0 p h) in Memᴰ.head e
live_listed (suc zero) p h =
    dite (ℕ_discrete p 1)
    (λ e. Memᴰ.head e)
    (λ n. let e : p ≡ 0 = omega (arith, live_range 1 p h) in Memᴰ.tail (Memᴰ.head e))
live_listed (suc (suc c)) p h =
    dite (ℕ_discrete p (suc (suc c)))
    (λ e. Memᴰ.head e)
    (λ n.
    dite (ℕ_discrete p (suc c))
    (λ e. Memᴰ.tail (Memᴰ.head e))
    (λ k.
    let e : p ≡ c = omega (arith, live_range (suc (suc c)) p h) in
    Memᴰ.tail (Memᴰ.tail (Memᴰ.head e))))
