-- Sums over phases: where each element has one live phase, the elements counted phase by phase are all of them.
-- Assumes nothing.
use mathlib.Core.Path.{◌≡◌, refl, sym, ap₂, ◌∙◌}
use mathlib.Core.Bool.{Bool, true, false, ◌&&◌, cond}
use mathlib.Core.List.{List, [], ◌∷◌, Memᴰ}
use mathlib.Core.Logic.{dite}
use Prim.Native.Nat.{ℕ, zero, suc, ◌+◌}
use native.Mathlib.Decide.{ℕ_discrete}
use native.Mathlib.Omega.{arith}
use lib.Dec.{eqb}
use lib.ListN.{length}
use borrow.Author.Tests.{eq-eqb, ne_eqb}
use Rattle.ints.proofs.Lists.{passing}
use Rattle.ints.proofs.Marks.{bit}
use Rattle.rows.specs.Phases.{is_live, live_phases}
use Rattle.rows.proofs.PhasesLaws.{live_range}
use Rattle.ledger.specs.Machine.{summed}

pub summed_same : (f g : ℕ → ℕ) (ps : List ℕ) → ((p : ℕ) → Memᴰ p ps → f p ≡ g p) → summed f ps ≡ summed g ps
unfolding summed
summed_same f g [] h = refl
summed_same f g (p ∷ ps) h = ap₂ ◌+◌ (h p (Memᴰ.head refl)) (summed_same f g ps (λ k m. h k (Memᴰ.tail m)))

pub summed_none : (ps : List ℕ) → summed (λ p. 0) ps ≡ 0
unfolding summed
summed_none [] = refl
summed_none (p ∷ ps) = omega (arith, summed_none ps)

summed_both : (f g : ℕ → ℕ) (ps : List ℕ) → summed (λ p. f p + g p) ps ≡ summed f ps + summed g ps
unfolding summed
summed_both f g [] = omega arith
summed_both f g (p ∷ ps) = omega (arith, summed_both f g ps)

-- ---- the phase of an element is one of the live ones

own : (k p : ℕ) (b : Bool) → k ≡ p → bit (eqb k p && b) ≡ bit b
own k p b e = rw (eq-eqb k p e)

other : (k p : ℕ) (b : Bool) → (k ≡ p → ⊥) → bit (eqb k p && b) ≡ 0
other k p b n = rw (ne_eqb k p n)

once : (k c : ℕ) (b : Bool) → is_live c k ≡ true → summed (λ p. bit (eqb k p && b)) (live_phases c) ≡ bit b
unfolding summed live_phases
once k zero b h = omega (arith, own k 0 b (omega (arith, live_range 0 k h)))
once k (suc zero) b h =
    dite (ℕ_discrete k 1)
    (λ e. omega (arith, own k 1 b e, other k 0 b (λ i. omega arith)))
    (λ n. omega (arith, other k 1 b n, own k 0 b (omega (arith, live_range 1 k h))))
once k (suc (suc c)) b h =
    dite (ℕ_discrete k (suc (suc c)))
    (λ e. omega (arith, own k (suc (suc c)) b e, other k (suc c) b (λ i. omega arith), other k c b (λ i. omega arith)))
    (λ n.
    dite (ℕ_discrete k (suc c))
    (λ e. omega (arith, other k (suc (suc c)) b n, own k (suc c) b e, other k c b (λ i. omega arith)))
    (λ m. omega (arith, other k (suc (suc c)) b n, other k (suc c) b m, own k c b (omega (arith, live_range (suc (suc c)) k h)))))

one_more : {A : Type 0} (f : A → Bool) (a : A) (xs : List A) → length (passing f (a ∷ xs)) ≡ bit (f a) + length (passing f xs)
unfolding passing
one_more {A} f a xs = go (f a)
  where
    go : (t : Bool) → length (cond t (a ∷ passing f xs) (passing f xs)) ≡ bit t + length (passing f xs)
    go true = omega arith
    go false = omega arith

-- of elements that each have a live phase, those that pass, phase by phase and all at once
pub phases_summed : {A : Type 0} (phase : A → ℕ) (f : A → Bool) (c : ℕ) (xs : List A) → ((a : A) → Memᴰ a xs → is_live c (phase a) ≡ true)
    → summed (λ p. length (passing (λ a. eqb (phase a) p && f a) xs)) (live_phases c) ≡ length (passing f xs)
unfolding passing
phases_summed phase f c [] h = summed_none (live_phases c)
phases_summed {A} phase f c (a ∷ xs) h =
    let test : ℕ → A → Bool = λ p b. eqb (phase b) p && f b in
    summed_same
    (λ p. length (passing (test p) (a ∷ xs)))
    (λ p. bit (test p a) + length (passing (test p) xs))
    (live_phases c)
    (λ p m. one_more (test p) a xs)
    ∙ summed_both (λ p. bit (test p a)) (λ p. length (passing (test p) xs)) (live_phases c)
    ∙ ap₂ ◌+◌ (once (phase a) c (f a) (h a (Memᴰ.head refl))) (phases_summed phase f c xs (λ b m. h b (Memᴰ.tail m)))
    ∙ sym (one_more f a xs)
