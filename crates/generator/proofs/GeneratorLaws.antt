-- The laws of steps, jumps and draws. A doubled map is the map done twice, so a jump by doubling does its map as many times as said; the number of steps is twice
-- its half, and one more where it is odd.
-- Assumes nothing.
use Rattle.std.proofs.Common.{◌≡◌, ℕ, zero, suc, ◌+◌, ◌*◌, ◌/◌, ◌%◌, ◌<◌, ◌≤◌, Bool, true, false}
use Rattle.std.proofs.Common.{cond, eqb, sym, refl, ap, ◌∙◌, mod-lt, mul_assoc, mul_comm, div-lt_iff_lt-mul, mul-add, arith, lit<, eqb-true}
use native.Mathlib.Nat.{mul-lt-mul_of_pos_left, mod-add-mod, add-mod-mod, div-add-mod, mul-add-mod_self_left}
use borrow.Author.Tests.{eqb-false}
use Rattle.generator.specs.Generator.{states, mapped, one, step, times, draw_below, doubled, jumped}
use Rattle.generator.specs.declared.steps.Affine.{Affine}

-- ---- remainders under a product

times_rest : (a b m : ℕ) → a * (b % m) % m ≡ a * b % m
times_rest a b m =
    let e : a * b ≡ m * (a * (b / m)) + a * (b % m) =
    ap (λ (n : ℕ). a * n) (sym (div-add-mod b m))
    ∙ mul-add a (m * (b / m)) (b % m)
    ∙ ap (λ (n : ℕ). n + a * (b % m)) (sym (mul_assoc a m (b / m)) ∙ ap (λ (n : ℕ). n * (b / m)) (mul_comm a m) ∙ mul_assoc m a (b / m)) in
    sym (ap (λ (n : ℕ). n % m) e ∙ mul-add-mod_self_left m (a * (b / m)) (a * (b % m)))

rest_times : (a b m : ℕ) → a % m * b % m ≡ a * b % m
rest_times a b m = ap (λ (n : ℕ). n % m) (mul_comm (a % m) b) ∙ times_rest b a m ∙ ap (λ (n : ℕ). n % m) (mul_comm b a)

-- a product and a sum, each wrapping
pub wrapped : (a s c : ℕ) → (a * s % states + c) % states ≡ (a * s + c) % states
wrapped a s c = mod-add-mod (a * s) states c

-- ---- a map done twice

pub doubled_is : (f : Affine) (s : ℕ) → mapped (doubled f) s ≡ mapped f (mapped f s)
doubled_is f s = go states f.factor f.term
  where
    go : (m a c : ℕ) → (a * a % m * s + (a * c + c) % m) % m ≡ (a * ((a * s + c) % m) + c) % m
    go m a c =
        add-mod-mod (a * a % m * s) (a * c + c) m
        ∙ sym (mod-add-mod (a * a % m * s) m (a * c + c))
        ∙ ap (λ (n : ℕ). (n + (a * c + c)) % m) (rest_times (a * a) s m)
        ∙ mod-add-mod (a * a * s) m (a * c + c)
        ∙ ap (λ (n : ℕ). n % m)
        (let e : a * a * s ≡ a * (a * s) = mul_assoc a a s in
        let g = mul-add a (a * s) c in
        let r : a * a * s + (a * c + c) ≡ a * (a * s + c) + c = omega arith in
        r)
        ∙ sym (mod-add-mod (a * (a * s + c)) m c)
        ∙ ap (λ (n : ℕ). (n + c) % m) (sym (times_rest a (a * s + c) m))
        ∙ mod-add-mod (a * ((a * s + c) % m)) m c

-- ---- so many times

times_same : (f g : ℕ → ℕ) → ((s : ℕ) → f s ≡ g s) → (m s : ℕ) → times f m s ≡ times g m s
unfolding times
times_same f g e zero s = refl
times_same f g e (suc m) s = ap (times f m) (e s) ∙ times_same f g e m (g s)

times_two : (f : ℕ → ℕ) (m s : ℕ) → times (λ z. f (f z)) m s ≡ times f (2 * m) s
unfolding times
times_two f zero s = refl
times_two f (suc m) s =
    let e : 2 * suc m ≡ suc (suc (2 * m)) = omega arith in
    times_two f m (f (f s)) ∙ sym (ap (λ (n : ℕ). times f n s) e)

-- a times, then b times
pub times_add : (f : ℕ → ℕ) (a b s : ℕ) → times f b (times f a s) ≡ times f (a + b) s
unfolding times
times_add f zero b s = ap (λ (n : ℕ). times f n s) (let r : b ≡ 0 + b = omega arith in r)
times_add f (suc a) b s =
    let e : suc a + b ≡ suc (a + b) = omega arith in
    times_add f a b (f s) ∙ sym (ap (λ (n : ℕ). times f n s) e)

halves : (f : ℕ → ℕ) (m s : ℕ) → times f (2 * (m / 2)) (cond (eqb (m % 2) 0) s (f s)) ≡ times f m s
unfolding times
halves f m s = go (eqb (m % 2) 0) refl
  where
    go : (t : Bool) → eqb (m % 2) 0 ≡ t → times f (2 * (m / 2)) (cond t s (f s)) ≡ times f m s
    go true e = ap (λ (n : ℕ). times f n s) (let h = eqb-true (m % 2) 0 e in let r : 2 * (m / 2) ≡ m = omega arith in r)
    go false e =
        sym (ap (λ (n : ℕ). times f n s) (let h = eqb-false (m % 2) 0 e in let r : m ≡ suc (2 * (m / 2)) = omega arith in r))

-- ---- by doubling

-- one halving: the map once where m is odd, then the doubled map half as many times
pub times_halved :
    (f : Affine) (m s : ℕ) → times (mapped (doubled f)) (m / 2) (cond (eqb (m % 2) 0) s (mapped f s)) ≡ times (mapped f) m s
times_halved f m s =
    let start = cond (eqb (m % 2) 0) s (mapped f s) in
    times_same (mapped (doubled f)) (λ z. mapped f (mapped f z)) (doubled_is f) (m / 2) start
    ∙ times_two (mapped f) (m / 2) start
    ∙ halves (mapped f) m s

pub jumped_is : (k : ℕ) (f : Affine) (m s : ℕ) → m ≤ k → jumped k f m s ≡ times (mapped f) m s
unfolding jumped times
jumped_is zero f m s h = sym (ap (λ (n : ℕ). times (mapped f) n s) (let r : m ≡ 0 = omega arith in r))
jumped_is (suc k) f zero s h = refl
jumped_is (suc k) f (suc n) s h =
    let m = suc n in
    jumped_is k (doubled f) (m / 2) (cond (eqb (m % 2) 0) s (mapped f s)) (omega arith) ∙ times_halved f m s

-- ---- draws

-- a draw below n is below n, since a state is below the number of states
pub draw_below_lem : (n s : ℕ) → 0 < n → (draw_below n s).number < n
draw_below_lem n s h =
    let few : step s < states = mod-lt (one.factor * s + one.term) (lit< tt) in
    let e : step s * n < n * states = rw (mul_comm (step s) n) (mul-lt-mul_of_pos_left few h) in
    (div-lt_iff_lt-mul (lit< tt)).1 e
