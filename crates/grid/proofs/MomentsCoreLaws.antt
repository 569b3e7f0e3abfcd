-- Two ways through a range, over natural numbers: they share a moment of a span exactly if each is entered by the end of it and each is entered
-- no later than the other is left. A moment is n / m; what is said of it is multiplied out, so nothing is divided.
-- Assumes nothing.
use mathlib.Core.Path.{◌≡◌, sym, ap, ◌∙◌}
use mathlib.Core.Logic.{dite}
use Prim.Native.Nat.{ℕ, suc, ◌*◌, ◌≤◌, ◌<◌}
use native.Mathlib.Nat.{mul-le-mul_right, mul_comm, mul_assoc}
use native.Mathlib.Decide.{dec_lt, dec_le}
use native.Mathlib.Omega.{arith}

-- along one axis: inside after u seconds exactly if a ≤ w × u ≤ b
pub record Crossing : Type 0 where
  pub a : ℕ
  pub b : ℕ
  pub w : ℕ

-- a moment, not after d seconds, at which both are inside
pub record Moment (d : ℕ) (p q : Crossing) : Type 0 where
  pub n : ℕ
  pub m : ℕ
  pub positive : 0 < m
  pub in_span_lem : n ≤ d * m
  pub from_p : p.a * m ≤ p.w * n
  pub to_p : p.w * n ≤ p.b * m
  pub from_q : q.a * m ≤ q.w * n
  pub to_q : q.w * n ≤ q.b * m

pub record Test (d : ℕ) (p q : Crossing) : Type 0 where
  pub in_p : p.a ≤ p.w * d
  pub in_q : q.a ≤ q.w * d
  pub p_then_q : p.a * q.w ≤ q.b * p.w
  pub q_then_p : q.a * p.w ≤ p.b * q.w

-- ---- a moment passes the test: its m is cancelled

cancel : (x y k : ℕ) → 0 < k → x * k ≤ y * k → x ≤ y
cancel x y k h e =
    dite (dec_le x y) (λ l. l)
    (λ n. absurd (let g : suc y ≤ x = omega arith in let p = mul-le-mul_right k g in omega arith))

shuffle : (x y z : ℕ) → x * y * z ≡ x * z * y
shuffle x y z = mul_assoc x y z ∙ ap (λ (k : ℕ). x * k) (mul_comm y z) ∙ sym (mul_assoc x z y)

entered : (a w d n m : ℕ) → 0 < m → n ≤ d * m → a * m ≤ w * n → a ≤ w * d
entered a w d n m o s f =
    cancel a (w * d) m o
    (let x = mul-le-mul_right w s in
    let y : d * m * w ≡ w * d * m = shuffle d m w ∙ ap (λ (j : ℕ). j * m) (mul_comm d w) in
    let z : n * w ≡ w * n = mul_comm n w in
    omega arith)

-- entered at n / m or before, and the other, of speed u, not left before it
then_left : (a w b u n m : ℕ) → 0 < m → a * m ≤ w * n → u * n ≤ b * m → a * u ≤ b * w
then_left a w b u n m o f t =
    cancel (a * u) (b * w) m o
    (let x = mul-le-mul_right u f in
    let y = mul-le-mul_right w t in
    let e : w * n * u ≡ u * n * w = shuffle w n u ∙ ap (λ (j : ℕ). j * n) (mul_comm w u) ∙ shuffle u w n in
    let g : a * m * u ≡ a * u * m = shuffle a m u in
    let h : b * m * w ≡ b * w * m = shuffle b m w in
    omega arith)

pub moment_test : (d : ℕ) (p q : Crossing) → Moment d p q → Test d p q
moment_test d p q t =
    record {
      in_p = entered p.a p.w d t.n t.m t.positive t.in_span_lem t.from_p;
      in_q = entered q.a q.w d t.n t.m t.positive t.in_span_lem t.from_q;
      p_then_q = then_left p.a p.w q.b q.w t.n t.m t.positive t.from_p t.to_q;
      q_then_p = then_left q.a q.w p.b p.w t.n t.m t.positive t.from_q t.to_p;
    }

-- ---- the test gives a moment: the first at which both are entered

-- when p is entered, provided that q is entered no later
at_entry : (d : ℕ) (p q : Crossing) → p.a ≤ p.b → Test d p q → 0 < p.a → q.a * p.w ≤ p.a * q.w → Moment d p q
at_entry d p q o t h e =
    let c : p.w * p.a ≡ p.a * p.w = mul_comm p.w p.a in
    let c' : p.a * q.w ≡ q.w * p.a = mul_comm p.a q.w in
    record {
      n = p.a;
      m = p.w;
      -- a speed of 0 leads nowhere
      positive =
          dite (dec_lt 0 p.w) (λ l. l)
          (λ l. absurd (let z : p.w ≡ 0 = omega arith in let i : p.a ≤ 0 * d = rw z at t.in_p in omega arith));
      in_span_lem = let s : p.w * d ≡ d * p.w = mul_comm p.w d in omega arith;
      from_p = omega arith;
      to_p = let i = mul-le-mul_right p.w o in omega arith;
      from_q = omega arith;
      to_q = omega arith;
    }

swapped : (d : ℕ) (p q : Crossing) → Test d p q → Test d q p
swapped d p q t =
    record { in_p = t.in_q; in_q = t.in_p; p_then_q = t.q_then_p; q_then_p = t.p_then_q }

swapped_back : (d : ℕ) (p q : Crossing) → Moment d q p → Moment d p q
swapped_back d p q t =
    record {
      n = t.n;
      m = t.m;
      positive = t.positive;
      in_span_lem = t.in_span_lem;
      from_p = t.from_q;
      to_p = t.to_q;
      from_q = t.from_p;
      to_q = t.to_p;
    }

-- both entered before the start: at the start
at_start : (d : ℕ) (p q : Crossing) → p.a ≡ 0 → q.a ≡ 0 → Moment d p q
at_start d p q y z =
    record {
      n = 0;
      m = 1;
      positive = omega arith;
      in_span_lem = omega arith;
      from_p = omega arith;
      to_p = omega arith;
      from_q = omega arith;
      to_q = omega arith;
    }

pub test_moment : (d : ℕ) (p q : Crossing) → p.a ≤ p.b → q.a ≤ q.b → Test d p q → Moment d p q
test_moment d p q o o' t =
    dite (dec_lt 0 p.a)
    (λ h.
    dite (dec_le (q.a * p.w) (p.a * q.w)) (at_entry d p q o t h)
    (λ e.
    let k : 0 < q.a = dite (dec_lt 0 q.a) (λ l. l) (λ l. absurd (let z : q.a ≡ 0 = omega arith in e (rw z (omega arith)))) in
    q_entered k (omega arith)))
    (λ h.
    let y : p.a ≡ 0 = omega arith in
    dite (dec_lt 0 q.a) (λ k. q_entered k (rw y (omega arith)))
    (λ k. at_start d p q y (omega arith)))
  where
    q_entered : 0 < q.a → p.a * q.w ≤ q.a * p.w → Moment d p q
    q_entered k e = swapped_back d p q (at_entry d q p o' (swapped d p q t) k e)
