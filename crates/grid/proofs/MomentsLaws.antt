-- A window lists exactly the floats that are inside at some moment of it: the test by products, over whole numbers, comes to the one over natural
-- numbers, where a moment is counted from the start of the window.
-- Assumes nothing.
use mathlib.Core.Path.{◌≡◌, refl, sym, ap, ap₂, ◌∙◌}
use mathlib.Core.Bool.{true, ◌&&◌}
use Prim.Native.Nat.{ℕ, suc, ◌+◌, ◌*◌, ◌≤◌, ◌<◌}
use native.Mathlib.Nat.{mul-le-mul, mul_assoc, add-mul}
use native.Mathlib.Omega.{arith}
use lib.IntN.{ℤ, pos, negsuc, ◌+ℤ◌, ◌-ℤ◌, ◌*ℤ◌, *ℤ_comm, nat_abs}
use lib.Signed.{le_z}
use Rattle.ints.specs.Whole.{between}
use Rattle.ints.proofs.Parts.{up, down, signed, one_part, equal_parts, add, sub, mul, le_true, true_le, true_false}
use Rattle.ints.proofs.Truth.{and_true, and_left, and_right}
use Rattle.grid.specs.Places.{position_after}
use Rattle.grid.specs.Moments.{Axis, SomeMoment, position_times, passage_of, in_time, in_turn, meeting, inside_between, InsideAtSomeMoment}
use Rattle.grid.specs.declared.Range.{Range}
use Rattle.grid.specs.declared.moments.Passage.{Passage}
use Rattle.grid.proofs.ReportsLaws.{times_sum}
use Rattle.grid.proofs.MomentsCoreLaws.{Crossing, Test, moment_test, test_moment}
use Rattle.grid.proofs.MomentsOneTimeLaws.{speed_is}

-- ---- m times a number

scaled : (z : ℤ) (m : ℕ) → (up (z *ℤ pos m) ≡ up z * m) × (down (z *ℤ pos m) ≡ down z * m)
scaled z m = let i = mul z (pos m) in (omega (arith, i.0), omega (arith, i.1))

spread : (a b : ℤ) (m : ℕ) → (a -ℤ b) *ℤ pos m ≡ a *ℤ pos m -ℤ b *ℤ pos m
spread a b m =
    let x = scaled (a -ℤ b) m in
    let y = scaled a m in
    let z = scaled b m in
    let s = ap (λ (k : ℕ). k * m) (sub a b) in
    let u = add-mul (up (a -ℤ b)) (down a + up b) m in
    let u' = add-mul (down a) (up b) m in
    let d = add-mul (down (a -ℤ b)) (up a + down b) m in
    let d' = add-mul (up a) (down b) m in
    omega (arith, signed, sub (a *ℤ pos m) (b *ℤ pos m), x.0, x.1, y.0, y.1, z.0, z.1)

times_both : (v e : ℤ) (m : ℕ) → v *ℤ (e *ℤ pos m) ≡ v *ℤ e *ℤ pos m
times_both v e m =
    let i = scaled e m in
    let o = mul v (e *ℤ pos m) in
    let j = mul v e in
    let p = scaled (v *ℤ e) m in
    let part : (a b c : ℕ) → b ≡ c * m → a * b ≡ a * c * m =
    (λ a b c h. ap (λ (k : ℕ). a * k) h ∙ sym (mul_assoc a c m)) in
    let g = ap (λ (k : ℕ). k * m) j.0 ∙ add-mul (up v * up e) (down v * down e) m in
    let h = ap (λ (k : ℕ). k * m) j.1 ∙ add-mul (up v * down e) (down v * up e) m in
    equal_parts (v *ℤ (e *ℤ pos m)) (v *ℤ e *ℤ pos m)
    (omega (arith, o.0, p.0, g, part (up v) (up (e *ℤ pos m)) (up e) i.0, part (down v) (down (e *ℤ pos m)) (down e) i.1))
    (omega (arith, o.1, p.1, h, part (up v) (down (e *ℤ pos m)) (down e) i.1, part (down v) (up (e *ℤ pos m)) (up e) i.0))

abbrev position_at : Axis → ℤ → ℤ
position_at a s = position_after a.x a.v (s -ℤ a.t)

-- m times the position at n / m, counted from the position at `from`
from_there :
    (a : Axis) (from n : ℤ) (m : ℕ)
    → position_times a n m ≡ position_at a from *ℤ pos m +ℤ a.v *ℤ (n -ℤ from *ℤ pos m)
from_there a from n m =
    let e = from -ℤ a.t in
    let p = position_at a from in
    let rest = n -ℤ from *ℤ pos m in
    let way : n -ℤ a.t *ℤ pos m ≡ rest +ℤ e *ℤ pos m =
    rw (spread from a.t m)
    (omega (
      arith,
      signed,
      sub n (a.t *ℤ pos m),
      sub n (from *ℤ pos m),
      sub (from *ℤ pos m) (a.t *ℤ pos m),
      add rest (from *ℤ pos m -ℤ a.t *ℤ pos m),
    )) in
    let there : p *ℤ pos m ≡ a.x *ℤ pos m +ℤ a.v *ℤ (e *ℤ pos m) =
    *ℤ_comm p (pos m)
    ∙ times_sum (pos m) a.x (a.v *ℤ e)
    ∙ ap₂ ◌+ℤ◌ (*ℤ_comm (pos m) a.x) (*ℤ_comm (pos m) (a.v *ℤ e) ∙ sym (times_both a.v e m)) in
    let one = a.v *ℤ rest in
    let two = a.v *ℤ (e *ℤ pos m) in
    let moved : a.v *ℤ (n -ℤ a.t *ℤ pos m) ≡ one +ℤ two =
    ap (λ (z : ℤ). a.v *ℤ z) way ∙ times_sum a.v rest (e *ℤ pos m) in
    rw (moved, there)
    (omega (
      arith,
      signed,
      add one two,
      add (a.x *ℤ pos m) (one +ℤ two),
      add (a.x *ℤ pos m) two,
      add (a.x *ℤ pos m +ℤ two) one,
    ))

-- ---- a test of whole numbers by their parts above 0

not_below_lem : (z : ℤ) → le_z (pos 0) z ≡ true → z ≡ pos (up z)
not_below_lem (pos n) h = refl
not_below_lem (negsuc n) h = absurd (true_false (sym h))

up_to : (z : ℤ) (j : ℕ) → le_z z (pos j) ≡ true → up z ≤ j
up_to z j h = omega (arith, le_true z (pos j) h, one_part z)

le_scaled : (z : ℤ) (m j : ℕ) → le_z (z *ℤ pos m) (pos j) ≡ true → up z * m ≤ j
le_scaled z m j h = let s = scaled z m in omega (arith, up_to (z *ℤ pos m) j h, s.0)

scaled_le : (z : ℤ) (m j : ℕ) → up z * m ≤ j → le_z (z *ℤ pos m) (pos j) ≡ true
scaled_le z m j h = let s = scaled z m in true_le (z *ℤ pos m) (pos j) (omega (arith, s.0, s.1))

at_least : (z : ℤ) (m j : ℕ) → 0 < m → le_z (pos j) (z *ℤ pos m) ≡ true → (le_z (pos 0) z ≡ true) × (j ≤ up z * m)
at_least (pos n) m j o h =
    let s = scaled (pos n) m in
    (true_le (pos 0) (pos n) (omega arith), omega (arith, le_true (pos j) (pos n *ℤ pos m) h, s.0, s.1))
at_least (negsuc n) m j o h =
    let s = scaled (negsuc n) m in
    let k = mul-le-mul (let i : 1 ≤ suc n = omega arith in i) (let i : 1 ≤ m = omega arith in i) in
    absurd (omega (arith, le_true (pos j) (negsuc n *ℤ pos m) h, s.0, s.1))

least_at : (z : ℤ) (m j : ℕ) → le_z (pos 0) z ≡ true → j ≤ up z * m → le_z (pos j) (z *ℤ pos m) ≡ true
least_at (pos n) m j o h =
    let s = scaled (pos n) m in true_le (pos j) (pos n *ℤ pos m) (omega (arith, s.0, s.1))
least_at (negsuc n) m j o h = absurd (true_false (sym o))

-- ---- one axis: inside k / m after the start exactly if up after × m ≤ |v| × k ≤ up until × m and until is not below 0

abbrev crossing : ℤ → ℤ → Range → Crossing
crossing p v r = record { a = up (passage_of p v r).after; b = up (passage_of p v r).until; w = nat_abs v }

ordered : (p v : ℤ) (r : Range) → le_z r.low r.high ≡ true → (crossing p v r).a ≤ (crossing p v r).b
unfolding passage_of
ordered p (pos w) r o =
    omega (arith, signed, sub r.low p, sub r.high p, one_part (r.low -ℤ p), one_part (r.high -ℤ p))
ordered p (negsuc w) r o =
    omega (arith, signed, sub p r.low, sub p r.high, one_part (p -ℤ r.low), one_part (p -ℤ r.high))

record Passes (p v : ℤ) (r : Range) (m k : ℕ) : Type 0 where
  some : le_z (pos 0) (passage_of p v r).until ≡ true
  from : (crossing p v r).a * m ≤ nat_abs v * k
  to : nat_abs v * k ≤ (crossing p v r).b * m

inside_passes :
    (p v : ℤ) (r : Range) (m k : ℕ)
    → 0 < m
    → between (r.low *ℤ pos m) (r.high *ℤ pos m) (p *ℤ pos m +ℤ v *ℤ pos k) ≡ true
    → Passes p v r m k
unfolding passage_of
inside_passes p (pos w) r m k o h =
    let start = p *ℤ pos m in
    let low = r.low *ℤ pos m in
    let high = r.high *ℤ pos m in
    let z = start +ℤ pos w *ℤ pos k in
    let l = and_left (le_z low z) (le_z z high) h in
    let g = and_right (le_z low z) (le_z z high) h in
    let i : le_z ((r.low -ℤ p) *ℤ pos m) (pos (w * k)) ≡ true =
    rw (spread r.low p m) (omega (arith, signed, add start (pos w *ℤ pos k), sub low start)) in
    let j : le_z (pos (w * k)) ((r.high -ℤ p) *ℤ pos m) ≡ true =
    rw (spread r.high p m) (omega (arith, signed, add start (pos w *ℤ pos k), sub high start)) in
    let e = at_least (r.high -ℤ p) m (w * k) o j in
    record { some = e.0; from = le_scaled (r.low -ℤ p) m (w * k) i; to = e.1 }
inside_passes p (negsuc w) r m k o h =
    let start = p *ℤ pos m in
    let low = r.low *ℤ pos m in
    let high = r.high *ℤ pos m in
    let v = negsuc w *ℤ pos k in
    let s = scaled (negsuc w) k in
    let z = start +ℤ v in
    let l = and_left (le_z low z) (le_z z high) h in
    let g = and_right (le_z low z) (le_z z high) h in
    let i : le_z ((p -ℤ r.high) *ℤ pos m) (pos (suc w * k)) ≡ true =
    rw (spread p r.high m) (omega (arith, signed, add start v, sub start high, s.0, s.1)) in
    let j : le_z (pos (suc w * k)) ((p -ℤ r.low) *ℤ pos m) ≡ true =
    rw (spread p r.low m) (omega (arith, signed, add start v, sub start low, s.0, s.1)) in
    let e = at_least (p -ℤ r.low) m (suc w * k) o j in
    record { some = e.0; from = le_scaled (p -ℤ r.high) m (suc w * k) i; to = e.1 }

passes_inside :
    (p v : ℤ) (r : Range) (m k : ℕ)
    → Passes p v r m k
    → between (r.low *ℤ pos m) (r.high *ℤ pos m) (p *ℤ pos m +ℤ v *ℤ pos k) ≡ true
unfolding passage_of
passes_inside p (pos w) r m k h =
    let start = p *ℤ pos m in
    let low = r.low *ℤ pos m in
    let high = r.high *ℤ pos m in
    let z = start +ℤ pos w *ℤ pos k in
    let i = rw (spread r.low p m) at (scaled_le (r.low -ℤ p) m (w * k) h.from) in
    let j = rw (spread r.high p m) at (least_at (r.high -ℤ p) m (w * k) h.some h.to) in
    and_true (le_z low z) (le_z z high)
    (omega (arith, signed, add start (pos w *ℤ pos k), sub low start))
    (omega (arith, signed, add start (pos w *ℤ pos k), sub high start))
passes_inside p (negsuc w) r m k h =
    let start = p *ℤ pos m in
    let low = r.low *ℤ pos m in
    let high = r.high *ℤ pos m in
    let v = negsuc w *ℤ pos k in
    let s = scaled (negsuc w) k in
    let z = start +ℤ v in
    let i = rw (spread p r.high m) at (scaled_le (p -ℤ r.high) m (suc w * k) h.from) in
    let j = rw (spread p r.low m) at (least_at (p -ℤ r.low) m (suc w * k) h.some h.to) in
    and_true (le_z low z) (le_z z high)
    (omega (arith, signed, add start v, sub start low, s.0, s.1))
    (omega (arith, signed, add start v, sub start high, s.0, s.1))

-- ---- the two tests, of passages whose speeds are w and u

in_time_lem : (c : Passage) (w d : ℕ) → c.speed ≡ pos w → in_time c (pos d) ≡ true → (up c.after ≤ w * d) × (le_z (pos 0) c.until ≡ true)
in_time_lem c w d e h =
    let entered = and_left (le_z c.after (c.speed *ℤ pos d)) (le_z (pos 0) c.until) h in
    (up_to c.after (w * d) (rw e at entered), and_right (le_z c.after (c.speed *ℤ pos d)) (le_z (pos 0) c.until) h)

time_in : (c : Passage) (w d : ℕ) → c.speed ≡ pos w → up c.after ≤ w * d → le_z (pos 0) c.until ≡ true → in_time c (pos d) ≡ true
time_in c w d e h k =
    and_true (le_z c.after (c.speed *ℤ pos d)) (le_z (pos 0) c.until) (rw e (true_le c.after (pos (w * d)) (omega arith))) k

in_turn_lem :
    (c e : Passage) (w u : ℕ)
    → c.speed ≡ pos w
    → e.speed ≡ pos u
    → le_z (pos 0) e.until ≡ true
    → in_turn c e ≡ true
    → up c.after * u ≤ up e.until * w
in_turn_lem c e w u x y o h =
    le_scaled c.after u (up e.until * w) (rw (x, y, not_below_lem e.until o) at h)

turn_in :
    (c e : Passage) (w u : ℕ)
    → c.speed ≡ pos w
    → e.speed ≡ pos u
    → le_z (pos 0) e.until ≡ true
    → up c.after * u ≤ up e.until * w
    → in_turn c e ≡ true
turn_in c e w u x y o h =
    rw (x, y) (rw (not_below_lem e.until o) (scaled_le c.after u (up e.until * w) h))

-- ---- both axes

module _ (p v : ℤ) (r : Range) (p' v' : ℤ) (r' : Range) (d : ℕ) where
  record Passed : Type 0 where
    some_x : le_z (pos 0) (passage_of p v r).until ≡ true
    some_y : le_z (pos 0) (passage_of p' v' r').until ≡ true
    test : Test d (crossing p v r) (crossing p' v' r')

  meeting_passed : meeting (passage_of p v r) (passage_of p' v' r') (pos d) ≡ true → Passed
  unfolding meeting
  meeting_passed h =
      let c = passage_of p v r in
      let e = passage_of p' v' r' in
      let s = speed_is p v r in
      let s' = speed_is p' v' r' in
      let times = and_left (in_time c (pos d) && in_time e (pos d)) (in_turn c e && in_turn e c) h in
      let turns = and_right (in_time c (pos d) && in_time e (pos d)) (in_turn c e && in_turn e c) h in
      let x = in_time_lem c (nat_abs v) d s (and_left (in_time c (pos d)) (in_time e (pos d)) times) in
      let y = in_time_lem e (nat_abs v') d s' (and_right (in_time c (pos d)) (in_time e (pos d)) times) in
      record {
        some_x = x.1;
        some_y = y.1;
        test = record {
          in_p = x.0;
          in_q = y.0;
          p_then_q = in_turn_lem c e (nat_abs v) (nat_abs v') s s' y.1 (and_left (in_turn c e) (in_turn e c) turns);
          q_then_p = in_turn_lem e c (nat_abs v') (nat_abs v) s' s x.1 (and_right (in_turn c e) (in_turn e c) turns);
        };
      }

  passed_meeting : Passed → meeting (passage_of p v r) (passage_of p' v' r') (pos d) ≡ true
  unfolding meeting
  passed_meeting t =
      let c = passage_of p v r in
      let e = passage_of p' v' r' in
      let s = speed_is p v r in
      let s' = speed_is p' v' r' in
      and_true (in_time c (pos d) && in_time e (pos d)) (in_turn c e && in_turn e c)
      (and_true (in_time c (pos d)) (in_time e (pos d))
      (time_in c (nat_abs v) d s t.test.in_p t.some_x)
      (time_in e (nat_abs v') d s' t.test.in_q t.some_y))
      (and_true (in_turn c e) (in_turn e c)
      (turn_in c e (nat_abs v) (nat_abs v') s s' t.some_y t.test.p_then_q)
      (turn_in e c (nat_abs v') (nat_abs v) s' s t.some_x t.test.q_then_p))

-- a moment n / m is counted from the start: k is n - from × m
module _ (from last : ℤ) (order : le_z from last ≡ true) where
  d : ℕ
  d = up (last -ℤ from)

  d_is : last -ℤ from ≡ pos d
  unfolding d
  d_is = not_below_lem (last -ℤ from) (omega (arith, signed, sub last from))

  span_is : (m : ℕ) → last *ℤ pos m -ℤ from *ℤ pos m ≡ pos (d * m)
  span_is m = sym (spread last from m) ∙ ap (λ (z : ℤ). z *ℤ pos m) d_is

  counted :
      (c : Axis) (n : ℤ) (m k : ℕ)
      → n -ℤ from *ℤ pos m ≡ pos k
      → position_times c n m ≡ position_at c from *ℤ pos m +ℤ c.v *ℤ pos k
  counted c n m k e =
      from_there c from n m ∙ ap (λ (z : ℤ). position_at c from *ℤ pos m +ℤ c.v *ℤ z) e

  module _ (a b : Axis) where
    -- where the float is along each axis at the start, and its way through the range
    abbrev p : ℤ
    p = position_at a from

    abbrev p' : ℤ
    p' = position_at b from

    abbrev way : Crossing
    way = crossing p a.v a.range

    abbrev way' : Crossing
    way' = crossing p' b.v b.range

    moment_inside : SomeMoment from last a b → inside_between from last a b ≡ true
    moment_inside t =
        let n = t.n in
        let m = t.m in
        let begin = from *ℤ pos m in
        let end = last *ℤ pos m in
        let k = up (n -ℤ begin) in
        let e : n -ℤ begin ≡ pos k = not_below_lem (n -ℤ begin) (omega (arith, signed, sub n begin, t.not_before)) in
        let x = inside_passes p a.v a.range m k t.positive (rw (counted a n m k e) at t.inside_x) in
        let y = inside_passes p' b.v b.range m k t.positive (rw (counted b n m k e) at t.inside_y) in
        let in_span_lem : k ≤ d * m =
        omega (
          arith,
          sub n begin,
          sub end begin,
          le_true n end t.not_after,
          ap up e,
          ap down e,
          ap up (span_is m),
          ap down (span_is m),
        ) in
        rw d_is
        (passed_meeting p a.v a.range p' b.v b.range d
        (record {
          some_x = x.some;
          some_y = y.some;
          test = moment_test d way way'
              (record {
                n = k;
                m = m;
                positive = t.positive;
                in_span_lem = in_span_lem;
                from_p = x.from;
                to_p = x.to;
                from_q = y.from;
                to_q = y.to;
              });
        }))

    inside_moment :
        le_z a.range.low a.range.high ≡ true
        → le_z b.range.low b.range.high ≡ true
        → inside_between from last a b ≡ true
        → SomeMoment from last a b
    inside_moment oa ob h =
        let t = meeting_passed p a.v a.range p' b.v b.range d (rw d_is at h) in
        let c = test_moment d way way' (ordered p a.v a.range oa) (ordered p' b.v b.range ob) t.test in
        let m = c.m in
        let k = c.n in
        let begin = from *ℤ pos m in
        let end = last *ℤ pos m in
        let n = begin +ℤ pos k in
        let e : n -ℤ begin ≡ pos k = omega (arith, signed, add begin (pos k), sub n begin) in
        record {
          n = n;
          m = m;
          positive = c.positive;
          not_before = omega (arith, signed, add begin (pos k));
          not_after =
              omega (arith, signed, c.in_span_lem, add begin (pos k), sub end begin, ap up (span_is m), ap down (span_is m));
          inside_x = rw (counted a n m k e)
              (passes_inside p a.v a.range m k (record { some = t.some_x; from = c.from_p; to = c.to_p }));
          inside_y = rw (counted b n m k e)
              (passes_inside p' b.v b.range m k (record { some = t.some_y; from = c.from_q; to = c.to_q }));
        }

pub inside_at_some_moment : InsideAtSomeMoment
inside_at_some_moment from last order a b oa ob =
    (inside_moment from last order a b oa ob, moment_inside from last order a b)
