-- The floats one after the other, and that the numbers of each are in their ranges.
-- Assumes nothing.
use mathlib.Core.Path.{◌≡◌, refl, ap, ap₂, ◌∙◌}
use mathlib.Core.Bool.{true}
use Prim.Native.Nat.{ℕ, zero, suc, ◌+◌, ◌-◌, ◌*◌, ◌≤◌, ◌<◌}
use native.Mathlib.Omega.{arith}
use lib.Dec.{lit<, lit≤}
use lib.IntN.{ℤ, pos, neg_ℤ, ◌-ℤ◌}
use lib.ListN.{length, get_or, drop}
use lib.Signed.{le_z}
use borrow.Author.Tests.{le-leb}
use Rattle.ints.specs.Whole.{between}
use Rattle.ints.proofs.Parts.{signed, sub, neg}
use Rattle.ints.proofs.Truth.{and_true}
use Rattle.grid.specs.Units.{last_position, speed_limit, last_id}
use Rattle.grid.specs.Reports.{is_position, is_speed, in_range}
use Rattle.grid.specs.declared.Report.{Report}
use Rattle.fields.specs.Fields.{greatest, least_size, is_writable}
use Rattle.fields.specs.Numbers.{are_writable}
use Rattle.fields.proofs.NumbersLaws.{pos-writable, more_writable, none_writable}
use Rattle.generator.specs.Generator.{step, times, steps}
use Rattle.generator.proofs.GeneratorLaws.{times_add, draw_below_lem}
use Rattle.lines.specs.Lines.{report_numbers}
use Rattle.fleets.specs.Inputs.{is_fleet}
use Rattle.fleets.specs.Fleets.{positions, speeds, draws, nth_draw, float_of, floats_after, written_floats}
use Rattle.fleets.specs.declared.Fleet.{Fleet}
use Rattle.fleets.proofs.InputsLaws.{ranges}

-- ---- one after the other

pub floats_many : (k n s : ℕ) → length (floats_after k n s) ≡ n
unfolding floats_after
floats_many k zero s = refl
floats_many k (suc n) s = ap suc (floats_many (suc k) n (steps draws s))

-- the draws of those that are dropped are passed over
pub floats_dropped : (k a b s : ℕ) → drop a (floats_after k (a + b) s) ≡ floats_after (k + a) b (steps (draws * a) s)
unfolding floats_after times
floats_dropped k zero b s =
    let e : 0 + b ≡ b = omega arith in
    let g : k ≡ k + 0 = omega arith in
    ap₂ (λ (i n : ℕ). floats_after i n s) g e
floats_dropped k (suc a) b s =
    let e : suc a + b ≡ suc (a + b) = omega arith in
    let g : suc k + a ≡ k + suc a = omega arith in
    let m : draws + draws * a ≡ draws * suc a = omega arith in
    ap (λ (n : ℕ). drop (suc a) (floats_after k n s)) e
    ∙ floats_dropped (suc k) a b (steps draws s)
    ∙ ap₂ (λ (i z : ℕ). floats_after i b z) g (times_add step draws (draws * a) s ∙ ap (λ (n : ℕ). steps n s) m)

-- those of a fleet that are written
pub written_after :
    (f : Fleet) → is_fleet f ≡ true → written_floats f ≡ floats_after f.skip (f.floats - f.skip) (steps (draws * f.skip) f.start)
written_after f h =
    let within = (ranges f h).skipped in
    let e : f.floats ≡ f.skip + (f.floats - f.skip) = omega arith in
    let g : 0 + f.skip ≡ f.skip = omega arith in
    ap (λ (n : ℕ). drop f.skip (floats_after 0 n f.start)) e
    ∙ floats_dropped 0 f.skip (f.floats - f.skip) f.start
    ∙ ap (λ (k : ℕ). floats_after k (f.floats - f.skip) (steps (draws * f.skip) f.start)) g

-- the one after i others
pub float_at : (d : Report) (k n s i : ℕ) → i < n → get_or (floats_after k n s) i d ≡ float_of (k + i + 1) (steps (draws * i) s)
unfolding floats_after times
float_at d k zero s i h = absurd (omega arith)
float_at d k (suc n) s zero h =
    let e : suc k ≡ k + 0 + 1 = omega arith in
    ap (λ (j : ℕ). float_of j s) e
float_at d k (suc n) s (suc i) h =
    let e : suc k + i + 1 ≡ k + suc i + 1 = omega arith in
    let m : draws + draws * i ≡ draws * suc i = omega arith in
    float_at d (suc k) n (steps draws s) i (omega arith)
    ∙ ap₂ (λ (j z : ℕ). float_of j z) e (times_add step draws (draws * i) s ∙ ap (λ (j : ℕ). steps j s) m)

-- the state after one more float
pub draws_next : (i s : ℕ) → steps draws (steps (draws * i) s) ≡ steps (draws * (i + 1)) s
draws_next i s =
    let e : draws * i + draws ≡ draws * (i + 1) = omega arith in
    times_add step (draws * i) draws s ∙ ap (λ (m : ℕ). steps m s) e

-- ---- the draws of a float

position_in : (n : ℕ) → n < positions → is_position (pos n) ≡ true
position_in n h = and_true _ _ (le-leb 0 n (omega arith)) (le-leb n last_position (omega arith))

position_writable : (n : ℕ) → n < positions → is_writable (pos n) ≡ true
position_writable n h = pos-writable n (omega arith)

-- a speed as it is drawn, from 0 on
abbrev lowered : ℕ → ℤ
lowered n = pos n -ℤ pos speed_limit

-- it is from -500 to 500, and so from any lower number to any higher one
lowered_in : (least most n : ℕ) → speed_limit ≤ least → speed_limit ≤ most → n < speeds → between (neg_ℤ (pos least)) (pos most) (lowered n) ≡ true
lowered_in least most n h k l =
    let above : le_z (neg_ℤ (pos least)) (lowered n) ≡ true = omega (arith, signed, sub (pos n) (pos speed_limit), neg (pos least)) in
    let below : le_z (lowered n) (pos most) ≡ true = omega (arith, signed, sub (pos n) (pos speed_limit)) in
    and_true _ _ above below

speed_in : (n : ℕ) → n < speeds → is_speed (lowered n) ≡ true
speed_in n h = lowered_in speed_limit speed_limit n (lit≤ tt) (lit≤ tt) h

speed_writable : (n : ℕ) → n < speeds → is_writable (lowered n) ≡ true
speed_writable n h = lowered_in least_size greatest n (lit≤ tt) (lit≤ tt) h

module _ (s : ℕ) where
  x_below : nth_draw positions s 0 < positions
  x_below = draw_below_lem positions (steps 0 s) (lit< tt)

  y_below : nth_draw positions s 1 < positions
  y_below = draw_below_lem positions (steps 1 s) (lit< tt)

  vx_below : nth_draw speeds s 2 < speeds
  vx_below = draw_below_lem speeds (steps 2 s) (lit< tt)

  vy_below : nth_draw speeds s 3 < speeds
  vy_below = draw_below_lem speeds (steps 3 s) (lit< tt)

pub float-in_range : (k s : ℕ) → 1 ≤ k → k ≤ last_id → in_range (float_of k s) ≡ true
unfolding in_range float_of
float-in_range k s h l =
    and_true _ _ (and_true _ _ (le-leb 1 k h) (le-leb k last_id l))
    (and_true _ _ (and_true _ _ (position_in _ (x_below s)) (position_in _ (y_below s)))
    (and_true _ _ (speed_in _ (vx_below s)) (speed_in _ (vy_below s))))

pub float_writable : (k s : ℕ) → k ≤ greatest → are_writable (report_numbers (float_of k s)) ≡ true
unfolding float_of
float_writable k s h =
    more_writable _ _ (pos-writable k h)
    (more_writable _ _ (pos-writable 0 (omega arith))
    (more_writable _ _ (position_writable _ (x_below s))
    (more_writable _ _ (position_writable _ (y_below s))
    (more_writable _ _ (speed_writable _ (vx_below s)) (more_writable _ _ (speed_writable _ (vy_below s)) none_writable)))))
