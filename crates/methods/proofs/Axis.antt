-- The rules "per axis" of both ways to reach, each law once for both axes: an expanded range grows with its bounds, a column grows
-- with its position, and a moved cell meets a range exactly when some whole position and whole speed lead into it.
-- Assumes nothing.
use mathlib.Core.Path.{◌≡◌, refl, ap, ap₂, ◌∙◌}
use mathlib.Core.Bool.{Bool, true, false, ◌&&◌}
use Prim.Native.Nat.{ℕ, zero, suc, ◌+◌, ◌-◌, ◌*◌, ◌≤◌}
use native.Mathlib.Nat.{add-mul, suc-mul}
use native.Mathlib.Omega.{arith}
use lib.Dec.{eqb}
use lib.IntN.{ℤ, pos, negsuc, ◌+ℤ◌, ◌-ℤ◌, ◌*ℤ◌, nat_abs, *ℤ-negsuc, neg_ℤ-neg_ℤ, -ℤ-+ℤ_cancel}
use lib.Signed.{le_z}
use Rattle.ints.specs.Whole.{between}
use Rattle.ints.proofs.Parts.{up, down, signed, add, sub, mul, one_part, mul_keeps, mul_turns, true_false}
use Rattle.ints.proofs.Least.{le_refl}
use Rattle.ints.proofs.Truth.{same_truth, and_true, and_left, and_right}
use Rattle.grid.specs.Units.{side, cell_size}
use Rattle.grid.specs.Places.{End, Span, endless, at, end_at, column_of, cell_span, in_span, not_below, not_above, position_after}
use Rattle.grid.proofs.PlacesLaws.{column_is}
use Rattle.methods.specs.Reach.{expanded_range, moved_span, forward, backward, meets}
use Rattle.grid.specs.declared.Range.{Range}

pub is_between : (low high z : ℤ) → le_z low z ≡ true → le_z z high ≡ true → between low high z ≡ true
is_between low high z h k = and_true _ _ h k

pub from_low : (low high z : ℤ) → between low high z ≡ true → le_z low z ≡ true
from_low low high z b = and_left _ (le_z z high) b

pub to_high : (low high z : ℤ) → between low high z ≡ true → le_z z high ≡ true
to_high low high z b = and_right (le_z low z) _ b

-- ---- how far a float goes in d seconds, for both signs of d: least and greatest are exchanged below 0

abbrev pub least_travel : ℤ → ℤ → ℤ → ℤ
least_travel least greatest (pos k) = least *ℤ pos k
least_travel least greatest (negsuc k) = greatest *ℤ negsuc k

abbrev pub greatest_travel : ℤ → ℤ → ℤ → ℤ
greatest_travel least greatest (pos k) = greatest *ℤ pos k
greatest_travel least greatest (negsuc k) = least *ℤ negsuc k

pub travels : (l g v d : ℤ) → le_z l v ≡ true → le_z v g ≡ true → (le_z (least_travel l g d) (v *ℤ d) ≡ true) × (le_z (v *ℤ d) (greatest_travel l g d) ≡ true)
travels l g v (pos k) h e = (mul_keeps l v k h, mul_keeps v g k e)
travels l g v (negsuc k) h e = (mul_turns v g k e, mul_turns l v k h)

pub least_grows : (l g l' g' d : ℤ) → le_z l' l ≡ true → le_z g g' ≡ true → le_z (least_travel l' g' d) (least_travel l g d) ≡ true
least_grows l g l' g' (pos k) h e = mul_keeps l' l k h
least_grows l g l' g' (negsuc k) h e = mul_turns g g' k e

pub greatest_grows : (l g l' g' d : ℤ) → le_z l' l ≡ true → le_z g g' ≡ true → le_z (greatest_travel l g d) (greatest_travel l' g' d) ≡ true
greatest_grows l g l' g' (pos k) h e = mul_keeps g g' k e
greatest_grows l g l' g' (negsuc k) h e = mul_turns l' l k h

-- ---- expanding

abbrev pub expanded_low : Range → ℤ → ℤ → ℤ → ℤ
expanded_low r l g d = r.low -ℤ greatest_travel l g d

abbrev pub expanded_high : Range → ℤ → ℤ → ℤ → ℤ
expanded_high r l g d = r.high -ℤ least_travel l g d

pub expanded_is : (r : Range) (l g d : ℤ) → expanded_range r l g d ≡ record { low = expanded_low r l g d; high = expanded_high r l g d }
unfolding expanded_range
expanded_is r l g (pos k) = refl
expanded_is r l g (negsuc k) = simp (*ℤ-negsuc, neg_ℤ-neg_ℤ)

-- wider bounds give a wider range
pub record Inside (s t : Range) : Type 0 where
  pub low_at : le_z t.low s.low ≡ true
  pub high_at : le_z s.high t.high ≡ true

pub expanded_grows : (r : Range) (l g l' g' d : ℤ) → le_z l' l ≡ true → le_z g g' ≡ true → Inside (expanded_range r l g d) (expanded_range r l' g' d)
expanded_grows r l g l' g' d h e =
    let p = least_grows l g l' g' d h e in
    let q = greatest_grows l g l' g' d h e in
    rw (expanded_is r l g d, expanded_is r l' g' d)
    (omega (
      arith,
      signed,
      sub r.low (greatest_travel l g d),
      sub r.low (greatest_travel l' g' d),
      sub r.high (least_travel l g d),
      sub r.high (least_travel l' g' d),
    ))

pub expanded_ordered : (r : Range) (l g d : ℤ) → le_z r.low r.high ≡ true → le_z l g ≡ true → le_z (expanded_range r l g d).low (expanded_range r l g d).high ≡ true
expanded_ordered r l g d o h =
    let t = travels l g l d (le_refl l) h in
    rw (expanded_is r l g d) (omega (arith, signed, sub r.low (greatest_travel l g d), sub r.high (least_travel l g d)))

-- ---- columns

pub column_grows : (a b : ℤ) → le_z a b ≡ true → column_of a ≤ column_of b
column_grows a b h = omega (arith, signed, column_is a, column_is b, one_part a, one_part b)

-- ---- moving

-- an end moved so far; an endless side stays endless
abbrev pub shifted : End → ℤ → End
shifted endless t = endless
shifted (at e) t = at (e +ℤ t)

forward_is : (e : End) (v : ℤ) (k : ℕ) → forward e v k ≡ shifted e (v *ℤ pos k)
forward_is endless v k = refl
forward_is (at e) v k = refl

backward_is : (e : End) (v : ℤ) (k : ℕ) → backward e v (suc k) ≡ shifted e (v *ℤ negsuc k)
backward_is endless v k = refl
backward_is (at e) v k = simp *ℤ-negsuc

pub moved_low : (s : Span) (l g d : ℤ) → (moved_span s l g d).low ≡ shifted s.low (least_travel l g d)
unfolding moved_span
moved_low s l g (pos k) = forward_is s.low l k
moved_low s l g (negsuc k) = backward_is s.low g k

pub moved_high : (s : Span) (l g d : ℤ) → (moved_span s l g d).high ≡ shifted s.high (greatest_travel l g d)
unfolding moved_span
moved_high s l g (pos k) = forward_is s.high g k
moved_high s l g (negsuc k) = backward_is s.high l k

-- ---- every speed in between: j steps from the end of least travel, each step adds |d| to the travel

record Speed (l g d t : ℤ) : Type 0 where
  v : ℤ
  from_least : le_z l v ≡ true
  to_greatest : le_z v g ≡ true
  travel : v *ℤ d ≡ t

-- how many steps there are
abbrev steps : ℤ → ℤ → ℕ
steps l g = up g + down l - (up l + down g)

-- the travel after j steps
abbrev travelled : ℤ → ℤ → ℤ → ℕ → ℤ
travelled l g d j = least_travel l g d +ℤ pos (j * nat_abs d)

faster : (a : ℤ) (j k : ℕ) → (a +ℤ pos j) *ℤ pos k ≡ a *ℤ pos k +ℤ pos (j * k)
faster a j k =
    let e = simp add-mul at (ap (λ (n : ℕ). n * k) (add a (pos j))) in
    omega (arith, signed, mul (a +ℤ pos j) (pos k), mul a (pos k), add (a *ℤ pos k) (pos (j * k)))

slower : (a : ℤ) (j k : ℕ) → (a -ℤ pos j) *ℤ negsuc k ≡ a *ℤ negsuc k +ℤ pos (j * suc k)
slower a j k =
    let e = simp add-mul at (ap (λ (n : ℕ). n * suc k) (sub a (pos j))) in
    omega (arith, signed, mul (a -ℤ pos j) (negsuc k), mul a (negsuc k), add (a *ℤ negsuc k) (pos (j * suc k)))

speed_of : (l g d : ℤ) → le_z l g ≡ true → (j : ℕ) → j ≤ steps l g → Speed l g d (travelled l g d j)
speed_of l g (pos k) o j h =
    record {
      v = l +ℤ pos j;
      from_least = omega (arith, signed, add l (pos j));
      to_greatest = omega (arith, signed, add l (pos j));
      travel = faster l j k;
    }
speed_of l g (negsuc k) o j h =
    record {
      v = g -ℤ pos j;
      from_least = omega (arith, signed, sub g (pos j));
      to_greatest = omega (arith, signed, sub g (pos j));
      travel = slower g j k;
    }

greatest_is : (l g d : ℤ) → le_z l g ≡ true → greatest_travel l g d ≡ travelled l g d (steps l g)
greatest_is l g (pos k) o =
    let e : g ≡ l +ℤ pos (steps l g) = omega (arith, signed, add l (pos (steps l g))) in
    ap (λ (v : ℤ). v *ℤ pos k) e ∙ faster l (steps l g) k
greatest_is l g (negsuc k) o =
    let e : l ≡ g -ℤ pos (steps l g) = omega (arith, signed, sub g (pos (steps l g))) in
    ap (λ (v : ℤ). v *ℤ negsuc k) e ∙ slower g (steps l g) k

-- ---- a cell leaves no gap between two steps: it is 262,144 wide and a step is no longer

-- the ends of a cell's span, where it has both, are 262,143 apart
data Wide : End → End → Type 0 where
  no_low : {h : End} → Wide endless h
  no_high : {l : End} → Wide l endless
  both : {l h : ℤ} → up h + down l ≡ cell_size - 1 + (up l + down h) → Wide (at l) (at h)

cell_wide : (i : ℕ) → Wide (cell_span i).low (cell_span i).high
unfolding cell_span
cell_wide i = go (eqb i 0) (eqb i (side - 1))
  where
    go : (a b : Bool) → Wide (end_at a (pos (cell_size * i))) (end_at b (pos (cell_size * i + (cell_size - 1))))
    go true b = no_low
    go false true = no_high
    go false false = both {l = pos (cell_size * i)} {h = pos (cell_size * i + (cell_size - 1))} (omega arith)

-- where the cell moved by u lies above the range, the cell moved by t, at most a cell's width less than u, does not lie below it
no_gap :
    {lo hi : End}
    → Wide lo hi
    → (r : Range)
    → le_z r.low r.high ≡ true
    → (t u : ℤ)
    → up u + down t ≤ cell_size + (up t + down u)
    → not_below (shifted lo u) r.high ≡ false
    → not_above (shifted hi t) r.low ≡ true
no_gap no_low r o t u k h = absurd (true_false h)
no_gap no_high r o t u k h = refl
no_gap (both {l} {h} w) r o t u k e = omega (arith, signed, add l u, add h t)

-- a number of steps after which the moved cell meets the range
record Stop (lo hi : End) (r : Range) (l g d : ℤ) (n : ℕ) : Type 0 where
  j : ℕ
  few : j ≤ n
  not_above_lem : not_below (shifted lo (travelled l g d j)) r.high ≡ true
  not_below_lem : not_above (shifted hi (travelled l g d j)) r.low ≡ true

-- one step more adds at most a cell's width
step : (l g d : ℤ) → nat_abs d ≤ cell_size → (n : ℕ) → up (travelled l g d (suc n)) + down (travelled l g d n) ≤ cell_size + (up (travelled l g d n) + down (travelled l g d (suc n)))
step l g d small n =
    omega (arith, suc-mul n (nat_abs d), add (least_travel l g d) (pos (n * nat_abs d)), add (least_travel l g d) (pos (suc n * nat_abs d)))

-- from the last step downwards, the first at which the moved cell does not lie above the range
stop :
    {lo hi : End}
    → Wide lo hi
    → (r : Range)
    → le_z r.low r.high ≡ true
    → (l g d : ℤ)
    → nat_abs d ≤ cell_size
    → (n : ℕ)
    → not_below (shifted lo (travelled l g d 0)) r.high ≡ true
    → not_above (shifted hi (travelled l g d n)) r.low ≡ true
    → Stop lo hi r l g d n
stop w r o l g d small zero a b = record { j = 0; few = omega arith; not_above_lem = a; not_below_lem = b }
stop {lo} {hi} w r o l g d small (suc n) a b = go (not_below (shifted lo (travelled l g d (suc n))) r.high) refl (stop w r o l g d small n a)
  where
    go : (t : Bool) → not_below (shifted lo (travelled l g d (suc n))) r.high ≡ t → (not_above (shifted hi (travelled l g d n)) r.low ≡ true → Stop lo hi r l g d n) → Stop lo hi r l g d (suc n)
    go true e f = record { j = suc n; few = omega arith; not_above_lem = e; not_below_lem = b }
    go false e f =
        let s = f (no_gap w r o (travelled l g d n) (travelled l g d (suc n)) (step l g d small n) e) in
        record { j = s.j; few = omega (arith, s.few); not_above_lem = s.not_above_lem; not_below_lem = s.not_below_lem }

-- the position in the cell that lands in the range: the one that lands on its low edge, or the cell's low end
record Landing (lo hi : End) (r : Range) (t : ℤ) : Type 0 where
  x : ℤ
  above : not_below lo x ≡ true
  below : not_above hi x ≡ true
  in_range_lem : between r.low r.high (x +ℤ t) ≡ true

on_edge : (lo hi : End) (r : Range) → le_z r.low r.high ≡ true → (t : ℤ) → not_below lo (r.low -ℤ t) ≡ true → not_above (shifted hi t) r.low ≡ true → Landing lo hi r t
on_edge lo hi r o t a b =
    let e : r.low -ℤ t +ℤ t ≡ r.low = -ℤ-+ℤ_cancel r.low t in
    record {
      x = r.low -ℤ t;
      above = a;
      below = under hi b;
      in_range_lem = rw e (is_between r.low r.high r.low (le_refl r.low) o);
    }
  where
    under : (hi : End) → not_above (shifted hi t) r.low ≡ true → not_above hi (r.low -ℤ t) ≡ true
    under endless b = refl
    under (at h) b = omega (arith, signed, add h t, sub r.low t)

at_low_end : {l : ℤ} {hi : End} → Wide (at l) hi → (r : Range) (t : ℤ) → le_z (l +ℤ t) r.high ≡ true → le_z l (r.low -ℤ t) ≡ false → Landing (at l) hi r t
at_low_end {l} w r t a b =
    record {
      x = l;
      above = le_refl l;
      below = under w;
      in_range_lem = is_between r.low r.high (l +ℤ t) (omega (arith, signed, add l t, sub r.low t)) a;
    }
  where
    under : {hi : End} → Wide (at l) hi → not_above hi l ≡ true
    under no_high = refl
    under (both {h = h} e) = omega (arith, signed)

landing : (lo hi : End) → Wide lo hi → (r : Range) → le_z r.low r.high ≡ true → (t : ℤ) → not_below (shifted lo t) r.high ≡ true → not_above (shifted hi t) r.low ≡ true → Landing lo hi r t
landing endless hi w r o t a b = on_edge endless hi r o t refl b
landing (at l) hi w r o t a b = go (le_z l (r.low -ℤ t)) refl
  where
    go : (p : Bool) → le_z l (r.low -ℤ t) ≡ p → Landing (at l) hi r t
    go true e = on_edge (at l) hi r o t e b
    go false e = at_low_end w r t a e

-- ---- exactness

-- some whole position of the cell's span and some whole speed between least and greatest lead into the range
pub record Leads (i : ℕ) (l g d : ℤ) (r : Range) : Type 0 where
  pub x : ℤ
  pub v : ℤ
  pub in_span_lem : in_span (cell_span i) x ≡ true
  pub from_least : le_z l v ≡ true
  pub to_greatest : le_z v g ≡ true
  pub in_range_lem : between r.low r.high (position_after x v d) ≡ true

pub meets_is :
    (s : Span) (l g d : ℤ) (r : Range)
    → meets (moved_span s l g d) r ≡ not_below (shifted s.low (least_travel l g d)) r.high && not_above (shifted s.high (greatest_travel l g d)) r.low
unfolding meets
meets_is s l g d r = rw (moved_low s l g d, moved_high s l g d)

pub meets_leads : (i : ℕ) (l g d : ℤ) (r : Range) → nat_abs d ≤ cell_size → le_z l g ≡ true → le_z r.low r.high ≡ true → meets (moved_span (cell_span i) l g d) r ≡ true → Leads i l g d r
unfolding in_span
meets_leads i l g d r small h o m =
    let lo = (cell_span i).low in
    let hi = (cell_span i).high in
    let t = least_travel l g d in
    let n = steps l g in
    let none : t ≡ travelled l g d 0 = omega (arith, signed, add t (pos (0 * nat_abs d))) in
    let below = not_below (shifted lo t) r.high in
    let above = not_above (shifted hi (greatest_travel l g d)) r.low in
    let k : below && above ≡ true = rw meets_is at m in
    let first = rw none at (and_left below above k) in
    let last = rw (greatest_is l g d h) at (and_right below above k) in
    let s = stop (cell_wide i) r o l g d small n first last in
    let p = landing lo hi (cell_wide i) r o (travelled l g d s.j) s.not_above_lem s.not_below_lem in
    let v = speed_of l g d h s.j s.few in
    record {
      x = p.x;
      v = v.v;
      in_span_lem = and_true (not_below lo p.x) (not_above hi p.x) p.above p.below;
      from_least = v.from_least;
      to_greatest = v.to_greatest;
      in_range_lem = rw v.travel p.in_range_lem;
    }

-- a position of a span, moved by s, shows where the span's ends lie: its low end moved less far is not above, its high end moved farther not below
pub low_end_before : (lo : End) (x s t high : ℤ) → not_below lo x ≡ true → le_z t s ≡ true → le_z (x +ℤ s) high ≡ true → not_below (shifted lo t) high ≡ true
low_end_before endless x s t high h k m = refl
low_end_before (at e) x s t high h k m = omega (arith, signed, add x s, add e t)

pub high_end_after : (hi : End) (x s t low : ℤ) → not_above hi x ≡ true → le_z s t ≡ true → le_z low (x +ℤ s) ≡ true → not_above (shifted hi t) low ≡ true
high_end_after endless x s t low h k m = refl
high_end_after (at e) x s t low h k m = omega (arith, signed, add x s, add e t)

pub leads_meets : (i : ℕ) (l g d : ℤ) (r : Range) → Leads i l g d r → meets (moved_span (cell_span i) l g d) r ≡ true
unfolding in_span
leads_meets i l g d r e =
    let lo = (cell_span i).low in
    let hi = (cell_span i).high in
    let t = travels l g e.v d e.from_least e.to_greatest in
    let a = low_end_before lo e.x (e.v *ℤ d) (least_travel l g d) r.high (and_left _ (not_above hi e.x) e.in_span_lem) t.0 (to_high r.low r.high _ e.in_range_lem) in
    let b = high_end_after hi e.x (e.v *ℤ d) (greatest_travel l g d) r.low (and_right (not_below lo e.x) _ e.in_span_lem) t.1 (from_low r.low r.high _ e.in_range_lem) in
    rw meets_is (and_true _ _ a b)

-- ---- a moved span that meets a range meets the expanded range where it is: an end moved by t is not past z exactly when it is itself not past z - t

pub low_moves : (e : End) (t z : ℤ) → not_below (shifted e t) z ≡ not_below e (z -ℤ t)
low_moves endless t z = refl
low_moves (at e) t z =
    same_truth _ _ (λ h. omega (arith, signed, add e t, sub z t)) (λ h. omega (arith, signed, add e t, sub z t))

pub high_moves : (e : End) (t z : ℤ) → not_above (shifted e t) z ≡ not_above e (z -ℤ t)
high_moves endless t z = refl
high_moves (at e) t z =
    same_truth _ _ (λ h. omega (arith, signed, add e t, sub z t)) (λ h. omega (arith, signed, add e t, sub z t))

pub meets_expanded : (s : Span) (l g d : ℤ) (r : Range) → meets (moved_span s l g d) r ≡ not_below s.low (expanded_range r l g d).high && not_above s.high (expanded_range r l g d).low
meets_expanded s l g d r =
    meets_is s l g d r
    ∙ rw (expanded_is r l g d) (ap₂ ◌&&◌ (low_moves s.low (least_travel l g d) r.high) (high_moves s.high (greatest_travel l g d) r.low))
