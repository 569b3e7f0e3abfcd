-- A float's position at one time is its position at another time moved on by its speed.
-- Assumes nothing.
use mathlib.Core.Path.{◌≡◌, sym, ap, ◌∙◌}
use Prim.Native.Nat.{ℕ, ◌*◌}
use native.Mathlib.Omega.{arith}
use lib.IntN.{ℤ, ◌+ℤ◌, ◌-ℤ◌, ◌*ℤ◌, +ℤ_assoc}
use Rattle.ints.proofs.Parts.{up, down, signed, equal, add, sub, mul}
use Rattle.grid.specs.Places.{position_after}
use Rattle.grid.specs.Reports.{x_at, y_at}
use Rattle.grid.specs.declared.Report.{Report}

pub times_sum : (v a b : ℤ) → v *ℤ (a +ℤ b) ≡ v *ℤ a +ℤ v *ℤ b
times_sum v a b =
    let whole = mul v (a +ℤ b) in
    let first = mul v a in
    let second = mul v b in
    let both = add (v *ℤ a) (v *ℤ b) in
    equal (v *ℤ (a +ℤ b)) (v *ℤ a +ℤ v *ℤ b)
    (omega (arith, ap (λ (n : ℕ). up v * n) (add a b), ap (λ (n : ℕ). down v * n) (add a b)))

two_steps : (s t r : ℤ) → s -ℤ t ≡ (r -ℤ t) +ℤ (s -ℤ r)
two_steps s t r = omega (arith, signed, sub s t, sub r t, sub s r, add (r -ℤ t) (s -ℤ r))

-- a position moved on from time t to r and then to s
pub moved_on : (x v s t r : ℤ) → position_after x v (s -ℤ t) ≡ position_after (position_after x v (r -ℤ t)) v (s -ℤ r)
moved_on x v s t r =
    ap (λ (d : ℤ). x +ℤ v *ℤ d) (two_steps s t r)
    ∙ ap (λ (d : ℤ). x +ℤ d) (times_sum v (r -ℤ t) (s -ℤ r))
    ∙ sym (+ℤ_assoc x (v *ℤ (r -ℤ t)) (v *ℤ (s -ℤ r)))

pub x_moved : (r : Report) (from asked : ℤ) → x_at r asked ≡ position_after (x_at r from) r.vx (asked -ℤ from)
unfolding x_at
x_moved r from asked = moved_on r.x r.vx asked r.t from

pub y_moved : (r : Report) (from asked : ℤ) → y_at r asked ≡ position_after (y_at r from) r.vy (asked -ℤ from)
unfolding y_at
y_moved r from asked = moved_on r.y r.vy asked r.t from
