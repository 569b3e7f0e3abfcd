-- A turn is one halving.
use Rattle.std.proofs.Common.{◌≡◌, ℕ, ◌/◌, ◌%◌, cond, eqb, sym, ap, ◌∙◌, ap₂, arith, eq-eqb, ne_eqb}
use Rattle.generator.specs.Generator.{mapped, times}
use Rattle.generator.specs.declared.steps.Affine.{Affine}
use Rattle.generator.proofs.Claims.{jump_is_steps}
use Rattle.generator.proofs.GeneratorLaws.{times_halved}
use Rattle.generator.proofs.jumps.jump.Goals as goal
use Rattle.generator.proofs.jumps.jump.Goals.{then-left-ne0, else-left-ne0}

pub loop-left-init : goal.loop-left-init
loop-left-init c =
    ap (λ (f : Affine). times (mapped f) c.args.m c.args.start) c.one-f.ensures ∙ sym (jump_is_steps c.args.m c.args.start)

pub loop-left-preserved : goal.loop-left-preserved
loop-left-preserved c =
    let h = c.loop-left in
    let stepped : c.if-left-ne0.s ≡ cond (eqb (h.left % 2) 0) h.s (mapped h.f h.s) =
    elim c.if-left-ne0.branch [
      | then-left-ne0 w ↦ rw (ne_eqb (h.left % 2) 0 w.if-left-ne0.true) (w.s-is ∙ w.applied_to-s.ensures)
      | else-left-ne0 w ↦ rw (eq-eqb (h.left % 2) 0 w.if-left-ne0.false) w.s-is
    ] in
    ap₂ (λ (f : Affine) (s : ℕ). times (mapped f) (h.left / 2) s) c.doubled-f.ensures stepped ∙ times_halved h.f h.left h.s ∙ h.invariant

pub returns : goal.returns
unfolding times
returns c =
    let h = c.loop-left in
    let e : h.left ≡ 0 = omega arith in
    ap (λ (n : ℕ). times (mapped h.f) n h.s) (sym e) ∙ h.invariant
