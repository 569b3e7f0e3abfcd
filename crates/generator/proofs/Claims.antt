-- The claims of specs/Claims.antt, proved.
-- Assumes nothing.
use Rattle.std.proofs.Common.{◌+◌, sym, ap, ◌∙◌, arith}
use Rattle.generator.specs.Generator.{one, step, steps, jump}
use Rattle.generator.specs.Claims.{JumpIsSteps, JumpsAdd}
use Rattle.generator.proofs.GeneratorLaws.{times_add, jumped_is}

pub jump_is_steps : JumpIsSteps
jump_is_steps m start = jumped_is m one m start (omega arith)

pub jumps_add : JumpsAdd
jumps_add a b start =
    ap (jump b) (jump_is_steps a start) ∙ jump_is_steps b (steps a start) ∙ times_add step a b start ∙ sym (jump_is_steps (a + b) start)
