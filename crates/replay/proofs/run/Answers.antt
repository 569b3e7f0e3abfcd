-- `replay::run` meets its contract: one read after another.
use Rattle.std.proofs.Common.{arith, subst, ℕ}
use Rattle.replay.specs.Program.{Took}
use Rattle.replay.proofs.ProgramLaws.{took_none, took_more}
use Rattle.replay.proofs.run.Goals as goal

pub loop-taken-init : goal.loop-taken-init
loop-taken-init c = (took_none c.args.buffers.now, omega arith)

pub returns-in-Ok-eq0 : goal.returns-in-Ok-eq0
returns-in-Ok-eq0 c =
    let l = c.loop-taken in
    let r = c.read_once in
    subst (λ (n : ℕ). Took n c.args.buffers.now r.new.buffers) (omega arith)
    (took_more l.taken c.in-Ok-eq0.field-0 r.new.chunk c.args.buffers.now l.buffers r.new.buffers l.invariant.0 c.in-Ok-eq0.ensures)

pub loop-taken-preserved : goal.loop-taken-preserved
loop-taken-preserved c =
    let l = c.loop-taken in
    let r = c.read_once in
    (took_more l.taken c.in-Ok.came r.new.chunk c.args.buffers.now l.buffers r.new.buffers l.invariant.0 c.in-Ok.ensures, omega arith)

pub returns-in-Err : goal.returns-in-Err
returns-in-Err c =
    let l = c.loop-taken in
    let r = c.read_once in
    took_more l.taken c.in-Err.stop.taken r.new.chunk c.args.buffers.now l.buffers r.new.buffers l.invariant.0 c.in-Err.ensures
