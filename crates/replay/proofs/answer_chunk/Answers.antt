-- `replay::answer_chunk` meets its contract: what is taken of the rest is taken of the chunk.
use Rattle.std.proofs.Common.{arith}
use Rattle.replay.proofs.ProgramLaws.{first_none, first_more, first_all}
use Rattle.replay.proofs.answer_chunk.Goals as goal

pub loop-from-init : goal.loop-from-init
loop-from-init c = first_none c.args.chunk.now c.args.buffers.now

pub returns-then-is_err : goal.returns-then-is_err
returns-then-is_err c =
    let l = c.loop-from in let f = c.feed-fed in (omega arith, first_more _ l.from _ l.buffers _ f.new.out f.result l.invariant f.ensures)

pub loop-from-preserved : goal.loop-from-preserved
loop-from-preserved c = let l = c.loop-from in let f = c.feed-fed in first_more _ l.from _ l.buffers _ f.new.out f.result l.invariant f.ensures

pub returns : goal.returns
returns c = let l = c.loop-from in (omega (arith, l.invariant.within), first_all c.args.chunk.now l.from _ _ l.invariant (omega arith))
