-- `answering::answer_line` meets its contract: the newline stands right behind the answer.
use Rattle.std.proofs.Common.{◌-◌, ◌<◌, length, arith, rules}
use Rattle.std.proofs.Math.Seq.{length_front}
use Rattle.records.specs.Words.{words}
use Rattle.answering.proofs.AnsweringLaws.{line_short, line_answered}
use Rattle.answering.proofs.answer_line.Goals as goal

pub bounds-out-n : goal.bounds-out-n
bounds-out-n c =
    let s = c.answer_said-n in
    let out = c.args.out.now in
    let short : s.result < length out =
    line_short c.args.line.now (words c.args.store.now c.args.table.now) (words s.new.store s.new.table) out s.new.out s.result c.requires.at_point
    (omega arith) s.ensures s.auto.out in
    omega (arith, length_front out s.new.out (length out - 1) s.auto.out)

pub overflow_add-result : goal.overflow_add-result
overflow_add-result c =
    let s = c.answer_said-n in
    let out = c.args.out.now in
    let short : s.result < length out =
    line_short c.args.line.now (words c.args.store.now c.args.table.now) (words s.new.store s.new.table) out s.new.out s.result c.requires.at_point
    (omega arith) s.ensures s.auto.out in
    search rules

pub returns : goal.returns
returns c =
    let s = c.answer_said-n in
    line_answered c.args.line.now (words c.args.store.now c.args.table.now) (words s.new.store s.new.table) c.args.out.now s.new.out s.result
    c.requires.at_point (omega arith) s.ensures s.auto.out
