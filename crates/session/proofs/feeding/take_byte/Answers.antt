-- `session::feeding::take_byte` meets its contract: a newline ends the line, another byte is held.
use Rattle.std.proofs.Common.{arith}
use Rattle.records.specs.Words.{words}
use Rattle.session.specs.Session.{lent}
use Rattle.session.proofs.FeedingLaws.{newline_taken, other_taken}
use Rattle.session.proofs.feeding.take_byte.Goals as goal

pub returns-then-b-eq10 : goal.returns-then-b-eq10
returns-then-b-eq10 c =
    let a = c.args in
    let e = c.end_line-filled in
    newline_taken a.b (lent a.store.now a.table.now a.line.now a.held.now) (words e.new.store e.new.table) a.out.now e.new.out e.result
    c.requires.can_answer.at_point (omega arith) e.ensures

pub returns : goal.returns
returns c =
    let a = c.args in
    let h = c.hold.new in
    other_taken a.b (words a.store.now a.table.now) a.line.now h.line a.out.now a.held.now h.held c.hold.auto.line (λ e. omega arith) c.hold.ensures
