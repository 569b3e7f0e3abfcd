-- `session::feeding::finish` meets its contract: the bytes held are a last line.
use Rattle.std.proofs.Common.{arith}
use Rattle.records.specs.Words.{words}
use Rattle.session.specs.Session.{lent}
use Rattle.session.proofs.FeedingLaws.{ends_line}
use Rattle.session.proofs.feeding.finish.Goals as goal

pub returns : goal.returns
returns c =
    let a = c.args in
    let e = c.end_line in
    ends_line (lent a.store.now a.table.now a.line.now a.held) (words e.new.store e.new.table) a.out.now e.new.out e.result
    c.requires.can_answer.at_point (omega arith) e.ensures
