-- `answering::OpenIndex::answer_line` meets its contract: what a line leads each list of calls to keeps the index at a point.
use Rattle.records.specs.Words.{words}
use Rattle.lines.specs.Reading.{read_line}
use Rattle.answering.specs.Index.{words_in}
use Rattle.answering.proofs.AnsweringLaws.{point_then}
use Rattle.answering.proofs.OpenIndex.answer_line.Goals as goal

pub invariant_of-self : goal.invariant_of-self
invariant_of-self c =
    let s = c.args.self.now in
    let a = c.answer_line in
    record { at_point = point_then (words_in s) (words a.new.store a.new.table) (read_line c.args.line.now) a.ensures.leads s.at_point }
