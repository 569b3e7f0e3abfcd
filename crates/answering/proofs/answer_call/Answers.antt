-- `answering::answer_call` meets its contract: the ids written in front of the list are told.
use Rattle.std.proofs.Common.{arith, ◌≤◌, length, sym}
use Rattle.std.proofs.Math.Seq.{length-take-le}
use Rattle.records.specs.Words.{words}
use Rattle.answering.specs.Answering.{ids_told}
use Rattle.answering.proofs.AnsweringLaws.{point_sound, told_fits, told_few, answers_made}
use Rattle.answering.proofs.answer_call.Goals as goal

pub call-answer-requires : goal.call-answer-requires
call-answer-requires c = point_sound (words c.args.store.now c.args.table.now) c.requires.can_answer.at_point

pub slice_bounds-write_answer-end : goal.slice_bounds-write_answer-end
slice_bounds-write_answer-end c =
    let w = words c.args.store.now c.args.table.now in
    let m = c.call-answer in
    let few : ids_told m.result ≤ length c.args.list.now =
    told_few c.args.call w c.args.list.now (words m.new.store m.new.table) m.new.list m.result m.ensures c.requires.can_answer.list_long in
    omega (arith, c.ids_told-n.ensures)

pub slice_bounds-write_answer-end-2 : goal.slice_bounds-write_answer-end-2
slice_bounds-write_answer-end-2 c =
    let w = words c.args.store.now c.args.table.now in
    let m = c.call-answer in
    let few : ids_told m.result ≤ length c.args.list.now =
    told_few c.args.call w c.args.list.now (words m.new.store m.new.table) m.new.list m.result m.ensures c.requires.can_answer.list_long in
    sym (length-take-le _ _ (omega (arith, c.ids_told-n.ensures)))

pub write_answer-requires : goal.write_answer-requires
write_answer-requires c =
    let w = words c.args.store.now c.args.table.now in
    let m = c.call-answer in
    let k = c.requires.can_answer in
    rw c.ids_told-n.ensures
    (told_fits c.args.call w c.args.list.now (words m.new.store m.new.table) m.new.list m.result m.ensures k.list_long (point_sound w k.at_point)
    c.args.out.now k.room)

pub returns : goal.returns
returns c =
    let w = words c.args.store.now c.args.table.now in
    let m = c.call-answer in
    answers_made c.args.call w c.args.list.now (words m.new.store m.new.table) m.new.list m.result m.ensures c.requires.can_answer.list_long
    c.args.letter c.requires.letter_is c.args.out.now c.write_answer.new.out c.write_answer.result (rw c.ids_told-n.ensures at c.write_answer.ensures)
