-- `answering::answer_open` meets its contract: the ledger opens where the index does.
use Rattle.std.proofs.Common.{ℤ, sym, subst, arith, [], w32, to_z, of_z}
use Rattle.std.proofs.lemmas.Int.{to_z-of_z}
use mir.Val.{SFits}
use Rattle.records.specs.Words.{Words, words}
use Rattle.ledger.specs.declared.Answer.{Answer}
use Rattle.engine.proofs.IndexSmallLaws.{SmallAnswer, open_small}
use Rattle.engine.specs.Index.{open_out}
use Rattle.engine.specs.Gives.{Gives}
use Rattle.lines.specs.Lines.{letter_of}
use Rattle.answering.proofs.AnsweringLaws.{point_sound, answer_room, answers_open}
use Rattle.answering.proofs.answer_open.Goals as goal

-- the time is read back as it was passed
given : (w w' : Words) (t : ℤ) (a : Answer) → SFits w32 t → Gives (open_out w (to_z w32 (of_z w32 t))) a w' → Gives (open_out w t) a w'
given w w' t a fits g = subst (λ (z : ℤ). Gives (open_out w z) a w') (to_z-of_z w32 t fits) g

pub write_answer-requires : goal.write_answer-requires
write_answer-requires c =
    let w = words c.args.store.now c.args.table.now in
    let o = c.open-answer in
    let g = given w (words o.new.store o.new.table) c.args.t o.result c.ranges.t o.ensures in
    answer_room o.result [] c.args.out.now (subst SmallAnswer (sym g.answer_is) (open_small w c.args.t)) (omega arith) c.requires.room

pub returns : goal.returns
unfolding letter_of
returns c =
    let w = words c.args.store.now c.args.table.now in
    let o = c.open-answer in
    let w' = words o.new.store o.new.table in
    let g = given w w' c.args.t o.result c.ranges.t o.ensures in
    answers_open w c.args.t (point_sound w c.requires.at_point) o.result w' g c.args.out.now c.write_answer.new.out c.write_answer.result c.write_answer.ensures
