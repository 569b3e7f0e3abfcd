-- the floats that stay are those held after the step
use Rattle.std.proofs.Common.{ap}
use mir.Facts.{to_z-of_z}
use Rattle.records.specs.Words.{words}
use Rattle.words.proofs.WordsMovedLaws.{is_store}
use Rattle.ledger.specs.declared.Answer.TheVariants.{Accepted}
use Rattle.engine.proofs.ChecksLaws.{held_then}
use Rattle.engine.proofs.sound.make_step.Goals as goal

pub left_at-left-requires : goal.left_at-left-requires
left_at-left-requires c = is_store (words c.args.store.now c.args.table.now) c.args.t c.requires

pub returns : goal.returns
returns c =
    let t = to_z-of_z c.ranges.t in
    record {
      answer_is = ap Accepted (held_then (words c.args.store.now c.args.table.now) c.args.t c.requires c.left_at-left.result (simp t at c.left_at-left.ensures));
      words_are = simp t at c.step.ensures;
    }
