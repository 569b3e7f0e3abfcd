-- the words after the clock step can be changed, and the floats held in them are those that stay at it
use Rattle.std.proofs.Common.{◌≡◌, ◌∙◌, sym, ap, ℕ, length, w32}
use Rattle.ints.proofs.Machine.{held}
use Rattle.records.specs.Words.{Words, words, records_in}
use Rattle.words.specs.Words.{stepped}
use Rattle.ledger.specs.Refusals.{time_of}
use Rattle.ledger.specs.declared.Answer.TheVariants.{Accepted}
use Rattle.ledger.specs.declared.Change.{Change}
use Rattle.engine.specs.Sound.{CanMakeWith, CanApply, held_after}
use Rattle.engine.specs.Index.{changed}
use Rattle.engine.proofs.ChecksLaws.{held_then, change_can_step, change_can_apply, can_count, changed_count}
use Rattle.engine.proofs.sound.make_change.Goals as goal

module _ (w : Words) (c : Change) (left : ℕ) (can : CanMakeWith w c left) where
  can_apply : CanApply (stepped (time_of c) w) c
  can_apply = change_can_apply w c can.can_make

  held_is : left ≡ length (records_in (stepped (time_of c) w))
  held_is = held_then w (time_of c) (change_can_step w c can.can_make) left can.left_is

pub held_after-held-requires : goal.held_after-held-requires
held_after-held-requires c =
    let w = words c.args.store.now c.args.table.now in
    rw (held_is w c.args.c c.args.left c.requires) (can_count (stepped (time_of c.args.c) w) c.args.c (can_apply w c.args.c c.args.left c.requires))

pub step-requires : goal.step-requires
step-requires c =
    rw (held w32 c.time.result c.time.type_inv ∙ c.time.ensures)
    (record { can_step = change_can_step (words c.args.store.now c.args.table.now) c.args.c c.requires.can_make; left_is = c.requires.left_is })

pub apply-requires : goal.apply-requires
apply-requires c =
    let stepped_is = simp (held w32 c.time.result c.time.type_inv ∙ c.time.ensures) at c.step.ensures in
    rw stepped_is (can_apply (words c.args.store.now c.args.table.now) c.args.c c.args.left c.requires)

pub returns : goal.returns
returns c =
    let w = words c.args.store.now c.args.table.now in
    let then = stepped (time_of c.args.c) w in
    let can = can_apply w c.args.c c.args.left c.requires in
    let stepped_is = simp (held w32 c.time.result c.time.type_inv ∙ c.time.ensures) at c.step.ensures in
    record {
      answer_is = ap Accepted (c.held_after-held.ensures ∙ ap (held_after c.args.c) (held_is w c.args.c c.args.left c.requires) ∙ sym (changed_count then c.args.c can));
      words_are = c.apply.ensures ∙ ap (changed c.args.c) stepped_is;
    }
