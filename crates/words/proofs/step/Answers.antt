-- after the silent floats retired the words are sound, and the clock moves on
use Rattle.std.proofs.Common.{◌∙◌, sym, ap₂, subst}
use mir.Facts.{to_z-of_z}
use Rattle.grid.specs.Reports.{stays_at}
use Rattle.records.specs.Words.{Words, words}
use Rattle.words.specs.Words.{stepped, moved_on}
use Rattle.words.specs.Needs.{CanStep}
use Rattle.words.proofs.WordsMovedLaws.{is_store}
use Rattle.words.proofs.WordsSteppedLaws.{keeping_is, left_can_step}
use Rattle.words.proofs.step.Goals as goal

pub retire-requires : goal.retire-requires
retire-requires c =
    rw (to_z-of_z c.ranges.t) (record { store = is_store (words c.args.store.now c.args.table.now) c.args.t c.requires.can_step; left_is = c.requires.left_is })

pub move_on-requires : goal.move_on-requires
move_on-requires c =
    let w = words c.args.store.now c.args.table.now in
    let t = to_z-of_z c.ranges.t in
    let left = keeping_is (stays_at c.args.t) w c.retire.new.store (simp t at c.retire.ensures) in
    rw t (subst (λ (v : Words). CanStep v c.args.t) (sym left) (left_can_step w c.args.t c.requires.can_step))

pub returns : goal.returns
unfolding stepped
returns c =
    let t = to_z-of_z c.ranges.t in
    let left = keeping_is (stays_at c.args.t) (words c.args.store.now c.args.table.now) c.retire.new.store (simp t at c.retire.ensures) in
    c.move_on.ensures ∙ ap₂ moved_on t left
