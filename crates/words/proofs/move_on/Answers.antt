-- in the same phase only the time changes; to a later one the records move
use Rattle.std.proofs.Common.{◌∙◌, ap, arith, w64}
use mir.Facts.{to_z-of_z}
use Rattle.ints.proofs.Machine.{held}
use Rattle.grid.specs.Reports.{is_time}
use Rattle.rows.specs.Phases.{phase_of}
use Rattle.records.specs.Words.{words}
use Rattle.records.proofs.RecordsLaws.{store-words_of}
use Rattle.words.proofs.WordsMovedLaws.{is_store, time_now, same_step, can_move, moved_store, later_step}
use Rattle.words.proofs.move_on.Goals as goal

pub now_of-requires : goal.now_of-requires
now_of-requires c = omega (arith, store-words_of c.args.store.now (is_store (words c.args.store.now c.args.table.now) c.args.t c.requires))

pub between-s-requires : goal.between-s-requires
between-s-requires c =
    let from = held w64 c.now_of.result c.now_of.type_inv ∙ c.now_of.ensures.value in
    let to = held w64 c.from.result c.from.type_inv ∙ (c.from.ensures ∙ to_z-of_z c.ranges.t) in
    record { is_now = ap is_time from ∙ time_now (words c.args.store.now c.args.table.now) c.args.t c.requires; is_time_lem = ap is_time to ∙ c.requires.is_time_lem }

pub set_now-requires : goal.set_now-requires
set_now-requires c = is_store (words c.args.store.now c.args.table.now) c.args.t c.requires

pub returns-then-s : goal.returns-then-s
returns-then-s c =
    let from = held w64 c.now_of.result c.now_of.type_inv ∙ c.now_of.ensures.value in
    let to = held w64 c.from.result c.from.type_inv ∙ (c.from.ensures ∙ to_z-of_z c.ranges.t) in
    let x = c.between-s.ensures.2.from_is ∙ ap phase_of (c.between-s.ensures.0 ∙ from) in
    let y = c.between-s.ensures.2.to_is ∙ ap phase_of (c.between-s.ensures.1 ∙ to) in
    same_step (words c.args.store.now c.args.table.now) c.args.t c.requires (omega (arith, c.if-s.true, x, y)) c.set_now.new.store (simp (to_z-of_z c.ranges.t) at c.set_now.ensures)

pub step_phase-requires : goal.step_phase-requires
step_phase-requires c =
    let from = held w64 c.now_of.result c.now_of.type_inv ∙ c.now_of.ensures.value in
    let to = held w64 c.from.result c.from.type_inv ∙ (c.from.ensures ∙ to_z-of_z c.ranges.t) in
    can_move (words c.args.store.now c.args.table.now) c.args.t c.requires c.between-s.result (c.between-s.ensures.0 ∙ from) (c.between-s.ensures.1 ∙ to) c.between-s.ensures.2

pub set_now-requires-2 : goal.set_now-requires-2
set_now-requires-2 c =
    let from = held w64 c.now_of.result c.now_of.type_inv ∙ c.now_of.ensures.value in
    let to = held w64 c.from.result c.from.type_inv ∙ (c.from.ensures ∙ to_z-of_z c.ranges.t) in
    moved_store (words c.args.store.now c.args.table.now) c.args.t c.requires c.between-s.result (c.between-s.ensures.0 ∙ from) (c.between-s.ensures.1 ∙ to)
    c.step_phase.new.store c.step_phase.new.table c.step_phase.ensures

pub returns : goal.returns
returns c =
    let from = held w64 c.now_of.result c.now_of.type_inv ∙ c.now_of.ensures.value in
    let to = held w64 c.from.result c.from.type_inv ∙ (c.from.ensures ∙ to_z-of_z c.ranges.t) in
    later_step (words c.args.store.now c.args.table.now) c.args.t c.requires c.between-s.result (c.between-s.ensures.0 ∙ from) (c.between-s.ensures.1 ∙ to)
    c.step_phase.new.store c.step_phase.new.table c.step_phase.ensures c.set_now-2.new.store (simp (to_z-of_z c.ranges.t) at c.set_now-2.ensures)
