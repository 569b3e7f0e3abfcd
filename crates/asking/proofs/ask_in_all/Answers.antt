-- One, two or three live phases, newest first.
-- Assumes nothing.
use Rattle.std.proofs.Common.{arith, rules, ◌-◌, ◌<◌}
use mir.Syntax.{w64}
use mir.Val.{SFits}
use Rattle.rows.proofs.PhasesLaws.{range_live}
use Rattle.records.specs.Words.{words}
use Rattle.records.proofs.RecordsLaws.{store-words_of}
use Rattle.asking.proofs.AskingLaws.{ask_store, newest_is, asked_first, can_ask_also, asked_also, asked_all}
use Rattle.asking.proofs.ask_in_all.Goals as goal

pub now_of-requires : goal.now_of-requires
now_of-requires c =
    omega (arith, store-words_of c.args.store.now (ask_store (words c.args.store.now c.args.table.now) c.args.ask c.requires.can_ask))

pub ask_in-counts-requires : goal.ask_in-counts-requires
ask_in-counts-requires c =
    let f : SFits w64 c.now_of.result = search rules in
    let e = newest_is (words c.args.store.now c.args.table.now) _ _ f c.now_of.ensures.value c.phase_of-newest.ensures in
    record { can_ask = c.requires.can_ask; live = rw (← e) (range_live _ _ (omega arith) (omega arith)); room = omega (arith, c.requires.room) }

pub loop-p-init : goal.loop-p-init
loop-p-init c =
    asked_first (words c.args.store.now c.args.table.now) c.args.ask _ _ _ (omega (arith, c.requires.room, c.ask_in-counts.auto.ids)) c.ask_in-counts.ensures

pub ask_also_in-counts-requires : goal.ask_also_in-counts-requires
ask_also_in-counts-requires c =
    let f : SFits w64 c.now_of.result = search rules in
    let e = newest_is (words c.args.store.now c.args.table.now) _ _ f c.now_of.ensures.value c.phase_of-newest.ensures in
    let h : c.phase_of-newest.result - 2 < c.loop-p.p = omega (arith, c.saturating_sub-p-start.ensures, c.loop-p-test.true) in
    can_ask_also (words c.args.store.now c.args.table.now) c.args.ask _ _ _ _ c.loop-p.invariant c.requires.can_ask e h

pub loop-p-preserved : goal.loop-p-preserved
loop-p-preserved c =
    let h : c.phase_of-newest.result - 2 < c.loop-p.p = omega (arith, c.saturating_sub-p-start.ensures, c.loop-p-test.true) in
    asked_also (words c.args.store.now c.args.table.now) c.args.ask _ _ _ _ c.loop-p.invariant _ _ h c.ask_also_in-counts.auto.ids c.ask_also_in-counts.ensures

pub returns : goal.returns
returns c =
    let f : SFits w64 c.now_of.result = search rules in
    let e = newest_is (words c.args.store.now c.args.table.now) _ _ f c.now_of.ensures.value c.phase_of-newest.ensures in
    asked_all (words c.args.store.now c.args.table.now) c.args.ask _ _ _ _ c.loop-p.invariant e (omega (arith, c.saturating_sub-p-start.ensures, c.loop-p-test.false))
