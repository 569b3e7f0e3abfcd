-- a case for each kind of call
use Rattle.std.proofs.Common.{rules, w32}
use Rattle.ints.proofs.Machine.{held}
use Rattle.records.specs.Words.{words}
use Rattle.engine.proofs.GivesLaws.{gives_clock, gives_change, gives_ask}
use Rattle.engine.proofs.sound.call.Goals as goal

pub returns-in-Clock : goal.returns-in-Clock
returns-in-Clock c =
    gives_clock (words c.args.store.now c.args.table.now) c.args.list.now c.clock.result _ c.args.call c.in-Clock.t c.in-Clock.is (simp (held w32 c.in-Clock.t (search rules)) at c.clock.ensures)

pub returns-in-Change : goal.returns-in-Change
returns-in-Change c =
    gives_change (words c.args.store.now c.args.table.now) c.args.list.now c.change.result _ c.args.call c.in-Change.c c.in-Change.is c.change.ensures

pub returns-in-Ask : goal.returns-in-Ask
returns-in-Ask c =
    gives_ask (words c.args.store.now c.args.table.now) c.args.list.now c.ask.result _ c.args.call c.in-Ask.a c.in-Ask.is c.ask.ensures
