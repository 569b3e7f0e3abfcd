-- refused for its buffers, the list stays
use Rattle.std.proofs.Common.{refl}
use Rattle.records.specs.Words.{words}
use Rattle.engine.specs.Index.{ask_out}
use Rattle.engine.proofs.ChecksLaws.{lent_failed, lent_sound}
use Rattle.engine.proofs.GivesLaws.{list_refused}
use Rattle.engine.proofs.ask.Goals as goal

pub ask-requires : goal.ask-requires
ask-requires c = lent_sound (words c.args.store.now c.args.table.now) _ c.in-Ok.ensures refl

pub returns-in-Err : goal.returns-in-Err
unfolding ask_out
returns-in-Err c =
    let w = words c.args.store.now c.args.table.now in
    list_refused _ c.in-Err.why w c.args.ask c.args.list.now (lent_failed w _ c.in-Err.why c.in-Err.ensures refl _)
