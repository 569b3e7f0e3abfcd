-- refused for its buffers, nothing changes
use Rattle.std.proofs.Common.{refl}
use Rattle.records.specs.Words.{words}
use Rattle.engine.specs.Index.{change_out}
use Rattle.engine.proofs.ChecksLaws.{lent_failed, lent_sound}
use Rattle.engine.proofs.GivesLaws.{refused}
use Rattle.engine.proofs.change.Goals as goal

pub change-requires : goal.change-requires
change-requires c = lent_sound (words c.args.store.now c.args.table.now) _ c.in-Ok.ensures refl

pub returns-in-Err : goal.returns-in-Err
unfolding change_out
returns-in-Err c =
    let w = words c.args.store.now c.args.table.now in
    refused _ c.in-Err.why w _ (lent_failed w _ c.in-Err.why c.in-Err.ensures refl _)
