-- what the checks of each change say, when they are passed
use Rattle.std.proofs.Common.{subst}
use Rattle.records.specs.Words.{words}
use Rattle.engine.specs.Sound.{CanApply}
use Rattle.engine.proofs.ChecksLaws.{can_add, can_report}
use Rattle.engine.proofs.sound.apply.Goals as goal

pub place-requires : goal.place-requires
place-requires c =
    let w = words c.args.store.now c.args.table.now in
    can_add w c.in-Add.r (subst (CanApply w) c.in-Add.is c.requires)

pub replace-requires : goal.replace-requires
replace-requires c =
    let w = words c.args.store.now c.args.table.now in
    can_report w c.in-Report.r (subst (CanApply w) c.in-Report.is c.requires)
