-- refused, nothing changes; else an empty store and empty rows
use Rattle.std.proofs.Common.{sym, refl}
use mir.Facts.{to_z-of_z}
use Rattle.records.specs.Words.{words}
use Rattle.words.specs.Words.{opened}
use Rattle.engine.specs.Index.{open_out}
use Rattle.engine.proofs.ChecksLaws.{opens_rightly}
use Rattle.engine.proofs.GivesLaws.{refused, done}
use Rattle.engine.proofs.open.Goals as goal

pub make_open-requires : goal.make_open-requires
make_open-requires c = let passed = simp (to_z-of_z c.ranges.t) at c.in-Ok.ensures in opens_rightly (words c.args.store.now c.args.table.now) _ c.args.t passed refl

pub returns-in-Err : goal.returns-in-Err
unfolding open_out
returns-in-Err c =
    let failed = simp (to_z-of_z c.ranges.t) at c.in-Err.ensures in
    refused _ c.in-Err.why (words c.args.store.now c.args.table.now) _ (sym failed)

pub returns-in-Ok : goal.returns-in-Ok
unfolding open_out
returns-in-Ok c =
    let w = words c.args.store.now c.args.table.now in
    let t = to_z-of_z c.ranges.t in
    let passed = simp t at c.in-Ok.ensures in
    done _ w (opened c.args.t w) c.make_open.result _ (sym passed) (simp t at c.make_open.ensures)
