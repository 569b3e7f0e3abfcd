-- sound words pass the checks of the lent words; then the time decides
use Rattle.std.proofs.Common.{◌∙◌, sym, []}
use mir.Facts.{to_z-of_z}
use Rattle.records.specs.Records.{now_of}
use Rattle.records.specs.Words.{words}
use Rattle.words.specs.Words.{stepped}
use Rattle.ledger.specs.Refusals.{bad_step_time}
use Rattle.ledger.specs.declared.Refusal.TheVariants.{BadTime}
use Rattle.ledger.proofs.RefusalsLaws.{first_passed}
use Rattle.engine.specs.Index.{clock_out}
use Rattle.engine.proofs.ChecksLaws.{sound_store, sound_lent, can_step}
use Rattle.engine.proofs.GivesLaws.{refused, done}
use Rattle.engine.proofs.sound.clock.Goals as goal

pub clock_verdict-requires : goal.clock_verdict-requires
clock_verdict-requires c = sound_store (words c.args.store.now c.args.table.now) c.requires

pub make_step-requires : goal.make_step-requires
make_step-requires c =
    let t = to_z-of_z c.ranges.t in
    rw t (can_step (words c.args.store.now c.args.table.now) c.requires c.args.t (first_passed (bad_step_time (now_of c.args.store.now) c.args.t) BadTime [] (sym (simp t at c.in-Ok.ensures))))

pub returns-in-Err : goal.returns-in-Err
unfolding clock_out
returns-in-Err c =
    let w = words c.args.store.now c.args.table.now in
    let failed = simp (to_z-of_z c.ranges.t) at c.in-Err.ensures in
    refused _ c.in-Err.why w _ (sym (sound_lent w c.requires _) ∙ sym failed)

pub returns-in-Ok : goal.returns-in-Ok
unfolding clock_out
returns-in-Ok c =
    let w = words c.args.store.now c.args.table.now in
    let t = to_z-of_z c.ranges.t in
    let passed = simp t at c.in-Ok.ensures in
    done _ w (stepped c.args.t w) c.make_step.result _ (sym (sound_lent w c.requires _) ∙ sym passed) (simp t at c.make_step.ensures)
