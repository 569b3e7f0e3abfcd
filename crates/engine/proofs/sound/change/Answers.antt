-- sound words pass the checks of the lent words; then those of the change decide
use Rattle.std.proofs.Common.{◌∙◌, sym, w32}
use Rattle.ints.proofs.Machine.{held}
use Rattle.records.specs.Words.{words}
use Rattle.engine.specs.Index.{change_out}
use Rattle.engine.proofs.ChecksLaws.{sound_store, sound_distinct, sound_lent}
use Rattle.engine.proofs.GivesLaws.{refused, done}
use Rattle.engine.proofs.sound.change.Goals as goal

pub left_at-left-requires : goal.left_at-left-requires
left_at-left-requires c = sound_store (words c.args.store.now c.args.table.now) c.requires

pub change_verdict-requires : goal.change_verdict-requires
change_verdict-requires c =
    let w = words c.args.store.now c.args.table.now in
    record {
      has = record { store = sound_store w c.requires; distinct = sound_distinct w c.requires };
      left_is = simp (held w32 c.time.result c.time.type_inv ∙ c.time.ensures) at c.left_at-left.ensures;
    }

pub make_change-requires : goal.make_change-requires
make_change-requires c = record {
  can_make = record { sound = c.requires; passed = sym c.in-Ok.ensures };
  left_is = simp (held w32 c.time.result c.time.type_inv ∙ c.time.ensures) at c.left_at-left.ensures;
}

pub returns-in-Err : goal.returns-in-Err
unfolding change_out
returns-in-Err c =
    let w = words c.args.store.now c.args.table.now in
    refused _ c.in-Err.why w _ (sym (sound_lent w c.requires _) ∙ sym c.in-Err.ensures)

pub returns-in-Ok : goal.returns-in-Ok
unfolding change_out
returns-in-Ok c =
    let w = words c.args.store.now c.args.table.now in
    done _ w _ c.make_change.result _ (sym (sound_lent w c.requires _) ∙ sym c.in-Ok.ensures) c.make_change.ensures
