-- sound words pass the checks of the lent words; then those of the ask's numbers decide, but for the room
use Rattle.std.proofs.Common.{◌∙◌, sym, subst, length, Result}
use Rattle.records.specs.Words.{words, time_in}
use Rattle.ledger.specs.Refusals.{ask_number_checks}
use Rattle.ledger.specs.declared.Refusal.{Refusal}
use Rattle.ledger.proofs.RefusalsLaws.{failed_before, passed_before}
use Rattle.asking.specs.Asking.{ids_needed, ask_settled, GivesList}
use Rattle.asking.specs.Counted.{room_checks}
use Rattle.engine.specs.Index.{ask_out}
use Rattle.engine.proofs.ChecksLaws.{sound_store, sound_lent, ask_passed}
use Rattle.engine.proofs.GivesLaws.{list_refused}
use Rattle.engine.proofs.sound.ask.Goals as goal

pub ask_verdict-requires : goal.ask_verdict-requires
ask_verdict-requires c = sound_store (words c.args.store.now c.args.table.now) c.requires

pub ask_sound-requires : goal.ask_sound-requires
ask_sound-requires c = ask_passed (words c.args.store.now c.args.table.now) c.requires c.args.ask (sym c.in-Ok.ensures)

pub returns-in-Err : goal.returns-in-Err
unfolding ask_out
returns-in-Err c =
    let w = words c.args.store.now c.args.table.now in
    let room = room_checks (length c.args.list.now) (ids_needed w c.args.ask) in
    let failed = failed_before (ask_number_checks (time_in w) c.args.ask) room c.in-Err.why (sym c.in-Err.ensures) in
    list_refused _ c.in-Err.why w c.args.ask c.args.list.now (sym (sound_lent w c.requires _) ∙ failed)

pub returns-in-Ok : goal.returns-in-Ok
unfolding ask_out
returns-in-Ok c =
    let w = words c.args.store.now c.args.table.now in
    let room = room_checks (length c.args.list.now) (ids_needed w c.args.ask) in
    let same = passed_before (ask_number_checks (time_in w) c.args.ask) room (sym c.in-Ok.ensures) ∙ sound_lent w c.requires _ in
    subst (λ (v : Result (Unit {0}) Refusal). GivesList (ask_settled v w c.args.ask c.args.list.now) c.ask_sound.result c.ask_sound.new.list) same c.ask_sound.ensures
