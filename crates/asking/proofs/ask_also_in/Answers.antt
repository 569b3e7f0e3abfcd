-- The phase is asked through the places behind the ids that stand already.
-- Assumes nothing.
use Rattle.records.specs.Words.{words}
use Rattle.asking.proofs.AskingLaws.{counted_also}
use Rattle.asking.proofs.ask_also_in.Goals as goal

pub returns : goal.returns
returns c =
    counted_also (words c.args.store.now c.args.table.now) c.args.ask c.args.p c.args.before c.ask_in.result c.add.result c.args.ids.now c.ask_in.new.ids _
    c.ids_listed-listed.result c.ids_listed-listed.ensures c.requires.room c.ask_in.ensures c.ask_in.auto.ids c.add.ensures
