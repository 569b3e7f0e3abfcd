-- The set that is read is the one that was chosen.
-- Assumes nothing.
use Rattle.records.specs.Words.{words}
use Rattle.asking.proofs.AskingLaws.{ask_store, can_choose, can_read, counted}
use Rattle.asking.proofs.ask_in.Goals as goal

pub choose_in-rounds-requires : goal.choose_in-rounds-requires
choose_in-rounds-requires c = can_choose (words c.args.store.now c.args.table.now) c.args.ask c.requires.can_ask c.args.p c.requires.live

pub read_in-read-requires : goal.read_in-read-requires
read_in-read-requires c = can_read (words c.args.store.now c.args.table.now) c.args.ask c.requires.can_ask c.args.ids.now c.requires.room

pub returns : goal.returns
returns c =
    let w = words c.args.store.now c.args.table.now in
    counted w c.args.ask c.args.p (ask_store w c.args.ask c.requires.can_ask) _ _ _ _ c.choose_in-rounds.ensures c.read_in-read.ensures
