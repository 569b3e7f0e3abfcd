-- The ids are written where there is room for them.
-- Assumes nothing.
use Rattle.records.specs.Words.{words}
use Rattle.asking.proofs.AskingLaws.{enough, short, full}
use Rattle.asking.proofs.ask_with.Goals as goal

pub returns-then-list-needed : goal.returns-then-list-needed
returns-then-list-needed c =
    let needed = c.ids_listed-needed.ensures in
    rw needed
    (short (words c.args.store.now c.args.table.now) c.args.ask c.requires.can_ask _ _ _ c.ask_in_all-counts.ensures (rw needed at c.if-list-needed.true))

pub rising-requires : goal.rising-requires
rising-requires c =
    let needed = c.ids_listed-needed.ensures in
    rw needed
    (enough (words c.args.store.now c.args.table.now) c.args.ask c.requires.can_ask _ _ _ c.ask_in_all-counts.ensures (rw needed at c.if-list-needed.false))

pub returns : goal.returns
returns c =
    let needed = c.ids_listed-needed.ensures in
    rw c.answer.ensures
    (full (words c.args.store.now c.args.table.now) c.args.ask c.requires.can_ask _ _ _ c.ask_in_all-counts.ensures (rw needed at c.if-list-needed.false)
    _ (rw needed at c.rising.ensures))
