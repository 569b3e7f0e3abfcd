-- what one ask leaves is what is counted and listed
use Rattle.repeating.specs.Turns.{part_at}
use Rattle.repeating.proofs.TurnsLaws.{once}
use Rattle.repeating.proofs.Stores.ask_once.Goals as goal

pub returns : goal.returns
returns c =
    once (part_at c.args.self.stores.now c.args.self.tables.now c.args.k) c.args.ask c.args.list.now c.ask.new.list c.ask.result c.accepted_in.result
    (rw (c.store.ensures, c.table.ensures) at c.ask.ensures) c.accepted_in.ensures
