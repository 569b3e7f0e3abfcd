use Rattle.repeating.specs.Turns.{asked_each, Leaves}
use Rattle.repeating.proofs.Stores.ask_each.Given as goal

-- what is counted and listed is what the asks on the stores before k leave
abbrev pub invariant-loop-k : goal.invariant-loop-k
invariant-loop-k l = Leaves (asked_each l.self.stores.now l.self.tables.now l.ask l.fn.list l.k) l.accepted l.list
