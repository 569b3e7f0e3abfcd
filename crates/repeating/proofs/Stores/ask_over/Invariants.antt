use Rattle.repeating.specs.Turns.{asked_over, Leaves}
use Rattle.repeating.proofs.Stores.ask_over.Given as goal

-- what is counted and listed is what the turns before this one leave
abbrev pub invariant-loop : goal.invariant-loop
invariant-loop l = Leaves (asked_over l.self.stores.now l.self.tables.now l.ask l.fn.list l.self.count l.counter) l.accepted l.list
