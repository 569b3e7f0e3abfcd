-- an ask more; and no more are accepted than made
use Rattle.std.proofs.Common.{refl, arith}
use Rattle.repeating.specs.Turns.{asked_each, part_at}
use Rattle.repeating.proofs.TurnsLaws.{can_ask_once, each_few, once_few, each_next}
use Rattle.repeating.proofs.Stores.ask_each.Goals as goal

pub loop-k-init : goal.loop-k-init
unfolding asked_each
loop-k-init c = record { accepted_is = refl; list_is = refl }

pub ask_once-accepted-requires : goal.ask_once-accepted-requires
ask_once-accepted-requires c = can_ask_once c.args.self.stores.now c.args.self.tables.now c.args.self.count c.loop-k.k c.requires (omega arith)

pub overflow_add-accepted : goal.overflow_add-accepted
overflow_add-accepted c =
    let some = each_few c.args.self.stores.now c.args.self.tables.now c.args.ask c.args.list.now c.loop-k.k in
    let at_most = once_few (part_at c.args.self.stores.now c.args.self.tables.now c.loop-k.k) c.args.ask c.loop-k.list in
    omega (arith, c.loop-k.invariant.accepted_is, some, c.ask_once-accepted.ensures.accepted_is, at_most, c.requires.there)

pub loop-k-preserved : goal.loop-k-preserved
loop-k-preserved c =
    each_next c.args.self.stores.now c.args.self.tables.now c.args.ask c.args.list.now c.loop-k.accepted c.ask_once-accepted.result c.loop-k.list
    c.ask_once-accepted.new.list c.loop-k.k c.loop-k.invariant c.ask_once-accepted.ensures
