-- a turn more; and no more are accepted than made
use Rattle.std.proofs.Common.{◌≡◌, ℕ, refl, subst, arith}
use Rattle.repeating.specs.Turns.{asked_over, Leaves}
use Rattle.repeating.proofs.TurnsLaws.{each_few, over_few, over_next}
use Rattle.repeating.proofs.Stores.ask_over.Goals as goal

pub loop-init : goal.loop-init
unfolding asked_over
loop-init c = record { accepted_is = refl; list_is = refl }

pub overflow_add-accepted : goal.overflow_add-accepted
overflow_add-accepted c =
    let few = c.requires.can.there.few in
    let some = over_few c.args.self.stores.now c.args.self.tables.now c.args.ask c.args.list.now c.args.self.count c.loop.counter few in
    let at_most = each_few c.args.self.stores.now c.args.self.tables.now c.args.ask c.loop.list c.args.self.count in
    omega (arith, c.loop.invariant.accepted_is, some, c.ask_each-accepted.ensures.accepted_is, at_most, few, c.requires.few_turns)

pub loop-preserved : goal.loop-preserved
loop-preserved c =
    over_next c.args.self.stores.now c.args.self.tables.now c.args.ask c.args.list.now c.loop.accepted c.ask_each-accepted.result c.loop.list
    c.ask_each-accepted.new.list c.args.self.count c.loop.counter c.loop.invariant c.ask_each-accepted.ensures

pub returns : goal.returns
returns c =
    let e : c.loop.counter ≡ c.args.turns = omega arith in
    subst (λ (k : ℕ). Leaves (asked_over c.args.self.stores.now c.args.self.tables.now c.args.ask c.args.list.now c.args.self.count k) c.loop.accepted c.loop.list) e c.loop.invariant
