-- Each slot has one of three phases in a row, so its phase lies as far back as the slots differ.
use Rattle.std.proofs.Common.{arith, ◌≡◌, ◌≤◌, ◌-◌, ◌∙◌, ℕ, sym, unwrap_or, Option, Some, None}
use Rattle.std.specs.Option.{SomeIff}
use Rattle.records.proofs.OrderKeysLaws.{back_to, no_such_slot, phase_back}
use Rattle.records.proofs.order.phase_with_slot.Goals as goal

taken_back : (o : Option ℕ) (c back : ℕ) → SomeIff o (back ≤ c) (c - back) → unwrap_or o 0 ≡ c - back
taken_back None c back h = omega arith
taken_back (Some p) c back h = omega arith

pub returns-then-slot-ge-SLOTS : goal.returns-then-slot-ge-SLOTS
returns-then-slot-ge-SLOTS c = sym (no_such_slot c.args.c c.args.slot (omega arith))

pub returns : goal.returns
returns c =
    taken_back c.checked_sub.result c.args.c (back_to c.args.c c.args.slot) c.checked_sub.ensures
    ∙ sym (phase_back c.args.c c.args.slot (omega arith))
