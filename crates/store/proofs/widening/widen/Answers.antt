-- `store::widening::widen` meets its contract: a record in range has a row.
use Rattle.std.proofs.Common.{arith, rules, w32}
use Rattle.ints.proofs.Machine.{back, tested₁}
use Rattle.records.specs.Order.{slot_of_key}
use Rattle.records.proofs.SoundnessRangeLaws.{ranged_parts, slot_below, number_of_key-below}
use Rattle.store.proofs.widening.widen.Goals as goal

pub drift_of-requires : goal.drift_of-requires
drift_of-requires c = (ranged_parts c.args.r c.requires.ranged).report

pub widen_row-requires : goal.widen_row-requires
widen_row-requires c =
    let slot_is = tested₁ w32 slot_of_key c.slot_of_key.result c.args.r.key c.slot_of_key.ensures (search rules) in
    record {
      whole_table = c.requires.whole_table;
      one_of_three = omega (arith, slot_is, slot_below c.args.r c.requires.ranged);
      number_on = omega (arith, number_of_key-below (back w32 c.args.r.key));
    }
