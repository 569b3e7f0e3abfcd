-- Slot and curve number lie in the table, and the speeds are in their range.
use Rattle.std.proofs.Common.{rules, arith, ◌≡◌, w32, FitsSigned}
use Rattle.std.proofs.lemmas.Int.{to_z-of_z}
use Rattle.records.specs.Order.{slot_of_key, number_of_key}
use Rattle.records.proofs.SoundnessRangeLaws.{ranged_parts, slot_below, number_of_key-below}
use Rattle.records.proofs.soundness.is_in_row.Goals as goal

pub read-row-requires : goal.read-row-requires
read-row-requires c =
    let k : FitsSigned w32 c.args.r.key = search rules in
    let slot : c.slot_of_key.result ≡ slot_of_key c.args.r.key = simp to_z-of_z at c.slot_of_key.ensures in
    let number : c.number_of_key.result ≡ number_of_key c.args.r.key = simp to_z-of_z at c.number_of_key.ensures in
    record {
      whole_table = c.requires.whole_table;
      one_of_three = omega (arith, slot_below c.args.r c.requires.ranged);
      number_on = omega (arith, number_of_key-below c.args.r.key);
    }

pub drift_of-requires : goal.drift_of-requires
drift_of-requires c = (ranged_parts c.args.r c.requires.ranged).report
