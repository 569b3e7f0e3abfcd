-- One more record: it is compared with the one before it.
use Rattle.std.proofs.Common.{arith, ◌/◌, ◌∙◌, ap₂, length}
use Rattle.records.specs.Records.{record_words}
use Rattle.records.specs.Order.{precedes}
use Rattle.records.proofs.RecordsTurnLaws.{in_order-so_far, in_order_to_the_end}
use Rattle.records.proofs.order.is_sorted.Goals as goal

pub loop-i-preserved : goal.loop-i-preserved
loop-i-preserved c =
    let n = length c.args.words.now / record_words in
    let h = c.loop-i.invariant in
    let test = c.precedes-sorted.ensures ∙ ap₂ precedes c.read_from-a.ensures c.read_from-b.ensures in
    record {
      from = omega arith;
      so_far = rw test (in_order-so_far n c.loop-i.i c.args.words.now c.loop-i.sorted h.from h.so_far (omega arith));
    }

pub returns : goal.returns
returns c =
    let n = length c.args.words.now / record_words in
    let h = c.loop-i.invariant in
    in_order_to_the_end n c.loop-i.i c.args.words.now c.loop-i.sorted h.from h.so_far (omega arith)
