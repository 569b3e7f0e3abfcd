-- One more word: it is zero where its bits are.
use Rattle.std.proofs.Common.{rules, arith, pos, w32}
use lib.ListN.{get_or}
use Rattle.ints.proofs.Library.{bits_equal}
use Rattle.records.proofs.RecordsTurnLaws.{zero-so_far, zero_to_the_end}
use Rattle.records.proofs.soundness.all_zero.Goals as goal

pub loop-w-preserved : goal.loop-w-preserved
loop-w-preserved c =
    let word = get_or c.args.words.now c.loop-w.w-index (pos 0) in
    rw (bits_equal {w = w32} {a = word} {b = pos 0} (search rules) (search rules)) (zero-so_far c.args.words.now c.loop-w.w-index c.loop-w.zero c.loop-w.invariant (omega arith))

pub returns : goal.returns
returns c = zero_to_the_end c.args.words.now c.loop-w.w-index c.loop-w.zero c.loop-w.invariant (omega arith)
