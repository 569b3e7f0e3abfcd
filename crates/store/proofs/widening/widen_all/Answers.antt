-- `store::widening::widen_all` meets its contract: each chunk is the next record of those left.
use Rattle.std.proofs.Common.{arith}
use Rattle.store.proofs.SortingListsLaws.{chunk_read}
use Rattle.store.proofs.WideningLaws.{widen_in_range, widen_more, widen_end}
use Rattle.store.proofs.widening.widen_all.Goals as goal

pub widen-requires : goal.widen-requires
widen-requires c =
    let read = chunk_read _ _ _ _ _ c.as_chunks.ensures.front (omega (arith, c.as_chunks.ensures.front_len)) _ c.read_from.ensures in
    record {
      whole_table = c.loop-words.invariant.table_long;
      ranged = widen_in_range _ _ _ _ _ c.loop-words.invariant (omega (arith, c.as_chunks.ensures.front_len)) _ read;
    }

pub loop-words-preserved : goal.loop-words-preserved
loop-words-preserved c =
    let read = chunk_read _ _ _ _ _ c.as_chunks.ensures.front (omega (arith, c.as_chunks.ensures.front_len)) _ c.read_from.ensures in
    widen_more _ _ _ _ _ c.loop-words.invariant (omega (arith, c.as_chunks.ensures.front_len)) _ read _ c.widen.ensures

pub returns : goal.returns
returns c = widen_end _ _ _ _ _ c.loop-words.invariant (omega (arith, c.as_chunks.ensures.front_len))
