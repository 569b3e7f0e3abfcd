-- The marks are cleared, and then set by a block or cell by cell.
use Rattle.std.proofs.Common.{arith}
use Rattle.choosing.proofs.ChooseLaws.{marked_by, naive_chosen, semi_naive_chosen, iterative_chosen, optimal_chosen, valid_in}
use Rattle.choosing.proofs.choose.choose_by.Goals as goal

pub naive_block-requires : goal.naive_block-requires
naive_block-requires c = record { valid = valid_in c.new-rows.result c.new-rows.ensures.same_table c.new-rows.ensures.same_slot c.requires.of_slot; ask = c.requires.ask }

pub semi_naive_block-requires : goal.semi_naive_block-requires
semi_naive_block-requires c = record { valid = valid_in c.new-rows.result c.new-rows.ensures.same_table c.new-rows.ensures.same_slot c.requires.of_slot; ask = c.requires.ask }

pub iterative_search-searched-requires : goal.iterative_search-searched-requires
iterative_search-searched-requires c = record { valid = valid_in c.new-rows.result c.new-rows.ensures.same_table c.new-rows.ensures.same_slot c.requires.of_slot; ask = c.requires.ask }

pub mark_reached_in-requires : goal.mark_reached_in-requires
mark_reached_in-requires c =
    record { valid = valid_in c.new-rows.result c.new-rows.ensures.same_table c.new-rows.ensures.same_slot c.requires.of_slot; ask = c.requires.ask; none_set = c.clear.ensures }

pub returns-in-Naive : goal.returns-in-Naive
returns-in-Naive c =
    rw (c.in-Naive.is, ← c.new-rows.ensures.same_table, ← c.new-rows.ensures.same_slot)
    (naive_chosen c.clear.ensures (marked_by c.naive_block.ensures c.mark_found.ensures))

pub returns-in-SemiNaive : goal.returns-in-SemiNaive
returns-in-SemiNaive c =
    rw (c.in-SemiNaive.is, ← c.new-rows.ensures.same_table, ← c.new-rows.ensures.same_slot)
    (semi_naive_chosen c.clear.ensures (marked_by c.semi_naive_block.ensures c.mark_found-in-SemiNaive.ensures))

pub returns-in-Iterative : goal.returns-in-Iterative
returns-in-Iterative c =
    let s = c.iterative_search-searched.ensures in
    rw (c.in-Iterative.is, ← c.new-rows.ensures.same_table, ← c.new-rows.ensures.same_slot)
    (iterative_chosen c.clear.ensures (marked_by s.block_is c.mark_found-in-Iterative.ensures) s.rounds_are)

pub returns-in-Optimal : goal.returns-in-Optimal
returns-in-Optimal c =
    rw (c.in-Optimal.is, ← c.new-rows.ensures.same_table, ← c.new-rows.ensures.same_slot)
    (optimal_chosen c.clear.ensures (omega arith) (valid_in c.new-rows.result c.new-rows.ensures.same_table c.new-rows.ensures.same_slot c.requires.of_slot) c.requires.fair c.mark_reached_in.ensures)
