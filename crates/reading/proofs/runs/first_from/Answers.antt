-- The records with a smaller key stand before the others.
use Rattle.std.proofs.Common.{rules}
use Rattle.std.proofs.lemmas.List.Sorted.{IsPartitionPoint-from_clause}
use Rattle.reading.proofs.RunsLaws.{is_below, parted, place_found}
use Rattle.reading.proofs.runs.first_from.Goals as goal

pub returns : goal.returns
returns c =
    let s = c.args.store.now in
    let key = c.args.key in
    let before = parted s key _ _ c.requires c.held_of.ensures c.as_chunks.ensures.front c.as_chunks.ensures.front_len in
    let point = IsPartitionPoint-from_clause (is_below key) _ _ c.partition_point.ensures.partitioned before (λ a b f h. search rules) in
    place_found s key _ _ c.requires c.held_of.ensures c.as_chunks.ensures.front c.as_chunks.ensures.front_len _ c.partition_point.ensures.bound point
