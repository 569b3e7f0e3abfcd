-- `store::finding::place_of` meets its contract: the records that r comes behind stand before the others.
use Rattle.std.proofs.Common.{arith, rules, ap, ◌∙◌}
use Rattle.std.proofs.lemmas.List.Sorted.{IsPartitionPoint-from_clause}
use Rattle.records.specs.Order.{is_sorted}
use Rattle.records.proofs.PlacesLaws.{words_room}
use Rattle.store.specs.Finding.{place_of}
use Rattle.store.proofs.FindingLaws.{part_records, is_behind, parted, place_found}
use Rattle.store.proofs.finding.place_of.Goals as goal

pub returns : goal.returns
returns c =
    let e = part_records _ _ (omega (arith, words_room _ c.requires.store)) c.held_of.ensures in
    let o = ap is_sorted e ∙ c.requires.sorted in
    let behind = parted c.args.r _ _ c.as_chunks.ensures.front c.as_chunks.ensures.front_len o in
    let point = IsPartitionPoint-from_clause (is_behind c.args.r) _ _ c.partition_point.ensures.partitioned behind (λ a b f h. search rules) in
    place_found c.args.r _ _ c.as_chunks.ensures.front c.as_chunks.ensures.front_len o _ c.partition_point.ensures.bound point ∙ ap (place_of c.args.r) e
