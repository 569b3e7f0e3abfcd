-- `store::finding::index_of` meets its contract: the first chunk of the id is the first record of it.
use Rattle.std.proofs.Common.{arith, rules, tests, ap, ◌∙◌, w32}
use Rattle.std.proofs.lemmas.Int.{to_z-of_z}
use Rattle.std.proofs.lemmas.Iterator.{YieldsList-from_slice}
use Rattle.std.proofs.lemmas.Iterator.Search.{position_from_yields_List}
use Rattle.ints.proofs.Machine.{back}
use Rattle.records.specs.Records.{records_of}
use Rattle.store.specs.Finding.{found_at}
use Rattle.store.proofs.FindingLaws.{part_records, is_of, index_found}
use Rattle.store.proofs.finding.index_of.Goals as goal

pub returns : goal.returns
returns c =
    let id = back w32 c.args.id in
    let first = position_from_yields_List (is_of id) _ _ c.position.result c.position.ensures.ran (YieldsList-from_slice c.as_chunks.result.0.now cc) (λ x b q k. search (rules, tests)) in
    first
    ∙ index_found id _ _ c.as_chunks.ensures.front
    ∙ ap (found_at id) (part_records c.args.store.now c.held_of.result (omega arith) c.held_of.ensures)
    ∙ ap (λ z. found_at z (records_of c.args.store.now)) (to_z-of_z _ _ c.ranges.id)
