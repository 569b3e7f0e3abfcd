-- `store::removing::remove` meets its contract: the record found is taken out, and with none found the store stays.
use Rattle.std.proofs.Common.{arith, sym, ap, ◌∙◌}
use Rattle.std.proofs.lemmas.Int.{to_z-of_z}
use Rattle.records.specs.Records.{records_of}
use Rattle.records.proofs.RecordsLaws.{held_records}
use Rattle.records.proofs.PlacesLaws.{has_words}
use Rattle.store.specs.Finding.{found_at}
use Rattle.store.proofs.FindingLaws.{some_found}
use Rattle.store.proofs.RemovingLaws.{remove_found, remove_none}
use Rattle.store.proofs.removing.remove.Goals as goal

pub remove_at-requires : goal.remove_at-requires
remove_at-requires c =
    let found = some_found _ _ _ (sym c.in-Some.is ∙ c.index_of.ensures) in
    record { store = has_words _ c.requires; within = omega (arith, found.1, held_records c.args.store.now) }

pub returns-in-Some : goal.returns-in-Some
returns-in-Some c =
    remove_found _ _ _ _ (sym c.in-Some.is ∙ c.index_of.ensures ∙ ap (λ z. found_at z (records_of c.args.store.now)) (to_z-of_z _ _ c.ranges.id)) c.remove_at.ensures

pub returns-in_default : goal.returns-in_default
returns-in_default c =
    remove_none _ _ (has_words _ c.requires) (sym c.in_default.is ∙ c.index_of.ensures ∙ ap (λ z. found_at z (records_of c.args.store.now)) (to_z-of_z _ _ c.ranges.id))
