-- The row of every record may be read, since each is in its ranges, and `all` of them answers as the definition.
use Rattle.std.proofs.Common.{rules, refl, ◌≡◌, true, ◌∷◌}
use Rattle.records.specs.Records.{record_from}
use Rattle.records.specs.Soundness.{in_own_row, all_ranged}
use Rattle.records.proofs.RecordsTurnLaws.{ranged_here}
use Rattle.records.proofs.RecordsRunLaws.{serves_records, every_of_all}
use Rattle.records.proofs.soundness.speeds_in_rows.Goals as goal

pub all-requires-clause-callable : goal.all-requires-clause-callable
all-requires-clause-callable c =
    serves_records (λ rs. all_ranged rs ≡ true) (λ r rs p. (ranged_here r (r ∷ rs) rs refl p).1) (λ x q h. search rules)
    (λ x rs l p. let ranged = (ranged_here (record_from x.now 0) (record_from x.now 0 ∷ rs) rs refl p).0 in search rules)
    c.chunks_exact.result c.chunks_exact.ensures.size (search rules)

pub returns : goal.returns
returns c =
    every_of_all (in_own_row c.args.table.now) c.args.words.now c.chunks_exact.result _ _ c.all.result c.all.ensures.ran
    c.chunks_exact.ensures.size c.chunks_exact.ensures.rest (λ x q k. search rules) (λ x q k. search rules)
