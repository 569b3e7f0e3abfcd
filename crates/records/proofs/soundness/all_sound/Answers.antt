-- The test may be asked of every record, and `all` of them answers as the definition.
use Rattle.std.proofs.Common.{rules}
use Rattle.records.specs.Soundness.{is_sound_record}
use Rattle.records.proofs.RecordsRunLaws.{serves_records, every_of_all}
use Rattle.records.proofs.soundness.all_sound.Goals as goal

pub all-requires-clause-callable : goal.all-requires-clause-callable
all-requires-clause-callable c =
    serves_records (λ _. Unit {0}) (λ r rs p. p) (λ x q h. search rules) (λ x rs l p. search rules) c.chunks_exact.result c.chunks_exact.ensures.size tt

pub returns : goal.returns
returns c =
    every_of_all (is_sound_record c.args.time) c.args.words.now c.chunks_exact.result _ _ c.all.result c.all.ensures.ran
    c.chunks_exact.ensures.size c.chunks_exact.ensures.rest (λ x q k. search rules) (λ x q k. search rules)
