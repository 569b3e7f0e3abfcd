-- The ids differ exactly where none of the records left is marked and the ids of those left differ.
use Rattle.std.proofs.Common.{◌≡◌, true, length}
use Rattle.std.specs.Slice.Iter.{chunks_exact_rest, chunks_exact_size}
use Rattle.records.specs.Records.{record_words, all_records}
use Rattle.records.specs.Soundness.{ids_distinct, all_ranged}
use Rattle.records.specs.Needs.{mark_bytes}
use Rattle.records.proofs.SoundnessIdsLaws.{still_distinct}
use Rattle.records.proofs.soundness.ids_distinct.Given as goal

abbrev pub invariant-loop-w : goal.invariant-loop-w
invariant-loop-w l = record {
  sevens : chunks_exact_size l.w-iterator ≡ record_words;
  long : length l.marks ≡ mark_bytes;
  ranged : all_ranged (all_records (chunks_exact_rest l.w-iterator)) ≡ true;
  left : ids_distinct (all_records l.words) ≡ still_distinct l.marks (all_records (chunks_exact_rest l.w-iterator));
}
