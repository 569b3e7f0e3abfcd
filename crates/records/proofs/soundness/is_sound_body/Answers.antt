-- Ids are compared only where every record is sound, and so in its ranges.
use Rattle.std.proofs.Common.{rules, ◌≡◌, ◌&&◌, ◌∙◌, sym}
use Rattle.ints.proofs.Truth.{and_left}
use Rattle.records.specs.Records.{now_of, records_of}
use Rattle.records.specs.Order.{is_sorted}
use Rattle.records.specs.Soundness.{all_sound}
use Rattle.records.proofs.SoundnessLaws.{sound_header, all_sound-ranged}
use Rattle.records.proofs.soundness.is_sound_body.Goals as goal
use Rattle.records.proofs.soundness.is_sound_body.Goals.{then-all_sound, else-all_sound}

-- a sound record is in its ranges
pub ids_distinct-requires : goal.ids_distinct-requires
ids_distinct-requires c =
    let s = c.args.store.now in
    let sound = all_sound (now_of s) (records_of s) in
    let sorted = is_sorted (records_of s) in
    let e : c.if-all_sound.value ≡ sound && sorted = elim c.if-all_sound.branch [ then-all_sound w ↦ search rules | else-all_sound w ↦ search rules ] in
    rw c.floats_of-floats.ensures.records
    (all_sound-ranged (now_of s) (records_of s) (sound_header s c.requires.header).time (and_left sound sorted (sym e ∙ c.if-is_sorted.true)))
