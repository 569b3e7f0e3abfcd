-- A whole clock step. The words of the floats that stay are sound where all were, whichever test says who stays; then the clock moves on.
-- Assumes nothing.
use mathlib.Core.Path.{◌≡◌, ap, ap₂, ◌∙◌}
use mathlib.Core.Bool.{Bool, true}
use mathlib.Core.List.{List}
use native.Mathlib.Omega.{arith}
use lib.IntN.{ℤ}
use lib.Signed.{le_z}
use Rattle.ints.proofs.Lists.{passing_few}
use Rattle.grid.specs.Reports.{stays_at}
use Rattle.grid.specs.declared.Report.{Report}
use Rattle.records.specs.Soundness.{is_ranged, is_sound_record, in_own_row}
use Rattle.records.specs.Records.{store_of}
use Rattle.records.specs.Words.{Words, words, time_in, records_in, are_sound}
use Rattle.records.specs.declared.Record.{Record}
use Rattle.records.proofs.RecordsLaws.{now_of-store, records_of-store, store_of_lem}
use Rattle.records.proofs.SoundnessLaws as Sound
use Rattle.store.specs.Stepping.{moved_records}
use Rattle.store.proofs.SteppingLaws.{passing_sorted, passing_distinct}
use Rattle.retiring.specs.Retiring.{kept, stepped_records}
use Rattle.retiring.proofs.RetiringLaws.{kept_every}
use Rattle.words.specs.Words.{keeping, stepped}
use Rattle.words.specs.Needs.{CanStep, CanChange}
use Rattle.words.proofs.WordsMovedLaws.{moved_records_lem, moved_can_change}

-- ---- the floats that stay

module _ (stays : Report → Bool) (w : Words) where
  abbrev left : List Record
  left = kept stays (records_in w)

  abbrev test : Record → Bool
  test r = stays r.report

  pub keeping_is : (s' : List ℤ) → s' ≡ store_of (time_in w) left → words s' w.table ≡ keeping stays w
  unfolding keeping
  keeping_is s' e = ap (λ (s : List ℤ). words s w.table) e

  pub keeping_time : time_in (keeping stays w) ≡ time_in w
  unfolding keeping
  keeping_time = now_of-store (time_in w) left

  pub keeping_records : records_in (keeping stays w) ≡ left
  unfolding keeping
  keeping_records = records_of-store (time_in w) left

  pub keeping_can_change : CanChange w → CanChange (keeping stays w)
  unfolding keeping
  keeping_can_change can =
      let s = can.is_store in
      let few = s.few in
      record {
        is_store = store_of_lem (time_in w) left (omega (arith, passing_few test (records_in w)))
            (kept_every stays is_ranged (records_in w) s.ranged)
            (passing_sorted test (records_in w) s.sorted);
        whole_table = can.whole_table;
      }

  pub keeping_sound : are_sound w ≡ true → are_sound (keeping stays w) ≡ true
  unfolding keeping
  keeping_sound sound =
      let parts = Sound.sound_parts w.store w.table sound in
      let s = parts.store in
      let few = (Sound.is_store w.store s).few in
      Sound.parts_sound (time_in w) left w.table
      (omega (arith, passing_few test (records_in w)))
      s.time
      (kept_every stays (is_sound_record (time_in w)) (records_in w) s.sound)
      (passing_sorted test (records_in w) s.sorted)
      (passing_distinct test (records_in w) s.distinct)
      parts.table_long
      parts.valid
      (kept_every stays (in_own_row w.table) (records_in w) parts.speeds)

-- ---- the step

module _ (w : Words) (time : ℤ) (can : CanStep w time) where
  abbrev stays : Report → Bool
  stays = stays_at time

  pub left_can_step : CanStep (keeping stays w) time
  left_can_step = record {
    sound = keeping_sound stays w can.sound;
    is_time_lem = can.is_time_lem;
    not_past = ap (λ (now : ℤ). le_z now time) (keeping_time stays w) ∙ can.not_past;
  }

  pub stepped_records_lem : records_in (stepped time w) ≡ stepped_records (time_in w) time (records_in w)
  unfolding stepped stepped_records
  stepped_records_lem =
      moved_records_lem (keeping stays w) time left_can_step
      ∙ ap₂ (λ (now : ℤ) (rs : List Record). moved_records now time rs) (keeping_time stays w) (keeping_records stays w)

  pub stepped_can_change : CanChange (stepped time w)
  unfolding stepped
  stepped_can_change = moved_can_change (keeping stays w) time left_can_step
