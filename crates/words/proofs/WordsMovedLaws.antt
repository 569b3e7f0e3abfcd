-- The clock moved on over a sound index: in the same phase no record and no row changes; in a later one the words stay those of a store.
-- Assumes nothing.
use mathlib.Core.Path.{◌≡◌, refl, sym, ap, ap₂, ◌∙◌}
use mathlib.Core.Bool.{true, not}
use mathlib.Core.List.{List, [], ◌∷◌, map, Memᴰ}
use Prim.Native.Nat.{ℕ, ◌≤◌}
use native.Mathlib.Omega.{arith}
use lib.IntN.{ℤ}
use lib.ListN.{length}
use borrow.Author.Tests.{le-ltb}
use Rattle.ints.proofs.Lists.{passing_all, passing_none}
use Rattle.grid.specs.Units.{capacity}
use Rattle.grid.specs.Reports.{is_time}
use Rattle.rows.specs.Phases.{phase_of, is_live, live_phases}
use Rattle.rows.specs.Table.{table_words, with_later_empty, with_newly_live_empty}
use Rattle.rows.proofs.TableLaws.{length_newly_live_empty}
use Rattle.rows.proofs.PhasesLaws.{live_range, listed_live, phases_grow}
use Rattle.records.specs.Records.{records_of, store_of}
use Rattle.records.specs.Order.{is_sorted, phase_of_key}
use Rattle.records.specs.Soundness.{all_ranged, IsStore}
use Rattle.store.specs.Inserting.{inserted_all}
use Rattle.store.specs.Widening.{widened_by_all}
use Rattle.store.specs.Stepping.{placed_in, lives_on, moves, replaced, moved_records}
use Rattle.store.specs.Needs.{IsStep}
use Rattle.store.specs.declared.stepping.Step.{Step}
use Rattle.records.specs.declared.Record.{Record}
use Rattle.records.proofs.RecordsLaws.{now_of-store, records_of-store, store_of_lem}
use Rattle.store.proofs.SteppingLaws.{moved_few, moved_ranged, moved_sorted}
use Rattle.store.proofs.WideningLaws.{with_speeds_length}
use Rattle.records.proofs.SoundnessLaws as Sound
use Rattle.records.proofs.OrderKeysLaws.{right_placed}
use Rattle.records.specs.Words.{Words, words, time_in, records_in}
use Rattle.words.specs.Words.{table_moved, moved_on}
use Rattle.words.specs.Needs.{CanStep, CanMove, Moved, CanChange}

nothing_new : (c : ℕ) (table : List ℤ) (ps : List ℕ) → ((p : ℕ) → Memᴰ p ps → p ≤ c) → with_later_empty table c ps ≡ table
unfolding with_later_empty
nothing_new c table [] h = refl
nothing_new c table (p ∷ ps) h =
    rw (le-ltb c p (h p (Memᴰ.head refl))) (nothing_new c table ps (λ x m. h x (Memᴰ.tail m)))

module _ (w : Words) (time : ℤ) (can : CanStep w time) where
  is_sound : Sound.Sound w.store w.table
  is_sound = Sound.sound_parts w.store w.table can.sound

  pub is_store : IsStore w.store
  is_store = Sound.is_store w.store is_sound.store

  pub time_now : is_time (time_in w) ≡ true
  time_now = is_sound.store.time

  abbrev now : ℤ
  now = time_in w

  abbrev from : ℕ
  from = phase_of now

  abbrev to : ℕ
  to = phase_of time

  abbrev records : List Record
  records = records_in w

  -- ---- in the same phase

  module _ (same : to ≡ from) where
    all_live_on : (r : Record) → Memᴰ r records → lives_on now time r ≡ true
    all_live_on r m =
        ap (λ (p : ℕ). is_live p (phase_of_key from r.key)) same
        ∙ (right_placed now r (Sound.all_sound-each now records is_sound.store.sound r m).key_right).live

    none_moves : replaced to (moves now time) records ≡ []
    none_moves =
        ap (map (λ r. placed_in to r.report)) (passing_none (moves now time) records (λ r m. ap not (all_live_on r m)))

    records_same : moved_records now time records ≡ records
    unfolding moved_records inserted_all
    records_same = ap₂ inserted_all none_moves (passing_all (lives_on now time) records all_live_on)

    table_same : table_moved now time records w.table ≡ w.table
    unfolding table_moved widened_by_all
    table_same =
        ap₂ (λ (p : ℕ) (rs : List Record). widened_by_all (with_newly_live_empty w.table from p) rs) same none_moves
        ∙ nothing_new from w.table (live_phases from) (λ p m. (live_range from p (listed_live from p m)).0)

  -- in the same phase only the time changes
  pub same_step : to ≤ from → (s' : List ℤ) → s' ≡ store_of time records → words s' w.table ≡ moved_on time w
  unfolding moved_on
  same_step h s' e =
      let same : to ≡ from = omega (arith, phases_grow now time can.not_past) in
      ap₂ words (e ∙ ap (store_of time) (sym (records_same same))) (sym (table_same same))

  -- ---- in a later phase

  few : length (moved_records now time records) ≤ capacity
  few = let e = moved_few now time records in let f = is_store.few in omega arith

  ranged : all_ranged (moved_records now time records) ≡ true
  ranged = moved_ranged now time records is_store.ranged

  sorted : is_sorted (moved_records now time records) ≡ true
  sorted = moved_sorted now time records is_store.sorted is_sound.store.distinct

  module _ (step : Step) (from-now : step.now ≡ now) (to-time : step.time ≡ time) where
    pub can_move : IsStep step → CanMove w step
    can_move i = record { is_store = is_store; whole_table = is_sound.table_long; is_step = i }

    -- the records are those of a store, and the time is set last
    module _ (s' table' : List ℤ) (m : Moved w.store w.table step s' table') where
      store_then : s' ≡ store_of now (moved_records now time records)
      store_then = m.store_is ∙ ap₂ (λ (n t : ℤ). store_of now (moved_records n t records)) from-now to-time

      pub moved_store : IsStore s'
      moved_store = rw store_then (store_of_lem now (moved_records now time records) few ranged sorted)

      pub later_step : (s'' : List ℤ) → s'' ≡ store_of time (records_of s') → words s'' table' ≡ moved_on time w
      unfolding moved_on
      later_step s'' e =
          ap₂ words
          (e ∙ ap (store_of time) (ap records_of store_then ∙ records_of-store now (moved_records now time records)))
          (m.table_is ∙ ap₂ (λ (n t : ℤ). table_moved n t records w.table) from-now to-time)

  -- ---- what is read from the words then

  pub moved_time : time_in (moved_on time w) ≡ time
  unfolding moved_on
  moved_time = now_of-store time (moved_records now time records)

  pub moved_records_lem : records_in (moved_on time w) ≡ moved_records now time records
  unfolding moved_on
  moved_records_lem = records_of-store time (moved_records now time records)

  table_long : length (table_moved now time records w.table) ≡ table_words
  unfolding table_moved
  table_long =
      with_speeds_length (with_newly_live_empty w.table from to) (replaced to (moves now time) records)
      ∙ length_newly_live_empty w.table from to is_sound.table_long

  pub moved_can_change : CanChange (moved_on time w)
  unfolding moved_on
  moved_can_change =
      record { is_store = store_of_lem time (moved_records now time records) few ranged sorted; whole_table = table_long }
