-- A float taken out and a report placed: the words stay those of a store, and what is read from them is the records with and without it.
-- Assumes nothing.
use mathlib.Core.Path.{◌≡◌, refl, ap, ◌∙◌}
use mathlib.Core.Bool.{Bool, true, false, cond}
use mathlib.Core.List.{List, [], ◌∷◌}
use Prim.Native.Nat.{suc, ◌<◌, ◌≤◌, ◌^◌}
use native.Mathlib.Omega.{arith}
use lib.IntN.{ℤ}
use lib.ListN.{length}
use lib.Signed.{mag}
use mir.Syntax.{w32}
use mir.Val.{hbits}
use Rattle.ints.specs.Lists.{every}
use Rattle.ints.specs.Whole.{eq_z}
use Rattle.ints.proofs.Machine.{back, held}
use Rattle.grid.specs.Units.{capacity}
use Rattle.grid.specs.Reports.{is_time}
use Rattle.grid.specs.declared.Report.{Report}
use Rattle.rows.specs.Phases.{phase_of}
use Rattle.rows.specs.Table.{valid_table, with_slot_empty}
use Rattle.rows.proofs.TableLaws.{length-with_row, length_slot_empty}
use Rattle.records.specs.Records.{now_of, records_of, store_of}
use Rattle.records.specs.Order.{slot_of_key, number_of_key, is_sorted, has_id}
use Rattle.records.specs.Soundness.{all_sound, ids_distinct, speeds_in_rows, is_sound, is_ranged, all_ranged}
use Rattle.records.specs.Words.{Words, words, time_in, records_in, are_sound}
use Rattle.records.specs.declared.Record.{Record}
use Rattle.records.proofs.RecordsLaws.{now_of-store, records_of-store, store_of_lem}
use Rattle.records.proofs.SoundnessLaws.{parts_sound}
use Rattle.records.proofs.SoundnessRangeLaws.{parts_ranged}
use Rattle.records.proofs.OrderKeysLaws.{key_in-below}
use Rattle.store.specs.Inserting.{inserted}
use Rattle.store.specs.Removing.{removed}
use Rattle.store.specs.Stepping.{placed_in}
use Rattle.store.proofs.InsertingLaws.{inserted_length, inserted_sorted, inserted_every}
use Rattle.store.proofs.RemovingLaws.{removed_sorted, removed_every, removed_length}
use Rattle.words.specs.Words.{opened, placed, taken_out}
use Rattle.words.specs.Needs.{RightLengths, CanChange, CanPlace, CanReplace}

-- ---- what is read from the words after each

pub opened_time : (time : ℤ) (w : Words) → time_in (opened time w) ≡ time
unfolding opened
opened_time time w = now_of-store time []

pub opened_records : (time : ℤ) (w : Words) → records_in (opened time w) ≡ []
unfolding opened
opened_records time w = records_of-store time []

pub placed_time : (r : Report) (w : Words) → time_in (placed r w) ≡ time_in w
unfolding placed
placed_time r w = now_of-store (time_in w) _

pub placed_records : (r : Report) (w : Words) → records_in (placed r w) ≡ inserted (placed_in (phase_of r.t) r) (records_in w)
unfolding placed
placed_records r w = records_of-store (time_in w) _

pub taken_time : (id : ℤ) (w : Words) → time_in (taken_out id w) ≡ time_in w
unfolding taken_out
taken_time id w = now_of-store (time_in w) _

pub taken_records : (id : ℤ) (w : Words) → records_in (taken_out id w) ≡ removed id (records_in w)
unfolding taken_out
taken_records id w = records_of-store (time_in w) _

pub removed_few : (id : ℤ) (rs : List Record) → length (removed id rs) ≤ length rs
unfolding removed
removed_few id [] = omega arith
removed_few id (r ∷ rs) = go (eq_z r.report.id id) (removed_few id rs)
  where
    go : (b : Bool) → length (removed id rs) ≤ length rs → length (cond b rs (r ∷ removed id rs)) ≤ suc (length rs)
    go true h = omega arith
    go false h = omega arith

-- ---- a held float's report placed anew

module _ (w : Words) (r : Report) (can : CanReplace w r) where
  abbrev left : List Record
  left = removed r.id (records_in w)

  fewer : suc (length left) ≡ length (records_in w)
  fewer = removed_length r.id (records_in w) can.is_held

  few : length left < capacity
  few = let f = can.can_change.is_store.few in omega (arith, fewer)

  pub can_place_again : CanPlace (taken_out r.id w) r
  unfolding taken_out
  can_place_again =
      let s = can.can_change.is_store in
      record {
        can_change = record {
          is_store = store_of_lem (time_in w) left (omega (arith, few)) (removed_every is_ranged r.id (records_in w) s.ranged) (removed_sorted r.id (records_in w) s.sorted);
          whole_table = can.can_change.whole_table;
        };
        room = rw (records_of-store (time_in w) left) few;
        in_range_lem = can.in_range_lem;
        is_time_lem = can.is_time_lem;
      }

-- ---- an id as a call passes it

module _ (id : ℤ) (fits : mag id < 2 ^ hbits w32) where
  pub taken_out_lem : (s t s' : List ℤ) → s' ≡ store_of (now_of s) (removed (back w32 id) (records_of s)) → words s' t ≡ taken_out id (words s t)
  unfolding taken_out
  taken_out_lem s t s' e =
      ap (λ (x : List ℤ). words x t) (e ∙ ap (λ (z : ℤ). store_of (now_of s) (removed z (records_of s))) (held w32 id fits))

  pub taken_as : (w w' : Words) → w' ≡ taken_out (back w32 id) w → w' ≡ taken_out id w
  taken_as w w' e = e ∙ ap (λ (z : ℤ). taken_out z w) (held w32 id fits)

-- ---- the words stay those of a store

module _ (w : Words) (can : CanChange w) where
  pub taken_can_change : (id : ℤ) → CanChange (taken_out id w)
  unfolding taken_out
  taken_can_change id =
      let s = can.is_store in
      record {
        is_store = store_of_lem (time_in w) (removed id (records_in w)) (let f = s.few in omega (arith, removed_few id (records_in w))) (removed_every is_ranged id (records_in w) s.ranged)
            (removed_sorted id (records_in w) s.sorted);
        whole_table = can.whole_table;
      }

  -- sound words, by what is read from them
  pub sound_words :
      is_time (time_in w) ≡ true
      → all_sound (time_in w) (records_in w) ≡ true
      → ids_distinct (records_in w) ≡ true
      → valid_table w.table ≡ true
      → speeds_in_rows w.table (records_in w) ≡ true
      → are_sound w ≡ true
  sound_words time sound distinct valid speeds =
      let s = can.is_store in
      ap (λ (x : List ℤ). is_sound x w.table) s.words
      ∙ parts_sound (time_in w) (records_in w) w.table s.few time sound s.sorted distinct can.whole_table valid speeds

-- a report that was not held
pub placed_can_change : (w : Words) (r : Report) → CanPlace w r → has_id r.id (records_in w) ≡ false → CanChange (placed r w)
unfolding placed
placed_can_change w r can other =
    let s = can.can_change.is_store in
    let new = placed_in (phase_of r.t) r in
    let room = can.room in
    let ranged = parts_ranged new (record { report = can.in_range_lem; time = can.is_time_lem; key = key_in-below (phase_of r.t) r }) in
    record {
      is_store = store_of_lem (time_in w) (inserted new (records_in w)) (omega (arith, inserted_length new (records_in w))) (inserted_every is_ranged new (records_in w) ranged s.ranged)
          (inserted_sorted new (records_in w) s.sorted other);
      whole_table = length-with_row w.table (slot_of_key new.key) (number_of_key new.key) _ ∙ can.can_change.whole_table;
    }

none_ranged : all_ranged [] ≡ true
unfolding every
none_ranged = refl

none_sorted : is_sorted [] ≡ true
unfolding is_sorted
none_sorted = refl

pub opened_can_change : (time : ℤ) (w : Words) → RightLengths w → CanChange (opened time w)
unfolding opened
opened_can_change time w long =
    let t = w.table in
    let first = length_slot_empty t 0 long.table_long (omega arith) ∙ long.table_long in
    let second = length_slot_empty (with_slot_empty t 0) 1 first (omega arith) ∙ first in
    record {
      is_store = store_of_lem time [] (omega arith) none_ranged none_sorted;
      whole_table = length_slot_empty (with_slot_empty (with_slot_empty t 0) 1) 2 second (omega arith) ∙ second;
    }
