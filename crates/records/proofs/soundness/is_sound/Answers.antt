-- The table's length comes first, so that its rows are read only where it is right; the speeds are looked at only where the store is sound.
use Rattle.std.proofs.Common.{rules, ◌≡◌, ◌&&◌, ◌∙◌, sym, refl, true, false, Bool, nat_eq, length}
use borrow.Author.Tests.{eqb-true}
use Rattle.ints.proofs.Truth.{and_left, and_right}
use Rattle.rows.specs.Table.{table_words, valid_table}
use Rattle.records.specs.Records.{records_of}
use Rattle.records.specs.Soundness.{is_sound_store, is_sound, speeds_in_rows}
use Rattle.records.proofs.SoundnessLaws.{sound_store, header_of}
use Rattle.records.proofs.soundness.is_sound.Goals as goal
use Rattle.records.proofs.soundness.is_sound.Goals.{then-table-eq-TABLE_WORDS, else-table-eq-TABLE_WORDS, then-is_sound_store, else-is_sound_store}

in_order : (long store valid speeds : Bool) → ((long && store) && valid) && speeds ≡ store && ((long && valid) && speeds)
in_order true true valid speeds = refl
in_order true false valid speeds = refl
in_order false true valid speeds = refl
in_order false false valid speeds = refl

pub floats_of-requires : goal.floats_of-requires
floats_of-requires c =
    let s = c.args.store.now in
    let t = c.args.table.now in
    let long = nat_eq (length t) table_words in
    let e : c.if-table-eq-TABLE_WORDS.value ≡ long && is_sound_store s =
    elim c.if-table-eq-TABLE_WORDS.branch [ then-table-eq-TABLE_WORDS w ↦ search rules | else-table-eq-TABLE_WORDS w ↦ search rules ] in
    let f : c.if-is_sound_store.value ≡ (long && is_sound_store s) && valid_table t =
    elim c.if-is_sound_store.branch [ then-is_sound_store w ↦ search rules | else-is_sound_store w ↦ search rules ] in
    let store = and_right long (is_sound_store s) (and_left (long && is_sound_store s) (valid_table t) (sym f ∙ c.if-all_valid.true)) in
    record { long = (sound_store s store).long; header = header_of s store }

pub speeds_in_rows-requires : goal.speeds_in_rows-requires
speeds_in_rows-requires c =
    let s = c.args.store.now in
    let t = c.args.table.now in
    let long = nat_eq (length t) table_words in
    let e : c.if-table-eq-TABLE_WORDS.value ≡ long && is_sound_store s =
    elim c.if-table-eq-TABLE_WORDS.branch [ then-table-eq-TABLE_WORDS w ↦ search rules | else-table-eq-TABLE_WORDS w ↦ search rules ] in
    let f : c.if-is_sound_store.value ≡ (long && is_sound_store s) && valid_table t =
    elim c.if-is_sound_store.branch [ then-is_sound_store w ↦ search rules | else-is_sound_store w ↦ search rules ] in
    let both = and_left (long && is_sound_store s) (valid_table t) (sym f ∙ c.if-all_valid.true) in
    record {
      whole_table = eqb-true (length t) table_words (and_left long (is_sound_store s) both);
      ranged = rw c.floats_of.ensures.records (sound_store s (and_right long (is_sound_store s) both)).ranged;
    }

pub returns-then-all_valid : goal.returns-then-all_valid
unfolding is_sound
returns-then-all_valid c =
    let s = c.args.store.now in
    let t = c.args.table.now in
    let long = nat_eq (length t) table_words in
    let e : c.if-table-eq-TABLE_WORDS.value ≡ long && is_sound_store s =
    elim c.if-table-eq-TABLE_WORDS.branch [ then-table-eq-TABLE_WORDS w ↦ search rules | else-table-eq-TABLE_WORDS w ↦ search rules ] in
    let f : c.if-is_sound_store.value ≡ (long && is_sound_store s) && valid_table t =
    elim c.if-is_sound_store.branch [ then-is_sound_store w ↦ search rules | else-is_sound_store w ↦ search rules ] in
    let r = speeds_in_rows t (records_of s) in
    let g : c.speeds_in_rows.result ≡ r = search rules in
    g ∙ (simp (sym f ∙ c.if-all_valid.true) at (in_order long (is_sound_store s) (valid_table t) r))

pub returns-else-all_valid : goal.returns-else-all_valid
unfolding is_sound
returns-else-all_valid c =
    let s = c.args.store.now in
    let t = c.args.table.now in
    let long = nat_eq (length t) table_words in
    let e : c.if-table-eq-TABLE_WORDS.value ≡ long && is_sound_store s =
    elim c.if-table-eq-TABLE_WORDS.branch [ then-table-eq-TABLE_WORDS w ↦ search rules | else-table-eq-TABLE_WORDS w ↦ search rules ] in
    let f : c.if-is_sound_store.value ≡ (long && is_sound_store s) && valid_table t =
    elim c.if-is_sound_store.branch [ then-is_sound_store w ↦ search rules | else-is_sound_store w ↦ search rules ] in
    let r = speeds_in_rows t (records_of s) in
    c.if-all_valid.false ∙ (simp (sym f ∙ c.if-all_valid.false) at (in_order long (is_sound_store s) (valid_table t) r))
