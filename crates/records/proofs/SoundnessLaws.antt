-- What a sound store is: its words are those of its records, which are few, in their ranges, in order and with ids that differ, each with the
-- key of a live phase; and the other way round. The same for a store with its table.
-- Assumes nothing.
use mathlib.Core.Path.{◌≡◌, refl, sym, ap, ap₂, ◌∙◌}
use mathlib.Core.Bool.{Bool, true, ◌&&◌}
use mathlib.Core.List.{List, [], ◌∷◌, ◌++◌, Memᴰ}
use Prim.Native.Nat.{ℕ, zero, suc, ◌+◌, ◌-◌, ◌*◌, ◌≤◌}
use native.Mathlib.Omega.{arith}
use lib.Dec.{eqb}
use lib.IntN.{ℤ, pos}
use lib.ListN.{length, get_or, drop, take, replicate, length-drop, length-take, take-append-drop}
use lib.Seq.{drop-cons, drop-drop, drop_at, drop-append-add}
use borrow.Author.Tests.{eqb-true, eq-eqb}
use Rattle.ints.specs.Lists.{every}
use Rattle.ints.proofs.Lists.{every_each, each_every}
use Rattle.ints.specs.Whole.{eq_z, between}
use Rattle.ints.proofs.Parts.{equal_parts}
use Rattle.ints.proofs.Truth.{and_true, and_left, and_right}
use Rattle.ints.proofs.Same.{same_is, is_same}
use Rattle.grid.specs.Units.{capacity}
use Rattle.grid.specs.Reports.{is_time, in_range}
use Rattle.rows.specs.Table.{table_words, valid_table}
use Rattle.records.specs.Records.{record_words, store_words, now_of, held_of, read_records, records_of, words_of_all, header, store_of}
use Rattle.records.specs.Order.{is_sorted}
use Rattle.records.specs.Soundness.{all_zero, key_is_right, is_sound_record, all_sound, ids_distinct, is_sound_header, is_sound_store, speeds_in_rows, is_sound, is_ranged, all_ranged, IsStore}
use Rattle.records.specs.declared.Record.{Record}
use Rattle.records.proofs.RecordsLaws.{words_length, now_of-store, records_of-store, store_length, held_records, written_read}
use Rattle.records.proofs.SoundnessRangeLaws.{From, between_from, from_between, earlier_time, parts_ranged}
use Rattle.records.proofs.OrderKeysLaws.{Placed, right_placed}

-- ---- words that are zero

pub zero-words : (w : List ℤ) → all_zero w ≡ true → w ≡ replicate (length w) (pos 0)
unfolding every
zero-words [] h = refl
zero-words (a ∷ w) h =
    ap₂
    ◌∷◌
    (same_is a (pos 0) (and_left (eq_z a (pos 0)) (all_zero w) h))
    (zero-words w (and_right (eq_z a (pos 0)) (all_zero w) h))

pub words_zero : (n : ℕ) → all_zero (replicate n (pos 0)) ≡ true
unfolding every
words_zero zero = refl
words_zero (suc n) = and_true _ _ (is_same (pos 0) (pos 0) refl) (words_zero n)

-- ---- the parts of a sound record

pub record SoundRecord (now : ℤ) (r : Record) : Type 0 where
  pub in_range_lem : in_range r.report ≡ true
  pub not_after : between (pos 0) now r.report.t ≡ true
  pub key_right : key_is_right now r ≡ true
  pub placed : Placed now r

pub sound_record : (now : ℤ) (r : Record) → is_sound_record now r ≡ true → SoundRecord now r
unfolding is_sound_record
sound_record now r h =
    let both = and_left (in_range r.report && between (pos 0) now r.report.t) (key_is_right now r) h in
    let right = and_right (in_range r.report && between (pos 0) now r.report.t) (key_is_right now r) h in
    record {
      in_range_lem = and_left (in_range r.report) (between (pos 0) now r.report.t) both;
      not_after = and_right (in_range r.report) (between (pos 0) now r.report.t) both;
      key_right = right;
      placed = right_placed now r right;
    }

pub record_sound : (now : ℤ) (r : Record) → in_range r.report ≡ true → between (pos 0) now r.report.t ≡ true → key_is_right now r ≡ true → is_sound_record now r ≡ true
unfolding is_sound_record
record_sound now r a b k = and_true _ _ (and_true _ _ a b) k

pub sound_ranged : (now : ℤ) (r : Record) → is_time now ≡ true → is_sound_record now r ≡ true → is_ranged r ≡ true
sound_ranged now r time h =
    let s = sound_record now r h in
    parts_ranged r (record {
      report = s.in_range_lem;
      time = earlier_time now r.report.t time s.not_after;
      key = s.placed.in_slots;
    })

-- ---- every record of a list

pub all_sound-each : (now : ℤ) (rs : List Record) → all_sound now rs ≡ true → (r : Record) → Memᴰ r rs → SoundRecord now r
all_sound-each now rs h r m = sound_record now r (every_each (is_sound_record now) rs h m)

pub all_sound-ranged : (now : ℤ) (rs : List Record) → is_time now ≡ true → all_sound now rs ≡ true → all_ranged rs ≡ true
all_sound-ranged now rs time h =
    each_every is_ranged rs (λ r m. sound_ranged now r time (every_each (is_sound_record now) rs h m))

-- ---- record 0

pub record SoundHeader (s : List ℤ) : Type 0 where
  pub time : is_time (now_of s) ≡ true
  pub count : From 0 capacity (get_or s 1 (pos 0))
  pub zeros : all_zero (take 5 (drop 2 s)) ≡ true

pub sound_header : (s : List ℤ) → is_sound_header s ≡ true → SoundHeader s
sound_header s h =
    let time = is_time (now_of s) in
    let count = between (pos 0) (pos capacity) (get_or s 1 (pos 0)) in
    let zeros = all_zero (take 5 (drop 2 s)) in
    let both = and_left (time && count) zeros h in
    record {
      time = and_left time count both;
      count = between_from 0 capacity (get_or s 1 (pos 0)) (and_right time count both);
      zeros = and_right (time && count) zeros h;
    }

-- ---- a sound store

-- the parts of soundness after record 0
abbrev pub is_sound_body : List ℤ → Bool
is_sound_body s =
    (all_sound (now_of s) (records_of s) && is_sorted (records_of s))
    && (ids_distinct (records_of s) && all_zero (drop (record_words * (held_of s + 1)) s))

pub record SoundStore (s : List ℤ) : Type 0 where
  pub long : length s ≡ store_words
  pub first : SoundHeader s
  pub time : is_time (now_of s) ≡ true
  pub few : held_of s ≤ capacity
  pub sound : all_sound (now_of s) (records_of s) ≡ true
  pub sorted : is_sorted (records_of s) ≡ true
  pub distinct : ids_distinct (records_of s) ≡ true
  pub unused : all_zero (drop (record_words * (held_of s + 1)) s) ≡ true
  pub ranged : all_ranged (records_of s) ≡ true

pub sound_store : (s : List ℤ) → is_sound_store s ≡ true → SoundStore s
unfolding is_sound_store
sound_store s h =
    let long = eqb (length s) store_words in
    let a = all_sound (now_of s) (records_of s) in
    let b = is_sorted (records_of s) in
    let d = ids_distinct (records_of s) in
    let z = all_zero (drop (record_words * (held_of s + 1)) s) in
    let front = and_left (long && is_sound_header s) (is_sound_body s) h in
    let body = and_right (long && is_sound_header s) (is_sound_body s) h in
    let head = sound_header s (and_right long (is_sound_header s) front) in
    let sound = and_left a b (and_left (a && b) (d && z) body) in
    let rest = and_right (a && b) (d && z) body in
    record {
      long = eqb-true (length s) store_words (and_left long (is_sound_header s) front);
      first = head;
      time = head.time;
      few = head.count.most;
      sound = sound;
      sorted = and_right a b (and_left (a && b) (d && z) body);
      distinct = and_left d z rest;
      unused = and_right d z rest;
      ranged = all_sound-ranged (now_of s) (records_of s) head.time sound;
    }

pub header_of : (s : List ℤ) → is_sound_store s ≡ true → is_sound_header s ≡ true
unfolding is_sound_store
header_of s h =
    let long = eqb (length s) store_words in
    and_right long (is_sound_header s) (and_left (long && is_sound_header s) (is_sound_body s) h)

-- ---- its words are those of its records

counted : (s : List ℤ) → SoundHeader s → get_or s 1 (pos 0) ≡ pos (held_of s)
counted s h = equal_parts (get_or s 1 (pos 0)) (pos (held_of s)) refl h.count.whole

front : (s : List ℤ) → length s ≡ store_words → SoundHeader s → s ≡ header (now_of s) (held_of s) ++ drop record_words s
front s long h =
    let z = pos 0 in
    let five : length (take 5 (drop 2 s)) ≡ 5 = simp (length-take, length-drop) (omega arith) in
    let zeros : take 5 (drop 2 s) ≡ replicate 5 z = zero-words (take 5 (drop 2 s)) h.zeros ∙ ap (λ (n : ℕ). replicate n z) five in
    let rest : drop 2 s ≡ replicate 5 z ++ drop record_words s =
    sym (take-append-drop 5 (drop 2 s)) ∙ ap₂ ◌++◌ zeros (drop-drop 5 2 s) in
    drop-cons s 0 z (omega arith)
    ∙ ap (λ (l : List ℤ). now_of s ∷ l)
    (drop-cons s 1 z (omega arith) ∙ ap₂ ◌∷◌ (counted s h) rest)

pub unused_words : (s : List ℤ) → SoundStore s → drop (record_words * held_of s) (drop record_words s) ≡ replicate (record_words * (capacity - held_of s)) (pos 0)
unused_words s h =
    let e : record_words + record_words * held_of s ≡ record_words * (held_of s + 1) = omega arith in
    let l : length (drop (record_words * (held_of s + 1)) s) ≡ record_words * (capacity - held_of s) =
    simp length-drop (omega (arith, h.long, h.few)) in
    drop-drop (record_words * held_of s) record_words s
    ∙ ap (λ (n : ℕ). drop n s) e
    ∙ zero-words (drop (record_words * (held_of s + 1)) s) h.unused
    ∙ ap (λ (n : ℕ). replicate n (pos 0)) l

pub store_words_lem : (s : List ℤ) → SoundStore s → s ≡ store_of (now_of s) (records_of s)
unfolding store_of records_of
store_words_lem s h =
    let n = held_records s in
    let w = drop record_words s in
    let fits : record_words * held_of s ≤ length w = simp length-drop (omega (arith, h.long, h.few)) in
    let body : w ≡ words_of_all (read_records (held_of s) w) ++ replicate (record_words * (capacity - held_of s)) (pos 0) =
    sym (written_read (held_of s) w fits) ∙ ap (λ (l : List ℤ). words_of_all (read_records (held_of s) w) ++ l) (unused_words s h) in
    let e : held_of s ≡ length (read_records (held_of s) w) = sym n in
    front s h.long h.first
    ∙ ap (λ (l : List ℤ). header (now_of s) (held_of s) ++ l) body
    ∙ ap (λ (m : ℕ). header (now_of s) m ++ (words_of_all (read_records (held_of s) w) ++ replicate (record_words * (capacity - m)) (pos 0))) e

-- what the functions that work on a store ask of it
pub is_store : (s : List ℤ) → SoundStore s → IsStore s
is_store s h = record {
  words = store_words_lem s h;
  few = omega (arith, held_records s, h.few);
  ranged = h.ranged;
  sorted = h.sorted;
}

-- ---- and the store of such records is sound

pub unused_of_store : (now : ℤ) (rs : List Record) → drop (record_words * (held_of (store_of now rs) + 1)) (store_of now rs) ≡ replicate (record_words * (capacity - length rs)) (pos 0)
unfolding store_of
unused_of_store now rs =
    let zeros = replicate (record_words * (capacity - length rs)) (pos 0) in
    let e : record_words * (length rs + 1) ≡ record_words + record_words * length rs = omega arith in
    ap (λ (n : ℕ). drop n (header now (length rs) ++ (words_of_all rs ++ zeros))) e
    ∙ drop-append-add (header now (length rs)) (words_of_all rs ++ zeros) (record_words * length rs)
    ∙ drop_at (words_of_all rs) zeros (record_words * length rs) (words_length rs)

header_of_store : (now : ℤ) (rs : List Record) → is_time now ≡ true → length rs ≤ capacity → is_sound_header (store_of now rs) ≡ true
unfolding store_of
header_of_store now rs time few =
    and_true
    _
    _
    (and_true _ _ time (from_between 0 capacity (pos (length rs)) (record { least = omega arith; most = few; whole = refl })))
    (words_zero 5)

pub store_sound : (now : ℤ) (rs : List Record) → length rs ≤ capacity → is_time now ≡ true → all_sound now rs ≡ true → is_sorted rs ≡ true → ids_distinct rs ≡ true
    → is_sound_store (store_of now rs) ≡ true
unfolding is_sound_store
store_sound now rs few time sound sorted distinct =
    let s = store_of now rs in
    let e = records_of-store now rs in
    and_true
    _
    _
    (and_true _ _ (eq-eqb (length s) store_words (store_length now rs few)) (header_of_store now rs time few))
    (and_true
    _
    _
    (and_true
    _
    _
    (ap₂ all_sound (now_of-store now rs) e ∙ sound)
    (ap is_sorted e ∙ sorted))
    (and_true
    _
    _
    (ap ids_distinct e ∙ distinct)
    (ap all_zero (unused_of_store now rs) ∙ words_zero (record_words * (capacity - length rs)))))

-- ---- a store with its table

pub record Sound (s table : List ℤ) : Type 0 where
  pub store : SoundStore s
  pub table_long : length table ≡ table_words
  pub valid : valid_table table ≡ true
  pub speeds : speeds_in_rows table (records_of s) ≡ true

pub sound_parts : (s table : List ℤ) → is_sound s table ≡ true → Sound s table
unfolding is_sound
sound_parts s table h =
    let long = eqb (length table) table_words in
    let speeds = speeds_in_rows table (records_of s) in
    let rest = and_right (is_sound_store s) ((long && valid_table table) && speeds) h in
    let rows = and_left (long && valid_table table) speeds rest in
    record {
      store = sound_store s (and_left (is_sound_store s) ((long && valid_table table) && speeds) h);
      table_long = eqb-true (length table) table_words (and_left long (valid_table table) rows);
      valid = and_right long (valid_table table) rows;
      speeds = and_right (long && valid_table table) speeds rest;
    }

pub parts_sound :
    (now : ℤ) (rs : List Record) (table : List ℤ)
    → length rs ≤ capacity
    → is_time now ≡ true
    → all_sound now rs ≡ true
    → is_sorted rs ≡ true
    → ids_distinct rs ≡ true
    → length table ≡ table_words
    → valid_table table ≡ true
    → speeds_in_rows table rs ≡ true
    → is_sound (store_of now rs) table ≡ true
unfolding is_sound
parts_sound now rs table few time sound sorted distinct long valid speeds =
    and_true
    _
    _
    (store_sound now rs few time sound sorted distinct)
    (and_true
    _
    _
    (and_true _ _ (eq-eqb (length table) table_words long) valid)
    (ap (speeds_in_rows table) (records_of-store now rs) ∙ speeds))
