-- When a store, and a store with its table, are sound: document 01, "Store and table", the sentence "Sound means".
-- Assumes nothing.
use Rattle.std.specs.Prelude.{◌≡◌, Bool, true, ◌&&◌, not, List, [], ◌∷◌, ◌+◌, ◌*◌, ◌≤◌, eqb, leb, ℤ, pos, length, get_or, drop, take}
use Rattle.ints.specs.Whole.{eq_z, between}
use Rattle.ints.specs.Lists.{every}
use Rattle.grid.specs.Units.{capacity}
use Rattle.grid.specs.Reports.{is_time, in_range}
use Rattle.rows.specs.Row.{drift_of, holds}
use Rattle.rows.specs.Phases.{phase_of}
use Rattle.rows.specs.Table.{table_words, row_at, valid_table}
use Rattle.records.specs.Records.{record_words, store_words, now_of, held_of, records_of, store_of}
use Rattle.records.specs.Order.{last_key, key_in, slot_of_key, number_of_key, phase_of_key, is_sorted, has_id}
use Rattle.records.specs.declared.Record.{Record}

-- words named zero are zero
abbrev pub all_zero : List ℤ → Bool
all_zero = every (λ w. eq_z w (pos 0))

-- the key is right for a live phase not before that of t
unfoldable pub key_is_right : ℤ → Record → Bool
key_is_right now r =
    let p = phase_of_key (phase_of now) r.key in
    leb (phase_of r.report.t) p && eq_z r.key (key_in p r.report)

-- ranges, t at most now, key right
unfoldable pub is_sound_record : ℤ → Record → Bool
is_sound_record now r = (in_range r.report && between (pos 0) now r.report.t) && key_is_right now r

abbrev pub all_sound : ℤ → List Record → Bool
all_sound now = every (is_sound_record now)

-- ids distinct
unfoldable pub ids_distinct : List Record → Bool
ids_distinct [] = true
ids_distinct (r ∷ rs) = not (has_id r.report.id rs) && ids_distinct rs

-- record 0: now, floats held, five zeros
abbrev pub is_sound_header : List ℤ → Bool
is_sound_header s =
    (is_time (now_of s) && between (pos 0) (pos capacity) (get_or s 1 (pos 0))) && all_zero (take 5 (drop 2 s))

-- whether a store is sound by itself, whatever its length
unfoldable pub is_sound_store : List ℤ → Bool
is_sound_store s =
    (eqb (length s) store_words && is_sound_header s)
    && ((all_sound (now_of s) (records_of s) && is_sorted (records_of s))
    && (ids_distinct (records_of s) && all_zero (drop (record_words * (held_of s + 1)) s)))

-- whether the row of a record's cell holds its speeds
abbrev pub in_own_row : List ℤ → Record → Bool
in_own_row table r = holds (row_at table (slot_of_key r.key) (number_of_key r.key)) (drift_of r.report)

-- each float's speeds in its row
abbrev pub speeds_in_rows : List ℤ → List Record → Bool
speeds_in_rows table = every (in_own_row table)

-- whether a store and a table are sound, whatever their lengths
unfoldable pub is_sound : List ℤ → List ℤ → Bool
is_sound s table = is_sound_store s && ((eqb (length table) table_words && valid_table table) && speeds_in_rows table (records_of s))

-- ---- what the functions that work on a store ask of it. A sound store has it, and so has each store on the way from one to the next

-- ranges, and a key of the three slots
unfoldable pub is_ranged : Record → Bool
is_ranged r = (in_range r.report && is_time r.report.t) && between (pos 0) (pos last_key) r.key

abbrev pub all_ranged : List Record → Bool
all_ranged = every is_ranged

pub record IsStore (s : List ℤ) : Type 0 where
  pub words : s ≡ store_of (now_of s) (records_of s)
  pub few : length (records_of s) ≤ capacity
  pub ranged : all_ranged (records_of s) ≡ true
  pub sorted : is_sorted (records_of s) ≡ true
