-- The record store: signed 32-bit words in records of 7, and the view from words to the list of records and back. Document 01, "Store and
-- table". Above this crate nobody speaks of word positions.
-- Assumes nothing.
use Rattle.std.specs.Prelude.{List, [], ◌∷◌, ◌++◌, ℕ, zero, suc, ◌+◌, ◌-◌, ◌*◌, ◌/◌, ℤ, pos, length, get_or, drop, replicate}
use Rattle.ints.specs.Whole.{up}
use Rattle.grid.specs.Units.{capacity}
use Rattle.records.specs.declared.Record.{Record}

-- the words of a record, and of the store: record 0 and one for each float that it has room for
abbrev pub record_words : ℕ
record_words = 7

abbrev pub store_words : ℕ
store_words = record_words * suc capacity

-- and of all but record 0
abbrev pub float_words : ℕ
float_words = record_words * capacity

-- the record whose first word stands at k: key, id, t, x, y, vx, vy
abbrev pub record_from : List ℤ → ℕ → Record
record_from s k = record {
  key = get_or s k (pos 0);
  report = record {
    id = get_or s (k + 1) (pos 0);
    t = get_or s (k + 2) (pos 0);
    x = get_or s (k + 3) (pos 0);
    y = get_or s (k + 4) (pos 0);
    vx = get_or s (k + 5) (pos 0);
    vy = get_or s (k + 6) (pos 0);
  };
}

-- record 0: now, floats held, five zeros
abbrev pub now_of : List ℤ → ℤ
now_of s = get_or s 0 (pos 0)

abbrev pub held_of : List ℤ → ℕ
held_of s = up (get_or s 1 (pos 0))

-- the first n records of some words
unfoldable pub read_records : ℕ → List ℤ → List Record
read_records zero w = []
read_records (suc n) w = record_from w 0 ∷ read_records n (drop record_words w)

-- all records of some words
abbrev pub all_records : List ℤ → List Record
all_records w = read_records (length w / record_words) w

-- the records that a store holds, in order
unfoldable pub records_of : List ℤ → List Record
records_of s = read_records (held_of s) (drop record_words s)

-- and back: the words of a record, of some records, and of a store
abbrev pub words_of : Record → List ℤ
words_of r =
    r.key ∷ r.report.id ∷ r.report.t ∷ r.report.x ∷ r.report.y ∷ r.report.vx ∷ r.report.vy ∷ []

unfoldable pub words_of_all : List Record → List ℤ
words_of_all [] = []
words_of_all (r ∷ rs) = words_of r ++ words_of_all rs

-- record 0 of a store
abbrev pub header : ℤ → ℕ → List ℤ
header now held = now ∷ pos held ∷ pos 0 ∷ pos 0 ∷ pos 0 ∷ pos 0 ∷ pos 0 ∷ []

-- the store with that time and those records; unused words are zero
unfoldable pub store_of : ℤ → List Record → List ℤ
store_of now rs =
    header now (length rs) ++ (words_of_all rs ++ replicate (record_words * (capacity - length rs)) (pos 0))
