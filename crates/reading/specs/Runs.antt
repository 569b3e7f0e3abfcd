-- Places in a list of records sorted by key, the run of records that a slot has, and what the functions of runs.rt ask and give.
-- Assumes nothing.
use Rattle.std.specs.Prelude.{◌≡◌, Bool, List, ℕ, suc, ◌+◌, ◌*◌, ◌/◌, ◌≤◌, ◌<◌, ℤ, pos, length, get_or}
use Rattle.std.specs.Int.Signed.{le_z}
use Rattle.std.specs.declared.ops.Range.{Range}
use Rattle.grid.specs.Units.{capacity}
use Rattle.records.specs.Records.{record_words, read_records, records_of}
use Rattle.records.specs.Order.{key_at}
use Rattle.records.specs.Places.{first_of}
use Rattle.records.specs.Soundness.{IsStore}
use Rattle.records.specs.declared.Record.{Record}

-- before the first record whose key is at least the given one
abbrev pub is_from : ℤ → Record → Bool
is_from key a = le_z key a.key

abbrev pub first_from : ℤ → List Record → ℕ
first_from key = first_of (is_from key)

-- the key of record i of a store, where it stands among the words
abbrev pub key_of : List ℤ → ℕ → ℤ
key_of s i = get_or s (record_words * i + record_words) (pos 0)

-- the records of some words: as many as there are whole sevens
abbrev pub records_in : List ℤ → List Record
records_in w = read_records (length w / record_words) w

-- a store, and one of its three slots
pub record SlotAsked (s : List ℤ) (slot : ℕ) : Type 0 where
  pub store : IsStore s
  pub one_of_three : slot < 3

-- the run of a slot's records: from its first key on, up to the first key of the next
pub record RunOfSlot (s : List ℤ) (slot : ℕ) (run : Range ℕ) : Type 0 where
  pub starts : run.start ≡ first_from (key_at slot 0) (records_of s)
  pub stops : run.end ≡ first_from (key_at (suc slot) 0) (records_of s)

-- some records of a store, in order
pub record PlacesAsked (run : Range ℕ) : Type 0 where
  pub ordered : run.start ≤ run.end
  pub few : run.end ≤ capacity

-- the words of some records, behind record 0
pub record PartOf (run part : Range ℕ) : Type 0 where
  pub starts : part.start ≡ record_words * suc run.start
  pub stops : part.end ≡ record_words * suc run.end
