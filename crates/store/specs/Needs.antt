-- What the functions that change a store ask, one record for each way of asking, and what the private ones hand on. Nothing here is part of what the
-- public functions promise.
-- Assumes nothing.
use Rattle.std.specs.Prelude.{◌≡◌, Bool, true, List, ◌++◌, ℕ, ◌+◌, ◌-◌, ◌*◌, ◌/◌, ◌≤◌, ◌<◌, ℤ, pos, length, take, drop, set, replicate}
use Rattle.ints.specs.Lists.{passing}
use Rattle.grid.specs.Units.{capacity}
use Rattle.grid.specs.Reports.{is_time, in_range}
use Rattle.grid.specs.declared.Report.{Report}
use Rattle.rows.specs.Phases.{phase_of, last_phase}
use Rattle.rows.specs.Table.{table_words}
use Rattle.records.specs.Records.{record_words, held_of, read_records, records_of, words_of_all, float_words, all_records}
use Rattle.records.specs.Order.{is_sorted}
use Rattle.records.specs.Soundness.{is_ranged, all_ranged, IsStore}
use Rattle.store.specs.Stepping.{replaced}
use Rattle.store.specs.declared.stepping.Step.{Step}
use Rattle.records.specs.declared.Record.{Record}
use Rattle.records.specs.Places.{HasWords}

-- ---- words that are those of records

-- some words that are made up of whole records
abbrev pub AreRecords : List ℤ → Type 0
AreRecords w = length w ≡ record_words * (length w / record_words)

-- ---- writing.rt: the count of floats held

-- the word that counts the floats held, and a count for it
pub record HeldAsked (s : List ℤ) (n : ℕ) : Type 0 where
  pub count_word : 1 < length s
  pub few : n ≤ capacity

-- k records of n to keep
pub record KeepAsked (s : List ℤ) (k n : ℕ) : Type 0 where
  pub within : k ≤ n
  pub few : n ≤ capacity
  pub long : record_words * n + record_words ≤ length s

-- the first k of n records kept: the words of the others zeroed, the count set
abbrev pub first_kept : ℕ → ℕ → List ℤ → List ℤ
first_kept k n s =
    let start = record_words * k + record_words in
    let end = record_words * n + record_words in
    set (take start s ++ (replicate (end - start) (pos 0) ++ drop end s)) 1 (pos k)

-- ---- finding.rt: the place of a record

-- a store whose records are sorted
pub record PlaceOfAsked (s : List ℤ) : Type 0 where
  pub store : HasWords s
  pub sorted : is_sorted (records_of s) ≡ true

-- ---- inserting.rt: a record put in

-- a store that is sorted and in range with room for one more record, and a record in range
pub record InsertAsked (s : List ℤ) (r : Record) : Type 0 where
  pub store : IsStore s
  pub ranged : is_ranged r ≡ true
  pub room : length (records_of s) < capacity

-- ---- removing.rt: a record taken out

-- a record of a store, by how many stand before it
pub record RemoveAsked (s : List ℤ) (i : ℕ) : Type 0 where
  pub store : HasWords s
  pub within : i < held_of s

-- ---- widening.rt: the rows of some records widened

-- a table, and records in range, each of whose rows is widened
pub record WidenAllAsked (table dead : List ℤ) : Type 0 where
  pub table_long : length table ≡ table_words
  pub whole : AreRecords dead
  pub ranged : all_ranged (all_records dead) ≡ true

-- ---- sorting.rt: sorting and merging

-- what is left of the records of two lists of words
pub record NextAsked (a b : List ℤ) : Type 0 where
  pub first : AreRecords a
  pub second : AreRecords b

-- records in two lists of words, and words for all of them
pub record MergeAsked (a b out : List ℤ) : Type 0 where
  pub first : AreRecords a
  pub second : AreRecords b
  pub room : length out ≡ length a + length b
  pub few : length out ≤ float_words

-- records, the same ones in both lists of words
pub record SortAsked (w from : List ℤ) : Type 0 where
  pub same : from ≡ w
  pub whole : AreRecords w
  pub few : length w ≤ float_words

-- records, words for them in order and words to work in
pub record SortToAsked (dead sorted space : List ℤ) : Type 0 where
  pub whole : AreRecords dead
  pub few : length dead ≤ float_words
  pub sorted_room : length sorted ≡ length dead
  pub space_room : length space ≡ length dead

-- records to put into a store; merging them in also asks for words to work in
pub record PutAllAsked (s dead : List ℤ) : Type 0 where
  pub store : HasWords s
  pub whole : AreRecords dead
  pub total : length dead / record_words + length (records_of s) ≤ capacity

pub record MergeInAsked (s b space : List ℤ) : Type 0 where
  pub put_all : PutAllAsked s b
  pub room : length space ≡ float_words

-- ---- stepping.rt: a report placed, and the clock step from now to a time

-- a phase and a report to place in it
pub record ReportAsked (p : ℕ) (r : Report) : Type 0 where
  pub phase : p ≤ last_phase
  pub in_range_lem : in_range r ≡ true
  pub is_time_lem : is_time r.t ≡ true

-- two times to step between
pub record AreTimes (now time : ℤ) : Type 0 where
  pub is_now : is_time now ≡ true
  pub is_time_lem : is_time time ≡ true

-- a clock step between two times, with the phases in which they lie
pub record IsStep (step : Step) : Type 0 where
  pub is_now : is_time step.now ≡ true
  pub is_time_lem : is_time step.time ≡ true
  pub from_is : step.from ≡ phase_of step.now
  pub to_is : step.to ≡ phase_of step.time

-- a store to take the records that move out of, and words for all of them
pub record TakeAsked (s : List ℤ) (step : Step) (dead : List ℤ) : Type 0 where
  pub store : IsStore s
  pub is_step : IsStep step
  pub room : length dead ≡ float_words

-- the records that stay written one after the other behind record 0 of a store, the words from its last record on as they were; what lies between
-- is left open
pub record KeptFirst (staying : Record → Bool) (s : List ℤ) (k : ℕ) (s' : List ℤ) : Type 0 where
  pub count : length (passing staying (records_of s)) ≡ k
  pub within : k ≤ held_of s
  pub first : take (record_words * k + record_words) s' ≡ take record_words s ++ words_of_all (passing staying (records_of s))
  pub unused : drop (record_words * held_of s + record_words) s' ≡ drop (record_words * held_of s + record_words) s

-- the records that move, placed in phase p and in range: what the first half of a step hands over to the second
pub record Taken (p : ℕ) (moving : Record → Bool) (rs : List Record) (m : ℕ) (dead : List ℤ) : Type 0 where
  pub dead_are : read_records m dead ≡ replaced p moving rs
  pub inside : record_words * m ≤ length dead
  pub ranged : all_ranged (read_records m dead) ≡ true

-- records to put into a store, and to widen a table's rows by
pub record PlaceAsked (s table dead : List ℤ) : Type 0 where
  pub put_all : PutAllAsked s dead
  pub widen_all : WidenAllAsked table dead

-- a store and a table over which the clock steps
pub record StepAsked (s table : List ℤ) (step : Step) : Type 0 where
  pub store : IsStore s
  pub table_long : length table ≡ table_words
  pub is_step : IsStep step
