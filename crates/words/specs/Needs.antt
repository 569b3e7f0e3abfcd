-- What the functions that change the words ask of them. Nothing here is part of what a reader must believe: the public calls have no `requires`.
-- Assumes nothing.
use Rattle.std.specs.Prelude.{◌≡◌, true, List, ℕ, ◌<◌, ℤ, length}
use Rattle.std.specs.Int.Signed.{le_z}
use Rattle.grid.specs.Reports.{is_time, in_range, stays_at}
use Rattle.grid.specs.Units.{capacity}
use Rattle.grid.specs.declared.Report.{Report}
use Rattle.rows.specs.Table.{table_words}
use Rattle.records.specs.Records.{store_words, now_of, records_of, store_of}
use Rattle.records.specs.Order.{has_id}
use Rattle.records.specs.Soundness.{IsStore}
use Rattle.records.specs.Words.{Words, time_in, records_in, are_sound}
use Rattle.store.specs.Stepping.{moved_records}
use Rattle.store.specs.Needs.{IsStep}
use Rattle.retiring.specs.Retiring.{kept}
use Rattle.store.specs.declared.stepping.Step.{Step}
use Rattle.words.specs.Words.{table_moved}

-- the lengths of document 01
pub record RightLengths (w : Words) : Type 0 where
  pub store_long : length w.store ≡ store_words
  pub table_long : length w.table ≡ table_words

-- sound words and a time to step to
pub record CanStep (w : Words) (time : ℤ) : Type 0 where
  pub sound : are_sound w ≡ true
  pub is_time_lem : is_time time ≡ true
  pub not_past : le_z (time_in w) time ≡ true

-- and how many of the floats stay then
pub record CanRetire (w : Words) (time : ℤ) (left : ℕ) : Type 0 where
  pub can_step : CanStep w time
  pub left_is : left ≡ length (kept (stays_at time) (records_in w))

-- words over which the clock moves on to a time of a later phase, and what they are then: the time itself is set last
pub record CanMove (w : Words) (step : Step) : Type 0 where
  pub is_store : IsStore w.store
  pub whole_table : length w.table ≡ table_words
  pub is_step : IsStep step

pub record Moved (s table : List ℤ) (step : Step) (s' table' : List ℤ) : Type 0 where
  pub store_is : s' ≡ store_of (now_of s) (moved_records step.now step.time (records_of s))
  pub table_is : table' ≡ table_moved step.now step.time (records_of s) table

-- words that a change can be made to: those after a step are
pub record CanChange (w : Words) : Type 0 where
  pub is_store : IsStore w.store
  pub whole_table : length w.table ≡ table_words

-- room for one more, and a report in range
pub record CanPlace (w : Words) (r : Report) : Type 0 where
  pub can_change : CanChange w
  pub room : length (records_in w) < capacity
  pub in_range_lem : in_range r ≡ true
  pub is_time_lem : is_time r.t ≡ true

-- a held float's report in range
pub record CanReplace (w : Words) (r : Report) : Type 0 where
  pub can_change : CanChange w
  pub is_held : has_id r.id (records_in w) ≡ true
  pub in_range_lem : in_range r ≡ true
  pub is_time_lem : is_time r.t ≡ true
