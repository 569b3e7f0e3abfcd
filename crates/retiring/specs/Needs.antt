-- What the functions that look for silent floats ask of a store. Nothing here is part of what a reader must believe: the public calls have no `requires`.
-- Assumes nothing.
use Rattle.std.specs.Prelude.{◌≡◌, true, List, ℕ, ℤ, length}
use Rattle.grid.specs.Reports.{stays_at}
use Rattle.records.specs.Records.{records_of}
use Rattle.records.specs.Soundness.{ids_distinct, IsStore}
use Rattle.retiring.specs.Retiring.{kept}

-- a store whose ids are distinct
pub record HasAsked (s : List ℤ) : Type 0 where
  pub store : IsStore s
  pub distinct : ids_distinct (records_of s) ≡ true

-- a store, and how many of its floats stay when the clock steps to a time
pub record RetireAsked (s : List ℤ) (time : ℤ) (left : ℕ) : Type 0 where
  pub store : IsStore s
  pub left_is : left ≡ length (kept (stays_at time) (records_of s))
