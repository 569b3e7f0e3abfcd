-- What the calls over sound words ask, and what a change that passed its checks gives back. Nothing here is part of what a reader must
-- believe: the public calls have no `requires`.
-- Assumes nothing.
use Rattle.std.specs.Prelude.{◌≡◌, true, false, List, ℕ, ◌+◌, ◌-◌, ◌≤◌, ◌<◌, ℤ, length, Ok}
use Rattle.grid.specs.Units.{capacity}
use Rattle.grid.specs.Reports.{is_time, stays_at}
use Rattle.records.specs.Records.{records_of}
use Rattle.records.specs.Order.{has_id}
use Rattle.records.specs.Words.{Words, time_in, records_in, are_sound}
use Rattle.retiring.specs.Retiring.{kept}
use Rattle.retiring.specs.Needs.{HasAsked}
use Rattle.words.specs.Needs.{CanChange}
use Rattle.ledger.specs.Refusals.{first_to_fail, time_of, id_of, bad_numbers, held_checks}
use Rattle.ledger.specs.declared.Answer.{Answer}
use Rattle.ledger.specs.declared.Answer.TheVariants.{Accepted}
use Rattle.ledger.specs.declared.Change.{Change}
use Rattle.engine.specs.Checks.{checks_of_change}

-- a store with distinct ids, and how many floats stay at the clock step of a change
pub record CanJudge (s : List ℤ) (c : Change) (left : ℕ) : Type 0 where
  pub has : HasAsked s
  pub left_is : left ≡ length (kept (stays_at (time_of c)) (records_of s))

-- sound words and a change that passed its checks
pub record CanMake (w : Words) (c : Change) : Type 0 where
  pub sound : are_sound w ≡ true
  pub passed : first_to_fail (checks_of_change (time_in w) (records_in w) c) ≡ Ok tt

-- and how many floats stay at its clock step
pub record CanMakeWith (w : Words) (c : Change) (left : ℕ) : Type 0 where
  pub can_make : CanMake w c
  pub left_is : left ≡ length (kept (stays_at (time_of c)) (records_in w))

-- how many floats a change leaves, of those that stay at its clock step
abbrev pub held_after : Change → ℕ → ℕ
held_after (Change.Add r) left = left + 1
held_after (Change.Report r) left = left
held_after (Change.Drop id t) left = left - 1

pub record CanCount (c : Change) (left : ℕ) : Type 0 where
  pub few : left ≤ capacity
  pub one_to_drop : (id t : ℤ) → c ≡ Change.Drop id t → 0 < left

-- words after a clock step and a change that passed its checks
pub record CanApply (w : Words) (c : Change) : Type 0 where
  pub can_change : CanChange w
  pub is_time_lem : is_time (time_of c) ≡ true
  pub good_numbers : bad_numbers c ≡ false
  pub held_good : first_to_fail (held_checks c (has_id (id_of c) (records_in w)) (length (records_in w))) ≡ Ok tt

-- the new words, and the floats held in them
pub record Done (w : Words) (a : Answer) (w' : Words) : Type 0 where
  pub answer_is : a ≡ Accepted (length (records_in w))
  pub words_are : w' ≡ w
