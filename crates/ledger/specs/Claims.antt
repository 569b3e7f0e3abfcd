-- What is claimed of refusals: document 01, "What a call gives back when it declines", its first two sentences, with 10 right after 3
-- (document 02, A3), and the rule on values.
-- Assumes nothing.
use Rattle.std.specs.Prelude.{◌≡◌, true, false, ℕ, ◌≤◌, eqb, ℤ, Err}
use mathlib.Core.List.{List, ◌∷◌, ◌++◌, Memᴰ}
use Rattle.ledger.specs.Answers.{number_of, value_of, no_counts, counts_of, is_accepted}
use Rattle.ledger.specs.Refusals.{Check, first_to_fail, place_of, in_check_order}
use Rattle.ledger.specs.Machine.{Ledger}
use Rattle.ledger.specs.Calls.{open_checks, checks_of}
use Rattle.ledger.specs.declared.Answer.{Answer}
use Rattle.ledger.specs.declared.Call.{Call}
use Rattle.ledger.specs.declared.Refusal.{Refusal}

-- checks run in number order, 10 right after 3 (S15, A3): those of open and of each later call stand in it
abbrev pub ChecksStandInOrder : Type 0
ChecksStandInOrder =
    ((t : ℤ) → in_check_order (open_checks t) ≡ true)
    × ((l : Ledger) (call : Call) (room : ℕ) → in_check_order (checks_of l call room) ≡ true)

-- a check that fails, and each before it passes
pub record FirstFails (c : Check) (cs : List Check) : Type 0 where
  pub before : List Check
  pub behind : List Check
  pub checks_are : cs ≡ before ++ c ∷ behind
  pub passed : (b : Check) → Memᴰ b before → b.fails ≡ false
  pub failed : c.fails ≡ true

-- the first to fail is given, and a refusal is given only then (S2)
pub record GivesTheFirst (cs : List Check) : Type 0 where
  pub given : (c : Check) → FirstFails c cs → first_to_fail cs ≡ Err c.refusal
  pub only_then : (r : Refusal) → first_to_fail cs ≡ Err r → (c : Check) × FirstFails c cs × (c.refusal ≡ r)

abbrev pub FirstToFailIsGiven : Type 0
FirstToFailIsGiven = (cs : List Check) → GivesTheFirst cs

-- of checks in order that fail, the one of the first place is given: the least number, but that 10 stands right after 3
abbrev pub FirstPlaceIsGiven : Type 0
FirstPlaceIsGiven =
    (cs : List Check)
    → in_check_order cs ≡ true
    → (c : Check)
    → Memᴰ c cs
    → c.fails ≡ true
    → (r : Refusal) × (first_to_fail cs ≡ Err r) × (place_of r ≤ place_of c.refusal)

-- number 0 is that of an accepted call; a refused one has no counts, and every number but 8 returns 0 (S2)
pub record RefusalIsPlain (a : Answer) : Type 0 where
  pub number_tells : is_accepted a ≡ eqb (number_of a) 0
  pub no_counts_lem : is_accepted a ≡ false → counts_of a ≡ no_counts
  pub no_value : is_accepted a ≡ false → (number_of a ≡ 8 → ⊥) → value_of a ≡ 0

abbrev pub RefusalsArePlain : Type 0
RefusalsArePlain = (a : Answer) → RefusalIsPlain a
