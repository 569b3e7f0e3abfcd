-- The documents' number and values for each case of an answer: document 01, "What a call gives back when it declines", and number 10 of document 02, A3.
-- Assumes nothing.
use Rattle.std.specs.Prelude.{Bool, true, false, ℕ}
use Rattle.ledger.specs.declared.Answer.{Answer}
use Rattle.ledger.specs.declared.Answer.TheVariants.{Accepted, Listed, Refused}
use Rattle.ledger.specs.declared.Refusal.{Refusal}
use Rattle.ledger.specs.declared.Refusal.TheVariants.{WrongLength, Unsound, BadTime, BadWindow, BadNumber, AlreadyHeld, NotHeld, Full, ListTooShort}

-- the number of a refusal
abbrev pub refusal_number : Refusal → ℕ
refusal_number WrongLength = 1
refusal_number Unsound = 2
refusal_number BadTime = 3
refusal_number BadWindow = 10
refusal_number BadNumber = 4
refusal_number AlreadyHeld = 5
refusal_number NotHeld = 6
refusal_number Full = 7
refusal_number (ListTooShort needed) = 8

-- the value returned with it: the ids needed, else 0
abbrev pub refusal_value : Refusal → ℕ
refusal_value WrongLength = 0
refusal_value Unsound = 0
refusal_value BadTime = 0
refusal_value BadWindow = 0
refusal_value BadNumber = 0
refusal_value AlreadyHeld = 0
refusal_value NotHeld = 0
refusal_value Full = 0
refusal_value (ListTooShort needed) = needed

-- the number: 0 where the call is accepted
abbrev pub number_of : Answer → ℕ
number_of (Accepted held) = 0
number_of (Listed ids cells useful rounds) = 0
number_of (Refused r) = refusal_number r

-- the value returned: the floats held, or the ids listed
abbrev pub value_of : Answer → ℕ
value_of (Accepted held) = held
value_of (Listed ids cells useful rounds) = ids
value_of (Refused r) = refusal_value r

-- cells read, useful cells and rounds: 0 but for an accepted ask
pub record Counts : Type 0 where
  pub cells : ℕ
  pub useful : ℕ
  pub rounds : ℕ

abbrev pub no_counts : Counts
no_counts = record { cells = 0; useful = 0; rounds = 0 }

abbrev pub counts_of : Answer → Counts
counts_of (Accepted held) = no_counts
counts_of (Listed ids cells useful rounds) = record { cells = cells; useful = useful; rounds = rounds }
counts_of (Refused r) = no_counts

abbrev pub is_accepted : Answer → Bool
is_accepted (Accepted held) = true
is_accepted (Listed ids cells useful rounds) = true
is_accepted (Refused r) = false
