-- The checks of each call of the index, in their order: document 01, "What a call gives back when it declines", and document 02, A3, for 10. Those that
-- go by a call's numbers are the ledger's; the index has the lent words to judge besides.
-- Assumes nothing.
use Rattle.std.specs.Prelude.{Bool, ◌&&◌, not, List, [], ◌∷◌, ℕ, eqb, ℤ, length}
use Rattle.rows.specs.Table.{table_words}
use Rattle.records.specs.Records.{store_words}
use Rattle.records.specs.Order.{has_id}
use Rattle.records.specs.Words.{Words, time_in, records_in, are_sound}
use Rattle.records.specs.declared.Record.{Record}
use Rattle.retiring.specs.Retiring.{stepped_records}
use Rattle.ledger.specs.Refusals.{Check, check, bad_time, clock_checks, time_of, id_of, change_checks, ask_checks}
use Rattle.ledger.specs.declared.Call.{Call}
use Rattle.ledger.specs.declared.Change.{Change}
use Rattle.ledger.specs.declared.Refusal.TheVariants.{WrongLength, Unsound, BadTime}
use Rattle.asking.specs.Asking.{ids_needed}

-- 1: store not 7,175 words or table not 12,288 numbers
abbrev pub wrong_length : Words → Bool
wrong_length w = not (eqb (length w.store) store_words && eqb (length w.table) table_words)

-- 2: store or table unsound
abbrev pub unsound : Words → Bool
unsound w = not (are_sound w)

abbrev pub open_checks : Words → ℤ → List Check
open_checks w t = check (wrong_length w) WrongLength ∷ check (bad_time t) BadTime ∷ []

-- those of a change that go by its numbers and the records. Who is held is judged on the records after the clock step
abbrev pub checks_of_change : ℤ → List Record → Change → List Check
checks_of_change now rs c =
    let after = stepped_records now (time_of c) rs in
    change_checks now c (has_id (id_of c) after) (length after)

-- all but open begin with those of the lent words; an ask is lent a list with so much room
abbrev pub lent_checks : Words → List Check → List Check
lent_checks w more = check (wrong_length w) WrongLength ∷ check (unsound w) Unsound ∷ more

abbrev pub checks_of : Words → Call → ℕ → List Check
checks_of w (Call.Clock t) room = lent_checks w (clock_checks (time_in w) t)
checks_of w (Call.Change c) room = lent_checks w (checks_of_change (time_in w) (records_in w) c)
checks_of w (Call.Ask ask) room = lent_checks w (ask_checks (time_in w) ask room (ids_needed w ask))
