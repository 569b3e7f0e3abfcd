-- When a call is declined: document 01's table from row 3 on, document 02's number 10 (A3), and the rule that the checks stand in number order, with
-- 10 right after 3, and the first to fail is given.
-- The index and the ledger have these lists of checks in common; what is held, and the ids that an ask needs, each says by itself.
-- Assumes nothing.
use Rattle.std.specs.Prelude.{Bool, true, false, ◌&&◌, ◌||◌, not, List, [], ◌∷◌, ◌++◌, ℕ, leb, ltb, ℤ, pos, ◌+ℤ◌, ◌-ℤ◌, Result, Ok, Err}
use Rattle.std.specs.Int.Signed.{le_z, lt_z}
use Rattle.ints.specs.Whole.{between}
use Rattle.grid.specs.Reports.{is_time, is_id, is_position, in_range}
use Rattle.grid.specs.Units.{capacity, ask_before, ask_after, longest_window}
use Rattle.grid.specs.declared.Query.{Query}
use Rattle.grid.specs.declared.Rect.{Rect}
use Rattle.grid.specs.declared.Report.{Report}
use Rattle.grid.specs.declared.When.{When}
use Rattle.grid.specs.declared.When.TheVariants.{At, During}
use Rattle.ledger.specs.declared.Change.{Change}
use Rattle.ledger.specs.declared.Ask.{Ask}
use Rattle.ledger.specs.declared.Refusal.{Refusal}
use Rattle.ledger.specs.declared.Refusal.TheVariants.{WrongLength, Unsound, BadTime, BadWindow, BadNumber, AlreadyHeld, NotHeld, Full, ListTooShort}

-- one check: whether it fails, and the refusal given then
pub record Check : Type 0 where
  pub fails : Bool
  pub refusal : Refusal

abbrev pub check : Bool → Refusal → Check
check b r = record { fails = b; refusal = r }

abbrev pub unless : Bool → Refusal → Result (Unit {0}) Refusal → Result (Unit {0}) Refusal
unless true r v = Err r
unless false r v = v

-- checks run one by one, and the first to fail is given
unfoldable pub first_to_fail : List Check → Result (Unit {0}) Refusal
first_to_fail [] = Ok tt
first_to_fail (c ∷ cs) = unless c.fails c.refusal (first_to_fail cs)

-- where the check of each refusal stands: 1, 2, 3, 10, 4, 5, 6, 7, 8
abbrev pub place_of : Refusal → ℕ
place_of WrongLength = 1
place_of Unsound = 2
place_of BadTime = 3
place_of BadWindow = 4
place_of BadNumber = 5
place_of AlreadyHeld = 6
place_of NotHeld = 7
place_of Full = 8
place_of (ListTooShort needed) = 9

-- each check's place is before that of the check after it
unfoldable pub in_check_order : List Check → Bool
in_check_order [] = true
in_check_order (c ∷ []) = true
in_check_order (c ∷ d ∷ more) = ltb (place_of c.refusal) (place_of d.refusal) && in_check_order (d ∷ more)

-- 3, for open: time outside its range
abbrev pub bad_time : ℤ → Bool
bad_time t = not (is_time t)

-- 3, for clock, add, report and drop: or below now
abbrev pub bad_step_time : ℤ → ℤ → Bool
bad_step_time now t = not (is_time t) || lt_z t now

-- 3, for ask: a time outside its range, or outside now - 3,600 to now + 7,200; of a window, either time
abbrev pub out_of_ask_range : ℤ → ℤ → Bool
out_of_ask_range now t = not (is_time t) || not (between (now -ℤ pos ask_before) (now +ℤ pos ask_after) t)

abbrev pub bad_when : ℤ → When → Bool
bad_when now (At t) = out_of_ask_range now t
bad_when now (During first last) = out_of_ask_range now first || out_of_ask_range now last

abbrev pub bad_ask_time : ℤ → Query → Bool
bad_ask_time now query = bad_when now query.when

-- 10, for a window: its last time before its first, or more than 3,600 after it
abbrev pub bad_span : When → Bool
bad_span (At t) = false
bad_span (During first last) = not (between first (first +ℤ pos longest_window) last)

abbrev pub bad_window : Query → Bool
bad_window query = bad_span query.when

-- 4, for add and report: id, position or speed outside its range
abbrev pub bad_report : Report → Bool
bad_report r = not (in_range r)

-- 4, for drop: id outside its range
abbrev pub bad_id : ℤ → Bool
bad_id id = not (is_id id)

-- a corner in the sea, both axes in order
unfoldable pub is_rectangle : Rect → Bool
is_rectangle q =
    ((is_position q.x.low && is_position q.x.high) && (is_position q.y.low && is_position q.y.high))
    && (le_z q.x.low q.x.high && le_z q.y.low q.y.high)

-- 4, for ask: method outside 0 to 3, a corner outside the sea, or low above high
abbrev pub bad_ask : Ask → Bool
bad_ask a = not (between (pos 0) (pos 3) a.method && is_rectangle a.query.rect)

-- ---- the checks of each call, in their order

abbrev pub clock_checks : ℤ → ℤ → List Check
clock_checks now t = check (bad_step_time now t) BadTime ∷ []

-- the time that a change goes to, and the float that it is about
abbrev pub time_of : Change → ℤ
time_of (Change.Add r) = r.t
time_of (Change.Report r) = r.t
time_of (Change.Drop id t) = t

abbrev pub id_of : Change → ℤ
id_of (Change.Add r) = r.id
id_of (Change.Report r) = r.id
id_of (Change.Drop id t) = id

abbrev pub bad_numbers : Change → Bool
bad_numbers (Change.Add r) = bad_report r
bad_numbers (Change.Report r) = bad_report r
bad_numbers (Change.Drop id t) = bad_id id

-- 5 to 7, by the floats held after the clock step: whether the one that the change is about is held, and how many are
abbrev pub held_checks : Change → Bool → ℕ → List Check
held_checks (Change.Add r) is_held held = check is_held AlreadyHeld ∷ check (leb capacity held) Full ∷ []
held_checks (Change.Report r) is_held held = check (not is_held) NotHeld ∷ []
held_checks (Change.Drop id t) is_held held = check (not is_held) NotHeld ∷ []

abbrev pub change_checks : ℤ → Change → Bool → ℕ → List Check
change_checks now c is_held held =
    check (bad_step_time now (time_of c)) BadTime ∷ check (bad_numbers c) BadNumber ∷ held_checks c is_held held

-- those of an ask that go by its numbers
abbrev pub ask_number_checks : ℤ → Ask → List Check
ask_number_checks now a =
    check (bad_ask_time now a.query) BadTime ∷ check (bad_window a.query) BadWindow ∷ check (bad_ask a) BadNumber ∷ []

-- an answer list with so much room, and the ids needed
abbrev pub ask_checks : ℤ → Ask → ℕ → ℕ → List Check
ask_checks now a room needed = ask_number_checks now a ++ check (ltb room needed) (ListTooShort needed) ∷ []
