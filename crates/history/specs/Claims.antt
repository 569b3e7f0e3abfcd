-- Every history is the ledger's: demand 3 of document 01, as claims about the whole list of calls. A reader who believes the definitions named
-- here can check in a few minutes what is claimed; the proofs are in proofs/.
-- Assumes nothing.
use Rattle.std.specs.Prelude.{◌≡◌, true, cond, ℕ, ◌+◌, ℤ, length}
use mathlib.Core.List.{List, [], ◌∷◌, Memᴰ}
use Rattle.ints.specs.Lists.{passing}
use Rattle.grid.specs.Places.{OnGrid}
use Rattle.grid.specs.Reports.{is_silent}
use Rattle.grid.specs.declared.Cell.{Cell}
use Rattle.grid.specs.declared.Query.{Query}
use Rattle.rows.specs.Row.{holds}
use Rattle.rows.specs.Phases.{phase_of, is_live, live_phases, slot_of}
use Rattle.rows.specs.declared.Drift.{Drift}
use Rattle.rows.specs.declared.Row.{Row}
use Rattle.methods.specs.Aims.{aim_in}
use Rattle.methods.specs.Slots.{rows_of_slot}
use Rattle.methods.specs.Claims.{Nested}
use Rattle.records.specs.Words.{Words, time_in}
use Rattle.ledger.specs.Answers.{is_accepted, number_of, counts_of}
use Rattle.ledger.specs.Refusals.{time_of}
use Rattle.ledger.specs.Machine.{Ledger, opened, rows_in, choice_asked}
use Rattle.ledger.specs.Calls as L
use Rattle.ledger.specs.Calls.{Fed, Reply}
use Rattle.ledger.specs.declared.Ask.{Ask}
use Rattle.ledger.specs.declared.Call.{Call}
use Rattle.ledger.specs.declared.Change.TheVariants as Change
use Rattle.asking.specs.Asking.{choice_of}
use Rattle.engine.specs.Index.{open_out}
use Rattle.history.specs.Index.{LentCall, fed_all, reply_to, replies, after, opened_words}

-- S9: open the index over any buffers and the ledger together, and give both the same list of calls. Whatever the list, every answer in it is the
-- ledger's: number, value, ids in order, cells read, useful cells, rounds
abbrev pub EveryHistoryIsTheLedgers : Type 0
EveryHistoryIsTheLedgers =
    (w : Words) (time : ℤ)
    → is_accepted (open_out w time).answer ≡ true
    → (calls : List LentCall)
    → replies (opened_words w time) calls ≡ L.replies (opened time) (fed_all calls)

-- ---- S10: at every point of every list

-- an ask lent a list
abbrev pub asking : Ask → List ℕ → LentCall
asking ask list = record { call = Call.Ask ask; list = list }

abbrev pub ask_by : ℤ → Query → Ask
ask_by method query = record { method = method; query = query }

-- the index and the ledger at a point of a list: after open, or after any of its calls. The asks compared are each the next call there
module _ (w : Words) (l : Ledger) where
  abbrev pub Accepts : Ask → List ℕ → Type 0
  Accepts ask list = is_accepted (reply_to w (asking ask list)).answer ≡ true

  -- what two asks that differ in the method alone have in common
  pub record SharedAnswer (ask ask' : Ask) (list list' : List ℕ) : Type 0 where
    pub ids_shared : (reply_to w (asking ask list)).ids ≡ (reply_to w (asking ask' list')).ids
    pub useful_shared : (counts_of (reply_to w (asking ask list)).answer).useful ≡ (counts_of (reply_to w (asking ask' list')).answer).useful

  pub record PointAgrees : Type 0 where
    -- two accepted asks share ids and useful cells
    pub shared :
        (method method' : ℤ) (query : Query) (list list' : List ℕ)
        → Accepts (ask_by method query) list
        → Accepts (ask_by method' query) list'
        → SharedAnswer (ask_by method query) (ask_by method' query) list list'
    -- in each live phase the set that the index reads is the set that the method chooses by the ledger's rows
    pub same_set : (ask : Ask) (list : List ℕ) → Accepts ask list → (p : ℕ) → Memᴰ p (live_phases (phase_of l.now)) → choice_of w ask p ≡ choice_asked l ask p
    -- and the methods' sets are nested
    pub nested : (ask : Ask) (list : List ℕ) → Accepts ask list → (p : ℕ) → Memᴰ p (live_phases (phase_of l.now)) → Nested (rows_in l p) (aim_in p ask.query)

abbrev pub EveryPointAgrees : Type 0
EveryPointAgrees =
    (w : Words) (time : ℤ)
    → is_accepted (open_out w time).answer ≡ true
    → (calls : List LentCall)
    → PointAgrees (after (opened_words w time) calls) (L.after (opened time) (fed_all calls))

-- ---- S11, A7: floats held are the accepted adds less the accepted drops less the retirements

abbrev pub count_if : Call → ℕ → ℕ → ℕ
count_if (Call.Clock t) adds drops = 0
count_if (Call.Change (Change.Add r)) adds drops = adds
count_if (Call.Change (Change.Report r)) adds drops = 0
count_if (Call.Change (Change.Drop id t)) adds drops = drops
count_if (Call.Ask ask) adds drops = 0

-- the accepted adds (1 0) or drops (0 1) among some calls, from a ledger on
unfoldable pub accepted_of : ℕ → ℕ → Ledger → List Fed → ℕ
accepted_of adds drops l [] = 0
accepted_of adds drops l (fed ∷ more) =
    cond (is_accepted (L.answer_to l fed)) (count_if fed.call adds drops) 0 + accepted_of adds drops (L.next l fed) more

-- the floats that a call retires where it is accepted: those silent at the time to which it steps
abbrev pub silent_at : ℤ → Ledger → ℕ
silent_at time l = length (passing (λ h. is_silent time h.report.t) l.held)

abbrev pub retires : Ledger → Call → ℕ
retires l (Call.Clock t) = silent_at t l
retires l (Call.Change c) = silent_at (time_of c) l
retires l (Call.Ask ask) = 0

-- those of some calls, from a ledger on
unfoldable pub retirements : Ledger → List Fed → ℕ
retirements l [] = 0
retirements l (fed ∷ more) = cond (is_accepted (L.answer_to l fed)) (retires l fed.call) 0 + retirements (L.next l fed) more

abbrev pub HeldAreAddsLessDropsLessRetirements : Type 0
HeldAreAddsLessDropsLessRetirements =
    (time : ℤ) (calls : List Fed)
    → length (L.after (opened time) calls).held + accepted_of 0 1 (opened time) calls + retirements (opened time) calls ≡ accepted_of 1 0 (opened time) calls

-- ---- numbers 1 and 2 never come up in a list

abbrev pub OneAndTwoNeverComeUp : Type 0
OneAndTwoNeverComeUp =
    (w : Words) (time : ℤ)
    → is_accepted (open_out w time).answer ≡ true
    → (calls : List LentCall) (r : Reply)
    → Memᴰ r (replies (opened_words w time) calls)
    → (number_of r.answer ≡ 1 → ⊥) × (number_of r.answer ≡ 2 → ⊥)

-- ---- a row never narrows while its phase lives

abbrev pub phase_now : Words → ℕ
phase_now w = phase_of (time_in w)

-- every speed that one row holds the other holds
abbrev pub HoldsRow : Row → Row → Type 0
HoldsRow wide narrow = (drift : Drift) → holds narrow drift ≡ true → holds wide drift ≡ true

-- over every list of calls, accepted or refused, from any words on: in a phase that is live before it and after it, each cell's row holds all that it
-- held before
abbrev pub RowsNeverNarrow : Type 0
RowsNeverNarrow =
    (w : Words) (calls : List LentCall) (p : ℕ)
    → is_live (phase_now w) p ≡ true
    → is_live (phase_now (after w calls)) p ≡ true
    → (c : Cell)
    → OnGrid c
    → HoldsRow (rows_of_slot (after w calls).table (slot_of p) c) (rows_of_slot w.table (slot_of p) c)

-- and so in the ledger
abbrev pub LedgerRowsNeverNarrow : Type 0
LedgerRowsNeverNarrow =
    (l : Ledger) (calls : List Fed) (p : ℕ)
    → is_live (phase_of l.now) p ≡ true
    → is_live (phase_of (L.after l calls).now) p ≡ true
    → (c : Cell)
    → HoldsRow (rows_in (L.after l calls) p c) (rows_in l p c)
