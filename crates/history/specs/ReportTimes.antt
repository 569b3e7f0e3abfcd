-- What is claimed of reports that come after the asked time, beside the claims on every ask: document 02, A4. Over every store and table of every length,
-- reached by calls or not, and over every ledger. That a window counts only moments from the report on is in Windows.
-- Assumes nothing.
use Rattle.std.specs.Prelude.{◌≡◌, Bool, true, List, ◌++◌, ℕ, length, drop}
use Rattle.std.specs.Int.Signed.{le_z}
use Rattle.ints.specs.Lists.{passing}
use Rattle.grid.specs.Reports.{last_of, is_listed}
use Rattle.grid.specs.declared.Cell.{Cell}
use Rattle.grid.specs.declared.Query.{Query}
use Rattle.grid.specs.declared.Report.{Report}
use Rattle.records.specs.Words.{Words, time_in, records_in}
use Rattle.ledger.specs.Answers.{counts_of, is_accepted}
use Rattle.ledger.specs.Machine.{Ledger, Held, listed_held, rows_in, choice_asked}
use Rattle.ledger.specs.declared.Ask.{Ask}
use Rattle.asking.specs.Asking.{choice_of}
use Rattle.asking.specs.Claims.{ids_inside}
use Rattle.engine.specs.Index.{ask_out}

-- ---- the list

-- reported by the asked time, of a window by its last time; the very second included, whatever the time now
abbrev pub reported_by : Query → Report → Bool
reported_by query r = le_z r.t (last_of query.when)

-- an ask lists no float whose report time is after the asked time
abbrev pub ListedIsReported : Type 0
ListedIsReported = (query : Query) (r : Report) → is_listed query r ≡ true → reported_by query r ≡ true

-- so of every accepted ask: the ids in front are those of the floats reported by then that its query lists
abbrev pub AcceptedAsksListReported : Type 0
AcceptedAsksListReported =
    (w : Words) (ask : Ask) (list : List ℕ)
    → is_accepted (ask_out w ask list).answer ≡ true
    → let ids = ids_inside ask.query (passing (λ r. reported_by ask.query r.report) (records_in w)) in
    (ask_out w ask list).list ≡ ids ++ drop (length ids) list

-- the ledger follows: a float that reported later might as well not be held, for the ids and for the useful cells, which both go by the listed floats
abbrev pub LedgerListsReported : Type 0
LedgerListsReported = (query : Query) (hs : List Held) → listed_held query hs ≡ listed_held query (passing (λ h. reported_by query h.report) hs)

-- ---- which cells are read is still by rows

-- asks of the same query over two words: what a method chooses, the cells read and the rounds
pub record SameCells (ask : Ask) (w w' : Words) (list list' : List ℕ) : Type 0 where
  pub same_choice : (p : ℕ) → choice_of w ask p ≡ choice_of w' ask p
  pub same_cells : (counts_of (ask_out w ask list).answer).cells ≡ (counts_of (ask_out w' ask list').answer).cells
  pub same_rounds : (counts_of (ask_out w ask list).answer).rounds ≡ (counts_of (ask_out w' ask list').answer).rounds

-- words of one time and one table have the same cells read, whatever their records are: no report time goes into the choice
abbrev pub CellsAreReadByRows : Type 0
CellsAreReadByRows =
    (ask : Ask) (w w' : Words) (list list' : List ℕ)
    → w.table ≡ w'.table
    → time_in w ≡ time_in w'
    → is_accepted (ask_out w ask list).answer ≡ true
    → is_accepted (ask_out w' ask list').answer ≡ true
    → SameCells ask w w' list list'

-- and so of the ledger: in each phase by its rows there
abbrev pub LedgerCellsAreReadByRows : Type 0
LedgerCellsAreReadByRows =
    (ask : Ask) (l l' : Ledger) (p : ℕ) → ((c : Cell) → rows_in l p c ≡ rows_in l' p c) → choice_asked l ask p ≡ choice_asked l' ask p
