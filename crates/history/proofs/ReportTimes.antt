-- The claims of specs/ReportTimes.antt, proved. That a listed float is reported is the first half of what "listed" says; so leaving out those reported
-- later leaves the listed ones. A choice is made of a table's rows, and of nothing else that the words hold.
-- Assumes nothing.
use mathlib.Core.Path.{◌≡◌, sym, ap, ◌∙◌}
use mathlib.Core.List.{List, map, ◌++◌}
use Prim.Native.Nat.{ℕ}
use lib.IntN.{ℤ}
use lib.ListN.{length, drop}
use Rattle.ints.specs.Whole.{up}
use Rattle.ints.proofs.Truth.{and_left}
use Rattle.ints.proofs.Lists.{passing, passing_twice}
use Rattle.grid.specs.Reports.{inside_when, is_listed}
use Rattle.grid.specs.declared.Query.{Query}
use Rattle.rows.specs.Phases.{phase_of, live_phases, slot_of}
use Rattle.methods.specs.Aims.{aim_in}
use Rattle.methods.specs.Methods.{choice}
use Rattle.methods.specs.Slots.{rows_of_slot}
use Rattle.records.specs.Words.{Words, records_in}
use Rattle.records.specs.declared.Record.{Record}
use Rattle.reading.proofs.ReadingLaws.{id_of}
use Rattle.ledger.specs.Machine.{Held, summed}
use Rattle.ledger.specs.declared.Ask.{Ask}
use Rattle.ledger.proofs.MachineIdsLaws.{in_order}
use Rattle.asking.specs.Asking.{choice_of}
use Rattle.asking.specs.Claims.{ids_inside}
use Rattle.asking.proofs.AskingPhasesLaws.{is_inside}
use Rattle.asking.proofs.Claims.{inside_is}
use Rattle.history.specs.ReportTimes.{reported_by, ListedIsReported, AcceptedAsksListReported, LedgerListsReported, CellsAreReadByRows, LedgerCellsAreReadByRows}
use Rattle.history.proofs.EveryCall.{list_is_written, counts_are_exact}

-- ---- the list

pub listed_is_reported : ListedIsReported
unfolding is_listed
listed_is_reported query r = and_left (reported_by query r) (inside_when query.rect query.when r)

inside_reported : (query : Query) (rs : List Record) → ids_inside query rs ≡ ids_inside query (passing (λ r. reported_by query r.report) rs)
inside_reported query rs =
    let reported = passing (λ (r : Record). reported_by query r.report) rs in
    inside_is query rs
    ∙ ap (λ (listed : List Record). in_order (map id_of listed)) (sym (passing_twice (is_inside query) _ rs (λ r. listed_is_reported query r.report)))
    ∙ sym (inside_is query reported)

pub ledger_lists_reported : LedgerListsReported
ledger_lists_reported query hs = sym (passing_twice (λ (h : Held). is_listed query h.report) _ hs (λ h. listed_is_reported query h.report))

pub accepted_asks_list_reported : AcceptedAsksListReported
accepted_asks_list_reported w ask list h =
    (list_is_written w ask list).ids_in_front h
    ∙ ap (λ (ids : List ℕ). ids ++ drop (length ids) list) (inside_reported ask.query (records_in w))

-- ---- the cells

choice_by_rows : (ask : Ask) (w w' : Words) → w.table ≡ w'.table → (p : ℕ) → choice_of w ask p ≡ choice_of w' ask p
choice_by_rows ask w w' e p = ap (λ (table : List ℤ). choice (up ask.method) (rows_of_slot table (slot_of p)) (aim_in p ask.query)) e

pub cells_are_read_by_rows : CellsAreReadByRows
cells_are_read_by_rows ask w w' list list' table time h h' =
    let same = choice_by_rows ask w w' table in
    let counts = counts_are_exact w ask list h in
    let counts' = counts_are_exact w' ask list' h' in
    record {
      same_choice = same;
      same_cells = counts.cells_are ∙ (λ i. summed (λ p. length (same p i).cells) (live_phases (phase_of (time i)))) ∙ sym counts'.cells_are;
      same_rounds = counts.rounds_are ∙ (λ i. summed (λ p. (same p i).rounds) (live_phases (phase_of (time i)))) ∙ sym counts'.rounds_are;
    }

pub ledger_cells_are_read_by_rows : LedgerCellsAreReadByRows
ledger_cells_are_read_by_rows ask l l' p same = λ i. choice (up ask.method) (λ c. same c i) (aim_in p ask.query)
