-- S9 and S10 of specs/Claims.antt, proved: every answer of every list is the ledger's, and at every point two asks that differ in the method alone
-- share ids and useful cells, and read the ledger's choice, with the methods nested.
-- Assumes nothing.
use Rattle.std.specs.Prelude.{Ok}
use mathlib.Core.Path.{◌≡◌, refl, sym, ap, ◌∙◌}
use mathlib.Core.List.{List}
use Prim.Native.Nat.{ℕ}
use lib.ListN.{length}
use Rattle.ints.specs.Whole.{up}
use Rattle.ints.proofs.Marks.{counted}
use Rattle.grid.specs.Units.{cells}
use Rattle.grid.specs.Curve.{cell_of_number}
use Rattle.rows.specs.Phases.{phase_of, live_phases}
use Rattle.rows.proofs.PhasesLaws.{listed_live}
use Rattle.methods.specs.Aims.{aim_in}
use Rattle.methods.proofs.Claims.{methods_are_nested}
use Rattle.methods.proofs.Views.{query_is_fair}
use Rattle.records.specs.Words.{Words}
use Rattle.ledger.specs.Answers.{is_accepted, counts_of}
use Rattle.ledger.specs.Machine.{Ledger, rows_in, held_asked, choice_asked, is_useful, useful_cells, summed, ids_listed, cells_read, useful_read, rounds_taken}
use Rattle.ledger.specs.Calls as L
use Rattle.ledger.specs.Calls.{Reply, answer_by}
use Rattle.ledger.specs.declared.Answer.{Answer}
use Rattle.ledger.specs.declared.Answer.TheVariants.{Listed}
use Rattle.ledger.specs.declared.Ask.{Ask}
use Rattle.ledger.proofs.MachineSummedLaws.{summed_same}
use Rattle.ledger.proofs.RefusalsLaws.{passed_of}
use Rattle.asking.proofs.AskingPhasesLaws.{FitAsk}
use Rattle.history.specs.Index.{reply_to}
use Rattle.history.specs.Claims.{asking, ask_by, EveryHistoryIsTheLedgers, Accepts, PointAgrees, EveryPointAgrees}
use Rattle.history.proofs.Relation.{Left}
use Rattle.history.proofs.Every.{every_point_matches, every_history_with_asks}
use Rattle.history.proofs.UsefulCells.{valid_here, in_order_here, useful_is}
use Rattle.history.proofs.Asks.{verdict, ledger_reply, ledger_reply_lem, same_choice, passed_fit, ask_agrees}

-- ---- S9

pub every_history_is_the_ledgers : EveryHistoryIsTheLedgers
every_history_is_the_ledgers = every_history_with_asks ask_agrees

-- ---- S10

module _ (l : Ledger) (w : Words) (left : Left l w) where
  module _ (ask : Ask) (list : List ℕ) (accepts : Accepts w l ask list) where
    abbrev listed : Answer
    listed = Listed (length (ids_listed l ask)) (cells_read l ask) (useful_read l ask) (rounds_taken l ask)

    reply_by : reply_to w (asking ask list) ≡ ledger_reply (answer_by (verdict l w left ask list) listed) (ids_listed l ask)
    unfolding L.answer_to
    reply_by = ask_agrees l w left ask list ∙ ledger_reply_lem l ask list

    -- an accepted ask passed its checks
    passed : verdict l w left ask list ≡ Ok tt
    passed = passed_of (verdict l w left ask list) listed (sym (ap (λ (k : Reply). is_accepted k.answer) reply_by) ∙ accepts)

    reply_is : reply_to w (asking ask list) ≡ record { answer = listed; ids = ids_listed l ask }
    reply_is = reply_by ∙ rw passed refl

    fit : FitAsk l.now ask.query
    fit = passed_fit l w left ask list passed

    -- the useful cells of the answer are the cells of the listed floats, phase by phase
    useful_are : (counts_of (reply_to w (asking ask list)).answer).useful ≡ summed (λ p. counted (λ n. is_useful p (cell_of_number n) (held_asked l ask)) 0 cells) (live_phases (phase_of l.now))
    useful_are =
        ap (λ (k : Reply). (counts_of k.answer).useful) reply_is
        ∙ summed_same
        (λ p. useful_cells p (held_asked l ask) (choice_asked l ask p).cells)
        (λ p. counted (λ n. is_useful p (cell_of_number n) (held_asked l ask)) 0 cells)
        (live_phases (phase_of l.now))
        (λ p m. useful_is l left.good ask.query fit (up ask.method) p (listed_live (phase_of l.now) p m))

  pub point_agrees : PointAgrees w l
  point_agrees = record {
    shared = λ method method' query list list' a a'.
        let ask = ask_by method query in
        let ask' = ask_by method' query in
        record {
          ids_shared = ap (λ (k : Reply). k.ids) (reply_is ask list a) ∙ sym (ap (λ (k : Reply). k.ids) (reply_is ask' list' a'));
          useful_shared = useful_are ask list a ∙ sym (useful_are ask' list' a');
        };
    same_set = λ ask list a p m. same_choice l w left ask p (listed_live (phase_of l.now) p m);
    nested = λ ask list a p m.
        let query = ask.query in
        let here = fit ask list a in
        methods_are_nested (rows_in l p) (valid_here l left.good query here p) (aim_in p query) (query_is_fair p query (in_order_here l left.good query here));
  }

pub every_point_agrees : EveryPointAgrees
every_point_agrees w time accepted calls = point_agrees _ _ (every_point_matches w time accepted calls)
