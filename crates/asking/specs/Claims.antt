-- What is claimed of asks over every sound store and table, reached or not: S3, stated over the records alone, with no cells in it; and the range of d.
-- Assumes nothing.
use Rattle.std.specs.Prelude.{◌≡◌, true, false, cond, List, [], ◌∷◌, ℕ, ℤ, pos, neg_ℤ, length}
use Rattle.ints.specs.Whole.{between, up}
use Rattle.grid.specs.Reports.{is_time, is_listed}
use Rattle.grid.specs.declared.Query.{Query}
use Rattle.rows.specs.Phases.{phase_of, since_reference, is_live}
use Rattle.methods.specs.Slices.{earliest, latest}
use Rattle.records.specs.Words.{Words, time_in, records_in, are_sound}
use Rattle.records.specs.declared.Record.{Record}
use Rattle.ledger.specs.Refusals.{out_of_ask_range, bad_ask_time, bad_ask}
use Rattle.ledger.specs.Machine.{put_in_order}
use Rattle.ledger.specs.declared.Ask.{Ask}
use Rattle.asking.specs.Asking.{ids_needed, ids_found}

-- the ids of the records that a query lists (`is_listed`), by rising number
unfoldable pub ids_inside : Query → List Record → List ℕ
ids_inside query [] = []
ids_inside query (r ∷ rs) =
    cond (is_listed query r.report) (put_in_order (up r.report.id) (ids_inside query rs)) (ids_inside query rs)

-- S3, A3, A4: the ids that an accepted ask writes are those of all held records that its query lists: inside at its time, or at some moment of its
-- window, and not before the report
abbrev pub ListIsExact : Type 0
ListIsExact =
    (w : Words)
    → are_sound w ≡ true
    → (ask : Ask)
    → bad_ask_time (time_in w) ask.query ≡ false
    → bad_ask ask ≡ false
    → (ids_found w ask ≡ ids_inside ask.query (records_in w))
    × (ids_needed w ask ≡ length (ids_inside ask.query (records_in w)))

-- A6: d is from -5,400 to 16,199, for each time that an ask may have, in each live phase
abbrev pub EveryDIsInRange : Type 0
EveryDIsInRange =
    (now asked : ℤ) (p : ℕ)
    → is_time now ≡ true
    → out_of_ask_range now asked ≡ false
    → is_live (phase_of now) p ≡ true
    → between (neg_ℤ (pos earliest)) (pos latest) (since_reference p asked) ≡ true
