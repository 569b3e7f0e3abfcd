-- What placements have no part in: document 02, A6, "Lists come out as before". The phases and cells in which floats are placed decide which cells are
-- read; number, value and ids go by the time and the held reports alone, so another reference time changes none of them.
-- Assumes nothing.
use Rattle.std.specs.Prelude.{◌≡◌, true, List, [], ◌∷◌, map, ℕ, suc, ℤ}
use Rattle.grid.specs.declared.Report.{Report}
use Rattle.records.specs.Words.{Words}
use Rattle.ledger.specs.Answers.{is_accepted, number_of, value_of}
use Rattle.ledger.specs.Machine.{Ledger, Held, Placement, opened}
use Rattle.ledger.specs.Calls as L
use Rattle.ledger.specs.Calls.{Fed, Reply}
use Rattle.engine.specs.Index.{open_out}
use Rattle.history.specs.Index.{LentCall, fed_all, replies, opened_words}

-- a reply without cells read, useful cells and rounds
pub record Told : Type 0 where
  pub number : ℕ
  pub value : ℕ
  pub ids : List ℕ

abbrev pub told : Reply → Told
told r = record { number = number_of r.answer; value = value_of r.answer; ids = r.ids }

-- ---- two ledgers

abbrev pub reports_of : List Held → List Report
reports_of = map (λ h. h.report)

-- the same time and the same held reports, whatever their phases and placements
pub record SameReports (l m : Ledger) : Type 0 where
  pub now : l.now ≡ m.now
  pub reports : reports_of l.held ≡ reports_of m.held

-- two such ledgers give the same number, value and ids for every call, and are such two after it
pub record SameTold (l m : Ledger) (fed : Fed) : Type 0 where
  pub reply : told (L.reply_to l fed) ≡ told (L.reply_to m fed)
  pub then : SameReports (L.next l fed) (L.next m fed)

abbrev pub SameReportsSameLists : Type 0
SameReportsSameLists = (l m : Ledger) → SameReports l m → (fed : Fed) → SameTold l m fed

-- ---- any rule of placement

-- what a rule of placement decides at some point of a list: the phase of each held report, and the placements
pub record Placing : Type 0 where
  pub phase : Report → ℕ
  pub placements : List Placement

unfoldable pub placed_anew : Placing → Ledger → Ledger
placed_anew a l = record {
  now = l.now;
  held = map (λ r. record { report = r; phase = a.phase r }) (reports_of l.held);
  placements = a.placements;
}

-- every reply to a list of calls where floats are placed by another rule, which says before the i-th call how: the rule of document 01 is one
unfoldable pub replies_by : (ℕ → Placing) → Ledger → List Fed → List Reply
replies_by rule l [] = []
replies_by rule l (fed ∷ more) =
    let placed = placed_anew (rule 0) l in
    L.reply_to placed fed ∷ replies_by (λ i. rule (suc i)) (L.next placed fed) more

-- whatever the rule and the list, each number, value and ids are the ledger's
abbrev pub ListsComeOutAsBefore : Type 0
ListsComeOutAsBefore = (rule : ℕ → Placing) (l : Ledger) (calls : List Fed) → map told (replies_by rule l calls) ≡ map told (L.replies l calls)

-- and so the index's, after an accepted open
abbrev pub IndexListsComeOutAsBefore : Type 0
IndexListsComeOutAsBefore =
    (rule : ℕ → Placing) (w : Words) (time : ℤ)
    → is_accepted (open_out w time).answer ≡ true
    → (calls : List LentCall)
    → map told (replies (opened_words w time) calls) ≡ map told (replies_by rule (opened time) (fed_all calls))
