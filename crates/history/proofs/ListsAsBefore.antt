-- The claims of specs/ListsAsBefore.antt, proved. All that the checks, the value and the ids take from what is held is a function of the reports alone; so
-- ledgers that share time and reports share them, and a call leaves them sharing both.
-- Assumes nothing.
use Rattle.std.specs.Prelude.{Result, Ok, Err}
use mathlib.Core.Path.{◌≡◌, refl, sym, ap, ap₂, ◌∙◌}
use mathlib.Core.Bool.{Bool, true, false, cond}
use mathlib.Core.List.{List, [], ◌∷◌, map}
use Prim.Native.Nat.{ℕ, suc}
use lib.Dec.{eqb}
use lib.IntN.{ℤ}
use lib.ListN.{length, length-map}
use Rattle.ints.specs.Whole.{eq_z, up}
use Rattle.ints.specs.Lists.{passing, some}
use Rattle.ints.proofs.Lists.{some_map}
use Rattle.grid.specs.Reports.{is_listed, stays_at}
use Rattle.grid.specs.declared.Query.{Query}
use Rattle.grid.specs.declared.Report.{Report}
use Rattle.ledger.specs.Answers.{is_accepted}
use Rattle.ledger.specs.Refusals.{first_to_fail, time_of, id_of, clock_checks, change_checks, ask_checks}
use Rattle.ledger.specs.Machine.{Ledger, Held, opened, moved_held, keeping, moved_on, stepped, is_held, without, with_report, without_id, changed, listed_held}
use Rattle.ledger.specs.Machine.{put_in_order, ids_in_order, ids_listed, cells_read, useful_read, rounds_taken}
use Rattle.ledger.specs.Calls as L
use Rattle.ledger.specs.Calls.{Fed, answer_by}
use Rattle.ledger.specs.declared.Answer.{Answer}
use Rattle.ledger.specs.declared.Answer.TheVariants.{Accepted, Listed}
use Rattle.ledger.specs.declared.Call.{Call}
use Rattle.ledger.specs.declared.Change.{Change}
use Rattle.ledger.proofs.MachineLaws.{same_report}
use Rattle.ledger.proofs.Claims.{refusals_are_plain}
use Rattle.history.specs.Index.{fed_all}
use Rattle.history.specs.ListsAsBefore.{Told, told, reports_of, SameReports, SameReportsSameLists, Placing, placed_anew, replies_by}
use Rattle.history.specs.ListsAsBefore.{ListsComeOutAsBefore, IndexListsComeOutAsBefore}
use Rattle.history.proofs.Claims.{every_history_is_the_ledgers}
use Rattle.ledger.specs.declared.Refusal.{Refusal}

-- ---- what is taken from the floats held, by their reports

abbrev without_report : ℤ → List Report → List Report
without_report id [] = []
without_report id (r ∷ rs) = cond (eq_z r.id id) rs (r ∷ without_report id rs)

abbrev ids_by : Query → List Report → List ℕ
ids_by query [] = []
ids_by query (r ∷ rs) = cond (is_listed query r) (put_in_order (up r.id) (ids_by query rs)) (ids_by query rs)

without_is : (id : ℤ) (hs : List Held) → reports_of (without id hs) ≡ without_report id (reports_of hs)
unfolding without
without_is id [] = refl
without_is id (h ∷ hs) = go (eq_z h.report.id id) (without_is id hs)
  where
    go : (t : Bool) → reports_of (without id hs) ≡ without_report id (reports_of hs)
        → reports_of (cond t hs (h ∷ without id hs)) ≡ cond t (reports_of hs) (h.report ∷ without_report id (reports_of hs))
    go true e = refl
    go false e = ap (λ (rs : List Report). h.report ∷ rs) e

ids_are : (query : Query) (hs : List Held) → ids_in_order (listed_held query hs) ≡ ids_by query (reports_of hs)
unfolding ids_in_order passing
ids_are query [] = refl
ids_are query (h ∷ hs) = go (is_listed query h.report) (ids_are query hs)
  where
    go : (t : Bool) → ids_in_order (listed_held query hs) ≡ ids_by query (reports_of hs)
        → ids_in_order (cond t (h ∷ listed_held query hs) (listed_held query hs)) ≡ cond t (put_in_order (up h.report.id) (ids_by query (reports_of hs))) (ids_by query (reports_of hs))
    go true e = ap (put_in_order (up h.report.id)) e
    go false e = e

kept_reports : (stays : Report → Bool) (hs : List Held) → reports_of (passing (λ h. stays h.report) hs) ≡ passing stays (reports_of hs)
unfolding passing
kept_reports stays [] = refl
kept_reports stays (h ∷ hs) = go (stays h.report) (kept_reports stays hs)
  where
    left : List Held
    left = passing (λ g. stays g.report) hs

    go : (t : Bool) → reports_of left ≡ passing stays (reports_of hs) → reports_of (cond t (h ∷ left) left) ≡ cond t (h.report ∷ passing stays (reports_of hs)) (passing stays (reports_of hs))
    go true e = ap (λ (rs : List Report). h.report ∷ rs) e
    go false e = e

moved_reports : (time : ℤ) (hs : List Held) → reports_of (moved_held time hs) ≡ reports_of hs
unfolding moved_held
moved_reports time [] = refl
moved_reports time (h ∷ hs) = ap₂ (λ (r : Report) (rs : List Report). r ∷ rs) (same_report time h) (moved_reports time hs)

stepped_reports : (time : ℤ) (l : Ledger) → reports_of (stepped time l).held ≡ passing (stays_at time) (reports_of l.held)
unfolding stepped moved_on keeping
stepped_reports time l = moved_reports time (passing (λ h. stays_at time h.report) l.held) ∙ kept_reports (stays_at time) l.held

module _ (xs ys : List Held) (e : reports_of xs ≡ reports_of ys) where
  same_length : length xs ≡ length ys
  same_length = sym (length-map xs (λ h. h.report)) ∙ ap length e ∙ length-map ys (λ h. h.report)

  same_held : (id : ℤ) → is_held id xs ≡ is_held id ys
  same_held id =
      let is : Report → Bool = (λ r. eq_z r.id id) in
      sym (some_map is (λ h. h.report) xs) ∙ ap (some is) e ∙ some_map is (λ h. h.report) ys

  same_ids : (query : Query) → ids_in_order (listed_held query xs) ≡ ids_in_order (listed_held query ys)
  same_ids query = ids_are query xs ∙ ap (ids_by query) e ∙ sym (ids_are query ys)

  same_without : (id : ℤ) → reports_of (without id xs) ≡ reports_of (without id ys)
  same_without id = without_is id xs ∙ ap (without_report id) e ∙ sym (without_is id ys)

-- ---- a call on two ledgers that share time and reports

abbrev told_by : Result (Unit {0}) Refusal → Answer → List ℕ → Told
told_by v a ids = told (record { answer = answer_by v a; ids = cond (is_accepted (answer_by v a)) ids [] })

-- cells read, useful cells and rounds are not told
not_told : (v : Result (Unit {0}) Refusal) (n c u r c' u' r' : ℕ) (ids : List ℕ) → told_by v (Listed n c u r) ids ≡ told_by v (Listed n c' u' r') ids
not_told (Ok tt) n c u r c' u' r' ids = refl
not_told (Err e) n c u r c' u' r' ids = refl

module _ (l m : Ledger) (same : SameReports l m) where
  step_shared : (time : ℤ) → reports_of (stepped time l).held ≡ reports_of (stepped time m).held
  step_shared time = stepped_reports time l ∙ ap (passing (stays_at time)) same.reports ∙ sym (stepped_reports time m)

  change_shared : (c : Change) → SameReports (changed c (stepped (time_of c) l)) (changed c (stepped (time_of c) m))
  unfolding stepped moved_on with_report without_id
  change_shared (Change.Add r) = record { now = refl; reports = ap (λ (rs : List Report). r ∷ rs) (step_shared r.t) }
  change_shared (Change.Report r) = record { now = refl; reports = ap (λ (rs : List Report). r ∷ rs) (same_without _ _ (step_shared r.t) r.id) }
  change_shared (Change.Drop id t) = record { now = refl; reports = same_without _ _ (step_shared t) id }

  left_shared : (call : Call) → SameReports (L.changed_by l call) (L.changed_by m call)
  unfolding L.changed_by stepped moved_on
  left_shared (Call.Clock t) = record { now = refl; reports = step_shared t }
  left_shared (Call.Change c) = change_shared c
  left_shared (Call.Ask a) = same

  count-shared : (call : Call) → length (L.changed_by l call).held ≡ length (L.changed_by m call).held
  count-shared call = same_length (L.changed_by l call).held (L.changed_by m call).held (left_shared call).reports

  checks_shared : (call : Call) (room : ℕ) → L.checks_of l call room ≡ L.checks_of m call room
  checks_shared (Call.Clock t) room = ap (λ (now : ℤ). clock_checks now t) same.now
  checks_shared (Call.Change c) room =
      let xs = (stepped (time_of c) l).held in
      let ys = (stepped (time_of c) m).held in
      let e = step_shared (time_of c) in
      λ i. change_checks (same.now i) c (same_held xs ys e (id_of c) i) (same_length xs ys e i)
  checks_shared (Call.Ask a) room = λ i. ask_checks (same.now i) a room (length (same_ids l.held m.held same.reports a.query i))

  reply_shared : (call : Call) (room : ℕ) → told (L.reply_to l (record { call = call; room = room })) ≡ told (L.reply_to m (record { call = call; room = room }))
  unfolding L.reply_to L.answer_to L.ids_of
  reply_shared (Call.Clock t) room =
      λ i. told_by (first_to_fail (checks_shared (Call.Clock t) room i)) (Accepted (count-shared (Call.Clock t) i)) []
  reply_shared (Call.Change c) room =
      λ i. told_by (first_to_fail (checks_shared (Call.Change c) room i)) (Accepted (count-shared (Call.Change c) i)) []
  reply_shared (Call.Ask a) room =
      let ids = same_ids l.held m.held same.reports a.query in
      (λ i. told_by (first_to_fail (checks_shared (Call.Ask a) room i)) (Listed (length (ids i)) (cells_read l a) (useful_read l a) (rounds_taken l a)) (ids i))
      ∙ not_told (first_to_fail (L.checks_of m (Call.Ask a) room)) (length (ids_listed m a)) _ _ _ _ _ _ (ids_listed m a)

  -- the number says whether the call was accepted
  accepted_shared : (fed : Fed) → is_accepted (L.answer_to l fed) ≡ is_accepted (L.answer_to m fed)
  unfolding L.reply_to
  accepted_shared fed =
      (refusals_are_plain (L.answer_to l fed)).number_tells
      ∙ ap (λ (t : Told). eqb t.number 0) (reply_shared fed.call fed.room)
      ∙ sym (refusals_are_plain (L.answer_to m fed)).number_tells

  next_shared : (fed : Fed) → SameReports (L.next l fed) (L.next m fed)
  unfolding L.next
  next_shared fed = rw (accepted_shared fed) (go (is_accepted (L.answer_to m fed)))
    where
      go : (t : Bool) → SameReports (cond t (L.changed_by l fed.call) l) (cond t (L.changed_by m fed.call) m)
      go true = left_shared fed.call
      go false = same

pub same_reports_same_lists : SameReportsSameLists
same_reports_same_lists l m same fed = record { reply = reply_shared l m same fed.call fed.room; then = next_shared l m same fed }

-- ---- over every list

placed_reports : (phase : Report → ℕ) (rs : List Report) → reports_of (map (λ r. record { report = r; phase = phase r }) rs) ≡ rs
placed_reports phase [] = refl
placed_reports phase (r ∷ rs) = ap (λ (more : List Report). r ∷ more) (placed_reports phase rs)

lists_shared : (calls : List Fed) (rule : ℕ → Placing) (m l : Ledger) → SameReports m l → map told (replies_by rule m calls) ≡ map told (L.replies l calls)
unfolding replies_by L.replies placed_anew
lists_shared [] rule m l same = refl
lists_shared (fed ∷ more) rule m l same =
    let placed = placed_anew (rule 0) m in
    let still : SameReports placed l = record { now = same.now; reports = placed_reports (rule 0).phase (reports_of m.held) ∙ same.reports } in
    let one = same_reports_same_lists placed l still fed in
    ap₂ (λ (t : Told) (ts : List Told). t ∷ ts) one.reply (lists_shared more (λ i. rule (suc i)) (L.next placed fed) (L.next l fed) one.then)

pub lists_come_out_as_before : ListsComeOutAsBefore
lists_come_out_as_before rule l calls = lists_shared calls rule l l (record { now = refl; reports = refl })

pub index_lists_come_out_as_before : IndexListsComeOutAsBefore
index_lists_come_out_as_before rule w time accepted calls =
    ap (map told) (every_history_is_the_ledgers w time accepted calls) ∙ sym (lists_come_out_as_before rule (opened time) (fed_all calls))
