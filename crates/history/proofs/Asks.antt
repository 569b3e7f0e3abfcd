-- An ask of the index answers as the ledger does, where the words match the ledger: the same choice in each live phase, the same cells and useful
-- cells counted, the same ids.
-- Assumes nothing.
use Rattle.std.specs.Prelude.{Result, Ok, Err}
use mathlib.Core.Path.{◌≡◌, refl, sym, ap, ap₂, ◌∙◌, subst}
use mathlib.Core.Bool.{Bool, true, false, cond}
use mathlib.Core.List.Memᴰ
use mathlib.Core.List.{List, [], ◌∷◌, ◌++◌, map, Memᴰ}
use mathlib.Core.Logic.{◌⊎◌, inl, inr, ⊎_elim}
use Prim.Native.Nat.{ℕ, ◌+◌}
use lib.IntN.{ℤ}
use lib.ListN.{length, take, drop}
use lib.Seq.{take-append_seam}
use Rattle.ints.specs.Lists.{passing}
use Rattle.ints.specs.Whole.{up}
use Rattle.ints.proofs.Truth.{same_truth}
use Rattle.ints.proofs.Lists.{map-has, map_in}
use Rattle.grid.specs.Curve.{curve_number}
use Rattle.grid.specs.Reports.{is_listed}
use Rattle.grid.specs.declared.Cell.{Cell}
use Rattle.grid.specs.declared.Query.{Query}
use Rattle.grid.proofs.CurveLaws.{number_below, cell_of_its_number}
use Rattle.rows.specs.Phases.{phase_of, is_live, live_phases, slot_of}
use Rattle.rows.proofs.PhasesLaws.{listed_live}
use Rattle.methods.specs.Methods.{Choice}
use Rattle.methods.specs.Aims.{aim_in}
use Rattle.methods.specs.Slots.{rows_of_slot}
use Rattle.methods.proofs.Methods.{choice_same}
use Rattle.records.specs.Words.{Words, time_in}
use Rattle.records.specs.Order.{precedes}
use Rattle.store.specs.Inserting.{inserted}
use Rattle.records.specs.declared.Record.{Record}
use Rattle.records.proofs.OrderKeysLaws.{live-phase_of_key}
use Rattle.records.proofs.SoundnessLaws.{Sound, sound_parts}
use Rattle.reading.proofs.ReadingLaws.{id_of}
use Rattle.ledger.specs.Answers.{is_accepted}
use Rattle.ledger.specs.Refusals.{Check, first_to_fail, ask_number_checks, ask_checks}
use Rattle.ledger.specs.Machine.{Ledger, Held, rows_in, choice_asked, listed_held, is_useful, useful_cells, put_in_order, ids_in_order, summed, ids_listed, cells_read, useful_read, rounds_taken}
use Rattle.ledger.specs.Calls as L
use Rattle.ledger.specs.Calls.{Reply, answer_by}
use Rattle.ledger.specs.declared.Answer.{Answer}
use Rattle.ledger.specs.declared.Answer.TheVariants.{Listed}
use Rattle.ledger.specs.declared.Ask.{Ask}
use Rattle.ledger.specs.declared.Call.TheVariants as Call
use Rattle.ledger.proofs.MachineIdsLaws.{put_comm}
use Rattle.ledger.proofs.MachineSummedLaws.{summed_same}
use Rattle.ledger.proofs.RefusalsLaws.{same_before, before_passed, ask_good}
use Rattle.asking.specs.Counted.{room_checks}
use Rattle.asking.specs.Asking.{choice_of, ids_needed, ids_found, cells_counted, useful_counted, rounds_counted, ask_settled}
use Rattle.asking.specs.Claims.{ids_inside}
use Rattle.asking.proofs.AskingPhasesLaws.{FitAsk, fit_ask, is_inside}
use Rattle.asking.proofs.CountedLaws.{cells_counted_are}
use Rattle.asking.proofs.Claims.{found_is_inside, needed_is_inside}
use Rattle.engine.specs.Index.{ask_out, leaving_words, call_out}
use Rattle.engine.specs.Checks.{checks_of}
use Rattle.engine.proofs.ChecksLaws.{sound_lent}
use Rattle.history.specs.Index.{fed, reply_of, reply_to}
use Rattle.history.specs.Claims.{asking}
use Rattle.history.specs.EveryCall.{held_record, held_in}
use Rattle.history.proofs.Relation.{record_of, records_of_held, Good, Matches, Left}
use Rattle.history.proofs.HeldRecords.{records_from}
use Rattle.history.proofs.Sound.{matching_sound}
use Rattle.history.proofs.UsefulCells.{useful_from, from_useful}
use Rattle.history.proofs.SoundUseful.{useful_counted_lem}
use Rattle.ledger.specs.declared.Refusal.{Refusal}

-- ---- the records of the held reports

inserted_has : (r : Record) (rs : List Record) {x : Record} → (x ≡ r) ⊎ Memᴰ x rs → Memᴰ x (inserted r rs)
unfolding inserted
inserted_has r [] m = ⊎_elim (λ p. Memᴰ.head p) (λ i. absurd (Memᴰ.not-nil i)) m
inserted_has r (a ∷ rs) {x} m = go (precedes r a) m (λ i. inserted_has r rs i)
  where
    go : (t : Bool) → (x ≡ r) ⊎ Memᴰ x (a ∷ rs) → ((x ≡ r) ⊎ Memᴰ x rs → Memᴰ x (inserted r rs)) → Memᴰ x (cond t (r ∷ a ∷ rs) (a ∷ inserted r rs))
    go true i ih = ⊎_elim (λ p. Memᴰ.head p) (λ j. Memᴰ.tail j) i
    go false i ih =
        ⊎_elim (λ p. Memᴰ.tail (ih (inl p)))
        (λ j. ⊎_elim (λ p. Memᴰ.head p) (λ k. Memᴰ.tail (ih (inr k))) (Memᴰ.cases_cons j)) i

record_held : (hs : List Held) {h : Held} → Memᴰ h hs → Memᴰ (record_of h) (records_of_held hs)
unfolding records_of_held
record_held [] m = absurd (Memᴰ.not-nil m)
record_held (g ∷ hs) m =
    inserted_has (record_of g) (records_of_held hs) (⊎_elim (λ p. inl (ap record_of p)) (λ i. inr (record_held hs i)) (Memᴰ.cases_cons m))

-- where a record is put does not matter for the ids in order
abbrev with_id : Query → Record → List ℕ → List ℕ
with_id query r ids = cond (is_inside query r) (put_in_order (id_of r) ids) ids

swapped : (a b : Bool) (m n : ℕ) (ids : List ℕ)
    → cond a (put_in_order m (cond b (put_in_order n ids) ids)) (cond b (put_in_order n ids) ids) ≡ cond b (put_in_order n (cond a (put_in_order m ids) ids)) (cond a (put_in_order m ids) ids)
swapped true true m n ids = put_comm m n ids
swapped true false m n ids = refl
swapped false true m n ids = refl
swapped false false m n ids = refl

inside_inserted : (query : Query) (r : Record) (rs : List Record) → ids_inside query (inserted r rs) ≡ with_id query r (ids_inside query rs)
unfolding inserted ids_inside
inside_inserted query r [] = refl
inside_inserted query r (a ∷ rs) = go (precedes r a) (inside_inserted query r rs)
  where
    go : (t : Bool) → ids_inside query (inserted r rs) ≡ with_id query r (ids_inside query rs)
        → ids_inside query (cond t (r ∷ a ∷ rs) (a ∷ inserted r rs)) ≡ with_id query r (with_id query a (ids_inside query rs))
    go true e = refl
    go false e =
        ap (with_id query a) e ∙ swapped (is_inside query a) (is_inside query r) (id_of a) (id_of r) (ids_inside query rs)

inside_held : (query : Query) (hs : List Held) → ids_inside query (records_of_held hs) ≡ ids_in_order (listed_held query hs)
unfolding records_of_held ids_in_order passing ids_inside
inside_held query [] = refl
inside_held query (h ∷ hs) =
    inside_inserted query (record_of h) (records_of_held hs)
    ∙ ap (with_id query (record_of h)) (inside_held query hs)
    ∙ go (is_listed query h.report)
  where
    go : (t : Bool) → cond t (put_in_order (up h.report.id) (ids_in_order (listed_held query hs))) (ids_in_order (listed_held query hs))
        ≡ ids_in_order (cond t (h ∷ listed_held query hs) (listed_held query hs))
    go true = refl
    go false = refl

-- ---- the asks

same-useful_cells : (p : ℕ) (hs gs : List Held) → ((c : Cell) → is_useful p c hs ≡ is_useful p c gs) → (cs : List Cell) → useful_cells p hs cs ≡ useful_cells p gs cs
unfolding useful_cells
same-useful_cells p hs gs same [] = refl
same-useful_cells p hs gs same (c ∷ cs) =
    ap₂ (λ (b : Bool) (more : ℕ). cond b 1 0 + more) (same c) (same-useful_cells p hs gs same cs)

module _ (l : Ledger) (w : Words) (left : Left l w) (ask : Ask) where
  abbrev good : Good l
  good = left.good

  abbrev match : Matches l w
  match = left.matches

  abbrev query : Query
  query = ask.query

  -- the same choice in each live phase
  pub same_choice : (p : ℕ) → is_live (phase_of l.now) p ≡ true → choice_of w ask p ≡ choice_asked l ask p
  same_choice p live =
      choice_same (rows_of_slot w.table (slot_of p)) (rows_in l p) (aim_in p query)
      (λ c on. match.table.rows_are p live (curve_number c) (number_below c on) ∙ ap (rows_in l p) (cell_of_its_number c on))
      (up ask.method)

  module _ (fit : FitAsk l.now query) where
    parts : Sound w.store w.table
    parts = sound_parts w.store w.table (matching_sound l w good match)

    fit_here : FitAsk (time_in w) query
    fit_here = rw match.time_is fit

    -- ids
    ids_agree : ids_found w ask ≡ ids_listed l ask
    ids_agree =
        found_is_inside w ask parts fit_here
        ∙ ap (ids_inside query) match.records_are
        ∙ inside_held query l.held

    needed_agrees : ids_needed w ask ≡ length (ids_listed l ask)
    needed_agrees =
        needed_is_inside w ask parts fit_here
        ∙ ap (λ (rs : List Record). length (ids_inside query rs)) match.records_are
        ∙ ap length (inside_held query l.held)

    -- sums over the live phases
    by_phase : (f g : ℕ → ℕ) → ((p : ℕ) → is_live (phase_of l.now) p ≡ true → f p ≡ g p) → summed f (live_phases (phase_of (time_in w))) ≡ summed g (live_phases (phase_of l.now))
    by_phase f g h =
        ap (λ (now : ℤ). summed f (live_phases (phase_of now))) match.time_is
        ∙ summed_same f g (live_phases (phase_of l.now)) (λ p m. h p (listed_live (phase_of l.now) p m))

    rounds_agree : rounds_counted w ask ≡ rounds_taken l ask
    unfolding rounds_counted
    rounds_agree =
        by_phase (λ p. (choice_of w ask p).rounds) (λ p. (choice_asked l ask p).rounds)
        (λ p live. ap (λ (k : Choice). k.rounds) (same_choice p live))

    cells_agree : cells_counted w ask ≡ cells_read l ask
    cells_agree =
        cells_counted_are w ask
        ∙ by_phase (λ p. length (choice_of w ask p).cells) (λ p. length (choice_asked l ask p).cells)
        (λ p live. ap (λ (k : Choice). length k.cells) (same_choice p live))

    -- a cell is useful by the records of the store where it is useful by the held reports
    held_again : {h : Held} → Memᴰ h l.held → held_record l.now (record_of h) ≡ h
    held_again {h} m =
        let phase = live-phase_of_key (phase_of l.now) h.phase h.report (good.holds h m).live in
        λ i. record { report = h.report; phase = phase i }

    held_are : held_in w ≡ map (held_record l.now) (records_of_held l.held)
    held_are =
        ap₂ (λ (now : ℤ) (rs : List Record). map (held_record now) rs) match.time_is match.records_are

    held_from : {h : Held} → Memᴰ h (held_in w) → Memᴰ h l.held
    held_from {h} i =
        let a = map_in (held_record l.now) (records_of_held l.held) (subst (λ (hs : List Held). Memᴰ h hs) held_are i) in
        let f = records_from l.held a.1 in
        Memᴰ.cast (a.2 ∙ ap (held_record l.now) f.2 ∙ held_again f.1) f.1

    held_has : {h : Held} → Memᴰ h l.held → Memᴰ h (held_in w)
    held_has {h} i =
        subst (λ (hs : List Held). Memᴰ h hs) (sym held_are)
        (Memᴰ.cast (sym (held_again i)) (map-has (held_record l.now) (records_of_held l.held) (record_held l.held i)))

    same_useful_cell : (p : ℕ) (c : Cell) → is_useful p c (listed_held query (held_in w)) ≡ is_useful p c (listed_held query l.held)
    same_useful_cell p c =
        same_truth _ _
        (λ u. let a = useful_from query p c (held_in w) u in from_useful query p c l.held (held_from a.1) a.2 a.3 a.4)
        (λ u. let a = useful_from query p c l.held u in from_useful query p c (held_in w) (held_has a.1) a.2 a.3 a.4)

    useful_agree : useful_counted w ask ≡ useful_read l ask
    useful_agree =
        useful_counted_lem w parts ask fit_here
        ∙ by_phase
        (λ p. useful_cells p (listed_held query (held_in w)) (choice_of w ask p).cells)
        (λ p. useful_cells p (listed_held query l.held) (choice_asked l ask p).cells)
        (λ p live.
        same-useful_cells p (listed_held query (held_in w)) (listed_held query l.held) (same_useful_cell p) (choice_of w ask p).cells
        ∙ ap (λ (k : Choice). useful_cells p (listed_held query l.held) k.cells) (same_choice p live))

-- ---- the answer and the reply

record SameNumbers (n c u r n' c' u' r' : ℕ) (ids ids' : List ℕ) : Type 0 where
  same_needed : n ≡ n'
  same_cells : c ≡ c'
  same_useful : u ≡ u'
  same_rounds : r ≡ r'
  same_ids : ids ≡ ids'
  as_many : n' ≡ length ids'

abbrev pub ledger_reply : Answer → List ℕ → Reply
ledger_reply a ids = record { answer = a; ids = cond (is_accepted a) ids [] }

-- by the verdict: refused, neither lists an id; else the ids written in front are the ids listed
reply_by : (w : Words) (ask : Ask) (list : List ℕ) (n c u r : ℕ) (ids : List ℕ) (v : Result (Unit {0}) Refusal)
    → (v ≡ Ok tt → SameNumbers (ids_needed w ask) (cells_counted w ask) (useful_counted w ask) (rounds_counted w ask) n c u r (ids_found w ask) ids)
    → reply_of (leaving_words (ask_settled v w ask list) w) ≡ ledger_reply (answer_by v (Listed n c u r)) ids
reply_by w ask list n c u r ids (Err why) same = refl
reply_by w ask list n c u r ids (Ok tt) same =
    let k = same refl in
    let front : take (ids_needed w ask) (ids_found w ask ++ drop (length (ids_found w ask)) list) ≡ ids =
    (λ i. take (k.same_needed i) (k.same_ids i ++ drop (length (k.same_ids i)) list))
    ∙ ap (λ (m : ℕ). take m (ids ++ drop (length ids) list)) k.as_many
    ∙ take-append_seam ids (drop (length ids) list) in
    λ i. record { answer = Listed (k.same_needed i) (k.same_cells i) (k.same_useful i) (k.same_rounds i); ids = front i }

pub ledger_reply_lem : (l : Ledger) (ask : Ask) (list : List ℕ) → L.reply_to l (fed (asking ask list)) ≡ ledger_reply (L.answer_to l (fed (asking ask list))) (ids_listed l ask)
unfolding L.reply_to L.ids_of
ledger_reply_lem l ask list = refl

-- an ask of the index answers as the ledger does
module _ (l : Ledger) (w : Words) (left : Left l w) (ask : Ask) (list : List ℕ) where
  abbrev checks : List Check
  checks = ask_number_checks l.now ask

  abbrev pub verdict : Result (Unit {0}) Refusal
  verdict = first_to_fail (ask_checks l.now ask (length list) (length (ids_listed l ask)))

  passed_numbers : first_to_fail checks ≡ Ok tt → FitAsk l.now ask.query
  passed_numbers p = let good = ask_good l.now ask p in fit_ask l.now ask good.good_time good.good_numbers

  -- the ids needed matter only where the checks before pass
  same_verdict : first_to_fail (checks_of w (Call.Ask ask) (length list)) ≡ verdict
  same_verdict =
      sym (sound_lent w (matching_sound l w left.good left.matches) (ask_checks (time_in w) ask (length list) (ids_needed w ask)))
      ∙ ap (λ (now : ℤ). first_to_fail (ask_checks now ask (length list) (ids_needed w ask))) left.matches.time_is
      ∙ same_before checks (room_checks (length list) (ids_needed w ask)) (room_checks (length list) (length (ids_listed l ask)))
      (λ p. ap (λ (n : ℕ). first_to_fail (room_checks (length list) n)) (needed_agrees l w left ask (passed_numbers p)))

  -- an ask that passed its checks
  pub passed_fit : verdict ≡ Ok tt → FitAsk l.now ask.query
  passed_fit p = passed_numbers (before_passed checks (room_checks (length list) (length (ids_listed l ask))) p)

  pub ask_agrees : reply_to w (asking ask list) ≡ L.reply_to l (fed (asking ask list))
  unfolding call_out ask_out L.answer_to
  ask_agrees =
      ap (λ (v : Result (Unit {0}) Refusal). reply_of (leaving_words (ask_settled v w ask list) w)) same_verdict
      ∙ reply_by w ask list (length (ids_listed l ask)) (cells_read l ask) (useful_read l ask) (rounds_taken l ask) (ids_listed l ask) verdict
      (λ p.
      let fit = passed_fit p in
      record {
        same_needed = needed_agrees l w left ask fit;
        same_cells = cells_agree l w left ask fit;
        same_useful = useful_agree l w left ask fit;
        same_rounds = rounds_agree l w left ask fit;
        same_ids = ids_agree l w left ask fit;
        as_many = refl;
      })
      ∙ sym (ledger_reply_lem l ask list)
