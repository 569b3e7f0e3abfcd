-- A row never narrows while its phase lives, over every list of calls, of the index's words and of the ledger.
-- Assumes nothing.
use Rattle.std.specs.Prelude.{Result, Ok, Err}
use mathlib.Core.Path.{◌≡◌, refl, ap, ◌∙◌, subst}
use mathlib.Core.Bool.{Bool, true, false, cond}
use mathlib.Core.List.Memᴰ
use mathlib.Core.List.{List, [], ◌∷◌, ◌++◌}
use mathlib.Core.Logic.{inl, inr, dite}
use Prim.Native.Nat.{ℕ, ◌≤◌, ◌<◌}
use native.Mathlib.Decide.{ℕ_discrete}
use native.Mathlib.Omega.{arith}
use lib.IntN.{ℤ}
use lib.ListN.{length}
use lib.Signed.{le_z}
use Rattle.grid.specs.Units.{cells}
use Rattle.grid.specs.Curve.{curve_number}
use Rattle.grid.specs.Reports.{stays_at}
use Rattle.grid.specs.declared.Cell.{Cell}
use Rattle.grid.specs.declared.Report.{Report}
use Rattle.grid.proofs.CurveLaws.{number_below}
use Rattle.rows.specs.Row.{drift_of, widened, bounds_of, Within}
use Rattle.rows.specs.Phases.{slots, phase_of, is_live, slot_of}
use Rattle.rows.specs.Table.{table_words, row_at, with_newly_live_empty}
use Rattle.rows.specs.declared.Row.{Row}
use Rattle.rows.proofs.PhasesLaws.{live_range, range_live, slot_on, phases_grow}
use Rattle.rows.proofs.RowLaws.{within_refl, within_trans, within_joined_left, holds_within, bounds_grow}
use Rattle.rows.proofs.TableLaws.{row_written, row_other, length-with_row, length_newly_live_empty, earlier_live_kept}
use Rattle.records.specs.Words.{Words, time_in, records_in}
use Rattle.records.specs.Order.{slot_of_key, number_of_key}
use Rattle.store.specs.Inserting.{inserted}
use Rattle.store.specs.Removing.{removed}
use Rattle.store.specs.Widening.{widened_by, widened_by_all}
use Rattle.store.specs.Stepping.{placed_in, moves, replaced, moved_records}
use Rattle.store.proofs.WideningLaws.{own_row, with_speeds_length}
use Rattle.retiring.specs.Retiring.{kept}
use Rattle.words.specs.Words as Index
use Rattle.words.proofs.WordsSteppedLaws.{keeping_time}
use Rattle.records.specs.declared.Record.{Record}
use Rattle.records.proofs.RecordsLaws.{now_of-store}
use Rattle.records.proofs.SoundnessRangeLaws.{number_of_key-below}
use Rattle.ledger.specs.Answers.{is_accepted}
use Rattle.ledger.specs.Refusals.{Check, check, first_to_fail, bad_step_time, time_of}
use Rattle.ledger.specs.Machine.{Ledger, Placement, live_placements, new_placements, keeping, moved_on, stepped, with_report, without_id, changed, speeds_placed, rows_in}
use Rattle.ledger.specs.Calls as L
use Rattle.ledger.specs.Calls.{Fed}
use Rattle.ledger.specs.declared.Call.{Call}
use Rattle.ledger.specs.declared.Change.{Change}
use Rattle.ledger.specs.declared.Refusal.TheVariants.{WrongLength, Unsound, BadTime}
use Rattle.ledger.proofs.MachineLaws.{speeds_append, speeds_live}
use Rattle.ledger.proofs.RefusalsLaws.{first_passed, others_passed, passed_of}
use Rattle.engine.specs.Index.{settled, clock_out, change_out, call_out}
use Rattle.engine.specs.Checks.{wrong_length, unsound, lent_checks}
use Rattle.engine.specs.Index as Engine
use Rattle.engine.proofs.ChecksLaws.{right_lengths}
use Rattle.history.specs.Index.{LentCall, next, after}
use Rattle.history.specs.Claims.{phase_now, RowsNeverNarrow, LedgerRowsNeverNarrow}
use Rattle.history.proofs.Steps.{step_later}
use Rattle.ledger.specs.declared.Refusal.{Refusal}

-- ---- rows of a table that is widened

one_widened :
    (table : List ℤ) (r : Record) (slot number : ℕ)
    → length table ≡ table_words
    → slot < slots
    → number < cells
    → Within (row_at table slot number) (row_at (widened_by table r) slot number)
one_widened table r slot number sized on here =
    let k = slot_of_key r.key in
    let n = number_of_key r.key in
    let below = number_of_key-below r.key in
    let new = widened (row_at table k n) (drift_of r.report) in
    dite (ℕ_discrete slot k)
    (λ (e : slot ≡ k).
    dite (ℕ_discrete number n)
    (λ (f : number ≡ n).
    let there : k < slots = omega arith in
    rw (e, f, row_written table k n new sized there below) (within_joined_left (row_at table k n) (own_row r)))
    (λ f. rw (row_other table k n new slot number below here (inr f)) (within_refl (row_at table slot number))))
    (λ e. rw (row_other table k n new slot number below here (inl e)) (within_refl (row_at table slot number)))

all_widened : (table : List ℤ) (rs : List Record) (slot number : ℕ) → length table ≡ table_words → slot < slots → number < cells
    → Within (row_at table slot number) (row_at (widened_by_all table rs) slot number)
unfolding widened_by_all
all_widened table [] slot number sized on here = within_refl (row_at table slot number)
all_widened table (r ∷ rs) slot number sized on here =
    let k = slot_of_key r.key in
    let n = number_of_key r.key in
    within_trans
    (one_widened table r slot number sized on here)
    (all_widened (widened_by table r) rs slot number (length-with_row table k n (widened (row_at table k n) (drift_of r.report)) ∙ sized) on here)

-- ---- one call

-- from one state of the index to a later one
record Lasts (w later : Words) : Type 0 where
  phase_rises : phase_now w ≤ phase_now later
  keeps : (p : ℕ) → is_live (phase_now w) p ≡ true → is_live (phase_now later) p ≡ true → (n : ℕ) → n < cells → Within (row_at w.table (slot_of p) n) (row_at later.table (slot_of p) n)

lasts_refl : (w : Words) → Lasts w w
lasts_refl w = record { phase_rises = omega arith; keeps = λ p h k n here. within_refl (row_at w.table (slot_of p) n) }

-- a phase that is live before and after is live between
live_between : (a b c p : ℕ) → a ≤ b → b ≤ c → is_live a p ≡ true → is_live c p ≡ true → is_live b p ≡ true
live_between a b c p x y h k =
    range_live b p (omega (arith, live_range a p h)) (omega (arith, live_range c p k))

lasts_trans : {u v w : Words} → Lasts u v → Lasts v w → Lasts u w
lasts_trans {u} {v} {w} f g =
    let x = f.phase_rises in
    let y = g.phase_rises in
    record {
      phase_rises = omega arith;
      keeps = λ p h k n here.
          let live = live_between (phase_now u) (phase_now v) (phase_now w) p x y h k in
          within_trans (f.keeps p h live n here) (g.keeps p live k n here);
    }

-- floats that go leave their rows
keep_lasts : (w : Words) (stays : Report → Bool) → Lasts w (Index.keeping stays w)
unfolding Index.keeping
keep_lasts w stays =
    let now = now_of-store (time_in w) (kept stays (records_in w)) in
    record { phase_rises = rw now (omega arith); keeps = λ p h k n here. within_refl (row_at w.table (slot_of p) n) }

-- the clock moved on
move_lasts : (w : Words) (time : ℤ) → length w.table ≡ table_words → le_z (time_in w) time ≡ true → Lasts w (Index.moved_on time w)
unfolding Index.moved_on Index.table_moved
move_lasts w time sized later =
    let c = phase_of (time_in w) in
    let to = phase_of time in
    let bare = with_newly_live_empty w.table c to in
    let anew = replaced to (moves (time_in w) time) (records_in w) in
    let now = now_of-store time (moved_records (time_in w) time (records_in w)) in
    let rises = phases_grow (time_in w) time later in
    record {
      phase_rises = rw now rises;
      keeps = λ p h k n here.
          subst (λ (r : Row). Within r (row_at (widened_by_all bare anew) (slot_of p) n))
          (earlier_live_kept w.table c to sized p n (rw now at k) here (live_range c p h).0)
          (all_widened bare anew (slot_of p) n (length_newly_live_empty w.table c to sized) (slot_on p) here);
    }

-- the clock step
step_lasts : (w : Words) (time : ℤ) → length w.table ≡ table_words → le_z (time_in w) time ≡ true → Lasts w (Index.stepped time w)
unfolding Index.stepped Index.keeping
step_lasts w time sized later =
    let left = Index.keeping (stays_at time) w in
    lasts_trans (keep_lasts w (stays_at time)) (move_lasts left time sized (ap (λ (now : ℤ). le_z now time) (keeping_time (stays_at time) w) ∙ later))

-- the same time, and a table whose rows are no narrower
place_lasts : (w : Words) (r : Report) → length w.table ≡ table_words → Lasts w (Index.placed r w)
unfolding Index.placed
place_lasts w r sized =
    let new = placed_in (phase_of r.t) r in
    let now = now_of-store (time_in w) (inserted new (records_in w)) in
    record {
      phase_rises = rw now (omega arith);
      keeps = λ p h k n here. one_widened w.table new (slot_of p) n sized (slot_on p) here;
    }

take_lasts : (w : Words) (id : ℤ) → Lasts w (Index.taken_out id w)
unfolding Index.taken_out
take_lasts w id =
    let now = now_of-store (time_in w) (removed id (records_in w)) in
    record { phase_rises = rw now (omega arith); keeps = λ p h k n here. within_refl (row_at w.table (slot_of p) n) }

step_sized : (w : Words) (time : ℤ) → length w.table ≡ table_words → length (Index.stepped time w).table ≡ table_words
unfolding Index.stepped Index.keeping Index.moved_on Index.table_moved
step_sized w time sized =
    let left = Index.keeping (stays_at time) w in
    let c = phase_of (time_in left) in
    with_speeds_length (with_newly_live_empty w.table c (phase_of time)) (replaced (phase_of time) (moves (time_in left) time) (records_in left))
    ∙ length_newly_live_empty w.table c (phase_of time) sized

take_sized : (w : Words) (id : ℤ) → length (Index.taken_out id w).table ≡ length w.table
unfolding Index.taken_out
take_sized w id = refl

-- what a change does after the step
change_lasts : (w : Words) (c : Change) → length w.table ≡ table_words → Lasts w (Engine.changed c w)
change_lasts w (Change.Add r) sized = place_lasts w r sized
change_lasts w (Change.Report r) sized =
    lasts_trans (take_lasts w r.id) (place_lasts (Index.taken_out r.id w) r (take_sized w r.id ∙ sized))
change_lasts w (Change.Drop id t) sized = take_lasts w id

-- a call whose checks are passed has a whole table and a time not before now; a refused one leaves the words
settled_lasts :
    (w w' : Words) (time : ℤ) (more : List Check)
    → (length w.table ≡ table_words → le_z (time_in w) time ≡ true → Lasts w w')
    → (v : Result (Unit {0}) Refusal)
    → first_to_fail (lent_checks w (check (bad_step_time (time_in w) time) BadTime ∷ more)) ≡ v
    → Lasts w (settled v w w').words
settled_lasts w w' time more lasts (Err r) e = lasts_refl w
settled_lasts w w' time more lasts (Ok tt) e =
    let timed = check (bad_step_time (time_in w) time) BadTime ∷ more in
    let odd = check (unsound w) Unsound ∷ timed in
    let long = right_lengths w (first_passed (wrong_length w) WrongLength odd e) in
    let rest = others_passed (unsound w) Unsound timed (others_passed (wrong_length w) WrongLength odd e) in
    lasts long.table_long (step_later (time_in w) time (first_passed (bad_step_time (time_in w) time) BadTime more rest))

call_lasts : (w : Words) (call : Call) (list : List ℕ) → Lasts w (call_out w call list).words
unfolding call_out clock_out change_out
call_lasts w (Call.Clock t) list = settled_lasts w (Index.stepped t w) t [] (λ sized later. step_lasts w t sized later) _ refl
call_lasts w (Call.Change c) list =
    settled_lasts w (Engine.changed c (Index.stepped (time_of c) w)) (time_of c) _
    (λ sized later. lasts_trans (step_lasts w (time_of c) sized later) (change_lasts (Index.stepped (time_of c) w) c (step_sized w (time_of c) sized)))
    _ refl
call_lasts w (Call.Ask ask) list = lasts_refl w

calls_last : (calls : List LentCall) (w : Words) → Lasts w (after w calls)
unfolding after
calls_last [] w = lasts_refl w
calls_last (call ∷ calls) w = lasts_trans (call_lasts w call.call call.list) (calls_last calls (next w call))

-- ---- the ledger

record LedgerLasts (l later : Ledger) : Type 0 where
  phase_rises : phase_of l.now ≤ phase_of later.now
  keeps : (p : ℕ) → is_live (phase_of l.now) p ≡ true → is_live (phase_of later.now) p ≡ true → (c : Cell) → Within (rows_in l p c) (rows_in later p c)

ledger_refl : (l : Ledger) → LedgerLasts l l
ledger_refl l = record { phase_rises = omega arith; keeps = λ p h k c. within_refl (rows_in l p c) }

ledger_trans : {k l m : Ledger} → LedgerLasts k l → LedgerLasts l m → LedgerLasts k m
ledger_trans {k} {l} {m} f g =
    let x = f.phase_rises in
    let y = g.phase_rises in
    record {
      phase_rises = omega arith;
      keeps = λ p h i c.
          let live = live_between (phase_of k.now) (phase_of l.now) (phase_of m.now) p x y h i in
          within_trans (f.keeps p h live c) (g.keeps p live i c);
    }

-- more placements, wider rows
more_placed : (p : ℕ) (c : Cell) (ps more : List Placement) → Within (bounds_of (speeds_placed p c ps)) (bounds_of (speeds_placed p c (ps ++ more)))
more_placed p c ps more =
    rw (speeds_append p c ps more)
    (bounds_grow (speeds_placed p c ps) (speeds_placed p c ps ++ speeds_placed p c more) (λ r m. Memᴰ.append_left (speeds_placed p c more) m))

keeping_lasts : (stays : Report → Bool) (l : Ledger) → LedgerLasts l (keeping stays l)
unfolding keeping rows_in
keeping_lasts stays l =
    record { phase_rises = omega arith; keeps = λ p h k c. within_refl (bounds_of (speeds_placed p c l.placements)) }

moved_lasts : (time : ℤ) (l : Ledger) → le_z l.now time ≡ true → LedgerLasts l (moved_on time l)
unfolding moved_on rows_in
moved_lasts time l later = record {
  phase_rises = phases_grow l.now time later;
  keeps = λ p h k c.
      subst (λ (rs : List Row). Within (bounds_of rs) (bounds_of (speeds_placed p c (live_placements time l.placements ++ new_placements time l.held))))
      (speeds_live time p c l.placements k)
      (more_placed p c (live_placements time l.placements) (new_placements time l.held));
}

stepped_lasts : (time : ℤ) (l : Ledger) → le_z l.now time ≡ true → LedgerLasts l (stepped time l)
unfolding stepped keeping
stepped_lasts time l later = ledger_trans (keeping_lasts (stays_at time) l) (moved_lasts time (keeping (stays_at time) l) later)

with_report_lasts : (r : Report) (l : Ledger) → LedgerLasts l (with_report r l)
unfolding with_report rows_in
with_report_lasts r l = record { phase_rises = omega arith; keeps = λ p h k c. more_placed p c l.placements _ }

without_lasts : (id : ℤ) (l : Ledger) → LedgerLasts l (without_id id l)
unfolding without_id rows_in
without_lasts id l =
    record { phase_rises = omega arith; keeps = λ p h k c. within_refl (bounds_of (speeds_placed p c l.placements)) }

changed_lasts : (l : Ledger) (c : Change) → LedgerLasts l (changed c l)
changed_lasts l (Change.Add r) = with_report_lasts r l
changed_lasts l (Change.Report r) = ledger_trans (without_lasts r.id l) (with_report_lasts r (without_id r.id l))
changed_lasts l (Change.Drop id t) = without_lasts id l

passed_lasts : (l : Ledger) (call : Call) (room : ℕ) → first_to_fail (L.checks_of l call room) ≡ Ok tt → LedgerLasts l (L.changed_by l call)
unfolding L.changed_by
passed_lasts l (Call.Clock t) room p = stepped_lasts t l (step_later l.now t (first_passed (bad_step_time l.now t) BadTime [] p))
passed_lasts l (Call.Change c) room p =
    ledger_trans (stepped_lasts (time_of c) l (step_later l.now (time_of c) (first_passed (bad_step_time l.now (time_of c)) BadTime _ p)))
    (changed_lasts (stepped (time_of c) l) c)
passed_lasts l (Call.Ask ask) room p = ledger_refl l

next_lasts : (l : Ledger) (fed : Fed) → LedgerLasts l (L.next l fed)
unfolding L.next L.answer_to
next_lasts l fed = go (is_accepted (L.answer_to l fed)) refl
  where
    go : (b : Bool) → is_accepted (L.answer_to l fed) ≡ b → LedgerLasts l (cond b (L.changed_by l fed.call) l)
    go true h = passed_lasts l fed.call fed.room (passed_of (first_to_fail (L.checks_of l fed.call fed.room)) (L.if_none_fails l fed.call) h)
    go false h = ledger_refl l

after_lasts : (calls : List Fed) (l : Ledger) → LedgerLasts l (L.after l calls)
unfolding L.after
after_lasts [] l = ledger_refl l
after_lasts (fed ∷ more) l = ledger_trans (next_lasts l fed) (after_lasts more (L.next l fed))

-- ---- both

pub rows_never_narrow : RowsNeverNarrow
rows_never_narrow w calls p h k c on =
    holds_within ((calls_last calls w).keeps p h k (curve_number c) (number_below c on))

pub ledger_rows_never_narrow : LedgerRowsNeverNarrow
ledger_rows_never_narrow l calls p h k c = holds_within ((after_lasts calls l).keeps p h k c)
