-- Useful cells of a sound store, reached or not: in a live phase they are those of the records inside, each of which lies in a chosen cell.
-- Assumes nothing.
use mathlib.Core.Path.{◌≡◌, sym, ap, ◌∙◌}
use mathlib.Core.Bool.{true, ◌&&◌}
use mathlib.Core.List.{List, Memᴰ}
use Prim.Native.Nat.{ℕ, ◌+◌, ◌*◌, ◌<◌}
use lib.Dec.{eqb}
use lib.IntN.{pos}
use native.Mathlib.Omega.{arith}
use borrow.Author.Tests.{eqb-true, eq-eqb}
use Rattle.ints.specs.Whole.{up, eq_z}
use Rattle.ints.proofs.Truth.{same_truth, and_true, and_left, and_right}
use Rattle.ints.proofs.Same.{same_is, is_same}
use Rattle.ints.proofs.Lists.{passing, passing_in, passing_has, some_passes, passes_some, map-has, map_in}
use Rattle.ints.proofs.Marks.{counted}
use Rattle.grid.specs.Units.{cells}
use Rattle.grid.specs.Places.{OnGrid}
use Rattle.grid.specs.Curve.{curve_number, cell_of_number}
use Rattle.grid.specs.declared.Cell.{Cell}
use Rattle.grid.specs.Reports.{x_at, y_at, is_listed}
use Rattle.grid.specs.declared.Query.{Query}
use Rattle.grid.specs.declared.Report.{Report}
use Rattle.grid.proofs.PlacesLaws.{cell_on}
use Rattle.grid.proofs.CurveLaws.{cell_of_its_number}
use Rattle.rows.specs.Phases.{reference_time, phase_of, is_live, live_phases, slot_of}
use Rattle.rows.proofs.PhasesLaws.{listed_live}
use Rattle.methods.specs.Aims.{aim_in}
use Rattle.methods.specs.Slots.{rows_of_slot}
use Rattle.methods.proofs.Methods.{choice_on, choice_once}
use Rattle.methods.proofs.Marks.{cell_of_mark, cells_counted}
use Rattle.records.specs.Words.{Words, time_in, records_in}
use Rattle.records.specs.Order.{key_in, slot_of_key, number_of_key, key_at}
use Rattle.reading.specs.Reading.{in_set, is_read, has_key}
use Rattle.records.specs.declared.Record.{Record}
use Rattle.records.proofs.OrderKeysLaws.{number_of-key_in}
use Rattle.records.proofs.SoundnessLaws.{Sound}
use Rattle.ledger.specs.Machine.{Held, place_in, listed_held, is_useful, useful_cells, summed}
use Rattle.ledger.proofs.MachineSummedLaws.{summed_same}
use Rattle.ledger.specs.declared.Ask.{Ask}
use Rattle.asking.specs.Asking.{choice_of, marks_in, listed_of, useful_counted}
use Rattle.asking.proofs.AskingPhasesLaws.{FitAsk, phase_of_record, is_inside, is_inside_in, float_at, listed_of-phase}
use Rattle.asking.proofs.CountedLaws.{useful_counted_are}
use Rattle.history.specs.EveryCall.{held_record, held_in}
use Rattle.history.proofs.UsefulCells.{useful-cells_are, useful_from, from_useful}

-- ---- keys and cells

key_number : (p : ℕ) (r : Report) (n : ℕ) → key_in p r ≡ pos (slot_of p * cells + n) → curve_number (place_in p r) ≡ n
unfolding key_in
key_number p r n e = let k = ap up e in omega arith

number_key : (p : ℕ) (r : Report) (n : ℕ) → curve_number (place_in p r) ≡ n → key_in p r ≡ pos (slot_of p * cells + n)
unfolding key_in
number_key p r n e = ap (λ (k : ℕ). pos (slot_of p * cells + k)) e

place_on : (p : ℕ) (r : Report) → OnGrid (place_in p r)
place_on p r = cell_on (x_at r (reference_time p)) (y_at r (reference_time p))

-- ---- the records inside, by key and by cell

module _ (w : Words) (sound : Sound w.store w.table) (ask : Ask) (fit : FitAsk (time_in w) ask.query) where
  abbrev query : Query
  query = ask.query

  abbrev listed : List Held
  listed = listed_held query (held_in w)

  abbrev inside_in : ℕ → List Record
  inside_in p = passing (is_inside_in (time_in w) query p) (records_in w)

  -- a record inside that has a key: it is held, placed in the phase, to be listed, and its cell has the key's number
  record HasThatKey (p n : ℕ) : Type 0 where
    r : Record
    among : Memᴰ r (records_in w)
    inside : is_inside query r ≡ true
    phase : phase_of_record (time_in w) r ≡ p
    number : curve_number (place_in p r.report) ≡ n

  that_key : (p n : ℕ) → has_key (key_at (slot_of p) n) (inside_in p) ≡ true → HasThatKey p n
  that_key p n h =
      let a = some_passes (λ (k : Record). eq_z k.key (key_at (slot_of p) n)) (inside_in p) h in
      let r = a.0 in
      let b = passing_in (is_inside_in (time_in w) query p) (records_in w) a.1 in
      let own = eqb-true (phase_of_record (time_in w) r) p (and_left (eqb (phase_of_record (time_in w) r) p) (is_inside query r) b.1) in
      let key : key_in p r.report ≡ key_at (slot_of p) n =
      ap (λ (k : ℕ). key_in k r.report) (sym own) ∙ sym (float_at w sound ask fit b.0).placed.key_is ∙ same_is r.key (key_at (slot_of p) n) a.2 in
      record {
        r = r;
        among = b.0;
        inside = and_right (eqb (phase_of_record (time_in w) r) p) (is_inside query r) b.1;
        phase = own;
        number = key_number p r.report n key;
      }

  -- a record inside has the key of a cell exactly where the cell is useful
  key_is_useful : (p : ℕ) (c : Cell) → OnGrid c → has_key (key_at (slot_of p) (curve_number c)) (inside_in p) ≡ is_useful p c listed
  key_is_useful p c on = same_truth _ _ there back
    where
      there : has_key (key_at (slot_of p) (curve_number c)) (inside_in p) ≡ true → is_useful p c listed ≡ true
      there h =
          let k = that_key p (curve_number c) h in
          let own = place_in p k.r.report in
          from_useful query p c (held_in w) (map-has (held_record (time_in w)) (records_in w) k.among) k.inside k.phase
          (sym (cell_of_its_number own (place_on p k.r.report)) ∙ ap cell_of_number k.number ∙ cell_of_its_number c on)

      back : is_useful p c listed ≡ true → has_key (key_at (slot_of p) (curve_number c)) (inside_in p) ≡ true
      back u =
          let a = useful_from query p c (held_in w) u in
          let b = map_in (held_record (time_in w)) (records_in w) a.1 in
          let r = b.0 in
          let same = b.2 in
          let phase : phase_of_record (time_in w) r ≡ p = sym (ap (λ (h : Held). h.phase) same) ∙ a.3 in
          let inside : is_inside query r ≡ true = sym (ap (λ (h : Held). is_inside query (record { key = r.key; report = h.report })) same) ∙ a.2 in
          let place : place_in p r.report ≡ c = sym (ap (λ (h : Held). place_in p h.report) same) ∙ a.4 in
          let key : r.key ≡ key_at (slot_of p) (curve_number c) =
          (float_at w sound ask fit b.1).placed.key_is ∙ ap (λ (k : ℕ). key_in k r.report) phase ∙ number_key p r.report (curve_number c) (ap curve_number place) in
          let test = and_true (eqb (phase_of_record (time_in w) r) p) (is_inside query r) (eq-eqb (phase_of_record (time_in w) r) p phase) inside in
          let m = passing_has (is_inside_in (time_in w) query p) (records_in w) b.1 test in
          passes_some (λ (k : Record). eq_z k.key (key_at (slot_of p) (curve_number c))) (inside_in p) {a = r} m (is_same r.key (key_at (slot_of p) (curve_number c)) key)

  -- the cell of a record inside is chosen: reading the chosen cells lists the record
  key_is_chosen : (p n : ℕ) → is_live (phase_of (time_in w)) p ≡ true → n < cells → has_key (key_at (slot_of p) n) (inside_in p) ≡ true → Memᴰ (cell_of_number n) (choice_of w ask p).cells
  key_is_chosen p n live below h =
      let marks = marks_in w ask p in
      let k = that_key p n h in
      let r = k.r in
      let test = and_true (eqb (phase_of_record (time_in w) r) p) (is_inside query r) (eq-eqb (phase_of_record (time_in w) r) p k.phase) k.inside in
      let m : Memᴰ r (listed_of w ask p) =
      rw (listed_of-phase w sound ask fit p live) (passing_has (is_inside_in (time_in w) query p) (records_in w) k.among test) in
      let read = (passing_in (is_read marks (slot_of p) (is_listed query)) (records_in w) m).1 in
      let slot = eqb (slot_of_key r.key) (slot_of p) in
      let set = in_set marks (number_of_key r.key) in
      let marked = and_right slot set (and_left (slot && set) (is_inside query r) read) in
      let number : number_of_key r.key ≡ n =
      ap number_of_key (float_at w sound ask fit k.among).placed.key_is ∙ ap (λ (i : ℕ). number_of_key (key_in i r.report)) k.phase ∙ number_of-key_in p r.report ∙ k.number in
      let c = cell_of_mark (choice_of w ask p).cells (number_of_key r.key) marked in
      let on = choice_on (up ask.method) (rows_of_slot w.table (slot_of p)) (aim_in p query) c.1 in
      mathlib.Core.List.Memᴰ.cast (ap cell_of_number (sym number ∙ c.2) ∙ cell_of_its_number c.0 on) c.1

  useful_in-phase : (p : ℕ) → is_live (phase_of (time_in w)) p ≡ true → counted (λ n. has_key (key_at (slot_of p) n) (inside_in p)) 0 cells ≡ useful_cells p listed (choice_of w ask p).cells
  useful_in-phase p live =
      let rows = rows_of_slot w.table (slot_of p) in
      let aim = aim_in p query in
      cells_counted (λ c. is_useful p c listed) (choice_once (up ask.method) rows aim) (λ c m. choice_on (up ask.method) rows aim m)
      (λ n. has_key (key_at (slot_of p) n) (inside_in p))
      (λ c m. key_is_useful p c (choice_on (up ask.method) rows aim m))
      (λ n below h. key_is_chosen p n live below h)
      ∙ sym (useful-cells_are p listed (choice_of w ask p).cells)

  pub useful_counted_lem : useful_counted w ask ≡ summed (λ p. useful_cells p listed (choice_of w ask p).cells) (live_phases (phase_of (time_in w)))
  useful_counted_lem =
      useful_counted_are w ask sound fit
      ∙ summed_same
      (λ p. counted (λ n. has_key (key_at (slot_of p) n) (inside_in p)) 0 cells)
      (λ p. useful_cells p listed (choice_of w ask p).cells)
      (live_phases (phase_of (time_in w)))
      (λ p m. useful_in-phase p (listed_live (phase_of (time_in w)) p m))
