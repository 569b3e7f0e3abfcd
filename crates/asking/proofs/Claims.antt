-- S3 of specs/Claims.antt, proved: over every sound store and table the ids that an ask finds are those of all held records inside, by rising number.
-- Assumes nothing.
use mathlib.Core.Path.{◌≡◌, refl, sym, ap, ◌∙◌}
use mathlib.Core.Bool.{Bool, true, false, ◌&&◌, not, cond}
use mathlib.Core.List.{List, [], ◌∷◌, map, Memᴰ}
use mathlib.Core.Logic.{⊎_elim}
use Prim.Native.Nat.{ℕ, suc, ◌<◌, ◌≤◌}
use native.Mathlib.Omega.{arith}
use lib.Dec.{eqb}
use lib.IntN.{ℤ}
use lib.ListN.{length, replicate, length-map}
use borrow.Author.Tests.{not-true, eq-eqb}
use Rattle.ints.specs.Whole.{eq_z}
use Rattle.ints.proofs.Parts.{true_false, equal_parts}
use Rattle.ints.proofs.Truth.{and_true, and_left, and_right}
use Rattle.ints.proofs.Same.{is_same}
use Rattle.ints.proofs.Lists.{passing, passing_in, passing_has, passes_some, map-has, map_in}
use Rattle.ints.proofs.Marks.{marked, marked_more, in_marked, marked_in}
use Rattle.ints.proofs.Rising.{same_rising}
use Rattle.grid.specs.Units.{last_id}
use Rattle.grid.specs.Reports.{is_listed}
use Rattle.rows.specs.Phases.{phase_of, live_phases, slot_of}
use Rattle.rows.proofs.PhasesLaws.{live_listed}
use Rattle.records.specs.Words.{Words, time_in, records_in}
use Rattle.ledger.specs.declared.Ask.{Ask}
use Rattle.grid.specs.declared.Query.{Query}
use Rattle.records.specs.Order.{slot_of_key, number_of_key, has_id}
use Rattle.records.specs.Soundness.{ids_distinct}
use Rattle.reading.specs.Reading.{in_set, is_read, with_ids}
use Rattle.sorting.specs.Ids.{rising_from}
use Rattle.records.specs.declared.Record.{Record}
use Rattle.records.proofs.SoundnessRangeLaws.{ranges}
use Rattle.records.proofs.SoundnessLaws.{SoundRecord, Sound, sound_parts}
use Rattle.sorting.proofs.IdsLaws.{rising_in, rising_has, rising_rises}
use Rattle.reading.proofs.ReadingLaws.{id_of, ids_marked}
use Rattle.ledger.specs.Machine.{put_in_order}
use Rattle.ledger.proofs.MachineIdsLaws.{in_order, in_order_in, in_order-has, in_order-length, Apart, empty, more, in_order-rising}
use Rattle.asking.specs.Asking.{marks_in, listed_of, found_in, phases_now, ids_needed, ids_found}
use Rattle.asking.specs.Claims.{ids_inside, ListIsExact}
use Rattle.asking.specs.Counted.{ids_listed}
use Rattle.asking.proofs.AskingPhasesLaws.{FitAsk, fit_ask, phase_of_record, is_inside, is_inside_in, float_at, listed_of-phase, needed_is}

-- ---- the ids inside

pub inside_is : (query : Query) (rs : List Record) → ids_inside query rs ≡ in_order (map id_of (passing (is_inside query) rs))
unfolding ids_inside in_order passing
inside_is query [] = refl
inside_is query (r ∷ rs) = go (is_inside query r) (inside_is query rs)
  where
    go :
        (b : Bool)
        → ids_inside query rs ≡ in_order (map id_of (passing (is_inside query) rs))
        → cond b (put_in_order (id_of r) (ids_inside query rs)) (ids_inside query rs) ≡ in_order (map id_of (cond b (r ∷ passing (is_inside query) rs) (passing (is_inside query) rs)))
    go true e = ap (put_in_order (id_of r)) e
    go false e = e

inside_length : (query : Query) (rs : List Record) → length (ids_inside query rs) ≡ length (passing (is_inside query) rs)
inside_length query rs =
    ap length (inside_is query rs)
    ∙ in_order-length (map id_of (passing (is_inside query) rs))
    ∙ length-map (passing (is_inside query) rs) id_of

-- two records in range with the same id as a number have the same id
same_id : (now : ℤ) {a b : Record} → SoundRecord now a → SoundRecord now b → id_of a ≡ id_of b → b.report.id ≡ a.report.id
same_id now {a} {b} f g e =
    let i = (ranges a.report f.in_range_lem).id in
    let j = (ranges b.report g.in_range_lem).id in
    equal_parts b.report.id a.report.id (sym e) (omega arith)

-- ids that differ as whole numbers differ as numbers
inside_apart : (now : ℤ) (f : Record → Bool) (rs : List Record) → ((r : Record) → Memᴰ r rs → SoundRecord now r) → ids_distinct rs ≡ true → Apart (map id_of (passing f rs))
unfolding ids_distinct passing
inside_apart now f [] sound h = empty
inside_apart now f (r ∷ rs) sound h =
    go (f r) (inside_apart now f rs (λ a m. sound a (mathlib.Core.List.Memᴰ.tail m)) (and_right (not (has_id r.report.id rs)) (ids_distinct rs) h))
  where
    alone : has_id r.report.id rs ≡ false
    alone = not-true (has_id r.report.id rs) (and_left (not (has_id r.report.id rs)) (ids_distinct rs) h)

    new : Memᴰ (id_of r) (map id_of (passing f rs)) → ⊥
    new m =
        let a = map_in id_of (passing f rs) m in
        let there = (passing_in f rs a.1).0 in
        let e = same_id now (sound r (mathlib.Core.List.Memᴰ.head refl)) (sound a.0 (mathlib.Core.List.Memᴰ.tail there)) a.2 in
        true_false
        (sym (passes_some (λ (k : Record). eq_z k.report.id r.report.id) rs there (is_same a.0.report.id r.report.id e))
        ∙ alone)

    go : (b : Bool) → Apart (map id_of (passing f rs)) → Apart (map id_of (cond b (r ∷ passing f rs) (passing f rs)))
    go true k = more new k
    go false k = k

-- ---- the ids found

module _ (w : Words) (ask : Ask) where
  pub found_is : (found ps : List ℕ) → found_in w ask found ps ≡ marked found (ids_listed w ask ps)
  unfolding found_in ids_listed marked
  found_is found [] = refl
  found_is found (p ∷ ps) =
      let here = listed_of w ask p in
      found_is (with_ids found here) ps
      ∙ ap (λ (marks : List ℕ). marked marks (ids_listed w ask ps)) (ids_marked found here)
      ∙ marked_more found (map id_of here) (ids_listed w ask ps)

  -- each is the id of a record inside
  found_inside : (ps : List ℕ) {n : ℕ} → Memᴰ n (ids_listed w ask ps) → Memᴰ n (map id_of (passing (is_inside ask.query) (records_in w)))
  unfolding ids_listed
  found_inside [] m = absurd (mathlib.Core.List.Memᴰ.not-nil m)
  found_inside (p ∷ ps) {n} m =
      ⊎_elim
      (λ k.
      let marks = marks_in w ask p in
      let test = is_read marks (slot_of p) (is_listed ask.query) in
      let a = map_in id_of (listed_of w ask p) k in
      let r = a.0 in
      let b = passing_in test (records_in w) a.1 in
      let read = eqb (slot_of_key r.key) (slot_of p) && in_set marks (number_of_key r.key) in
      mathlib.Core.List.Memᴰ.cast a.2 (map-has id_of (passing (is_inside ask.query) (records_in w))
      (passing_has (is_inside ask.query) (records_in w) b.0 (and_right read (is_inside ask.query r) b.1))))
      (λ k. found_inside ps k)
      (mathlib.Core.List.Memᴰ.append_cases (map id_of (listed_of w ask p)) m)

  found_has : (ps : List ℕ) (p : ℕ) → Memᴰ p ps → {r : Record} → Memᴰ r (listed_of w ask p) → Memᴰ (id_of r) (ids_listed w ask ps)
  unfolding ids_listed
  found_has [] p i m = absurd (mathlib.Core.List.Memᴰ.not-nil i)
  found_has (k ∷ ps) p i {r} m =
      ⊎_elim
      (λ (e : p ≡ k).
      mathlib.Core.List.Memᴰ.append_left (ids_listed w ask ps)
      (map-has id_of (listed_of w ask k) (rw e at m)))
      (λ j. mathlib.Core.List.Memᴰ.append_right (map id_of (listed_of w ask k)) (found_has ps p j m))
      (mathlib.Core.List.Memᴰ.cases_cons i)

  module _ (sound : Sound w.store w.table) (fit : FitAsk (time_in w) ask.query) where
    ids : List ℕ
    ids = ids_listed w ask (phases_now w ask)

    inside : List ℕ
    inside = map id_of (passing (is_inside ask.query) (records_in w))

    -- a record inside is listed in its own phase
    inside_found : {n : ℕ} → Memᴰ n inside → Memᴰ n ids
    unfolding ids inside
    inside_found {n} m =
        let a = map_in id_of (passing (is_inside ask.query) (records_in w)) m in
        let r = a.0 in
        let b = passing_in (is_inside ask.query) (records_in w) a.1 in
        let p = phase_of_record (time_in w) r in
        let live = (float_at w sound ask fit b.0).placed.live in
        let both : is_inside_in (time_in w) ask.query p r ≡ true = and_true (eqb p p) (is_inside ask.query r) (eq-eqb p p refl) b.1 in
        let there : Memᴰ r (listed_of w ask p) =
        rw (listed_of-phase w sound ask fit p live) (passing_has (is_inside_in (time_in w) ask.query p) (records_in w) b.0 both) in
        mathlib.Core.List.Memᴰ.cast a.2 (found_has (live_phases (phase_of (time_in w))) p (live_listed (phase_of (time_in w)) p live) there)

    inside_range : {n : ℕ} → Memᴰ n inside → (1 ≤ n) × (n ≤ last_id)
    unfolding inside
    inside_range m =
        let a = map_in id_of (passing (is_inside ask.query) (records_in w)) m in
        let b = passing_in (is_inside ask.query) (records_in w) a.1 in
        let range = (ranges a.0.report (float_at w sound ask fit b.0).in_range_lem).id in
        let e = a.2 in
        omega arith

    -- both are the strictly rising list of the ids inside
    both_rising : (k n : ℕ) → n < k → ((m : ℕ) → Memᴰ m inside → (1 ≤ m) × (m ≤ n)) → rising_from (found_in w ask (replicate k 0) (phases_now w ask)) 1 n ≡ in_order inside
    unfolding ids inside
    both_rising k n room range =
        let marks = marked (replicate k 0) ids in
        ap (λ (found : List ℕ). rising_from found 1 n) (found_is (replicate k 0) (phases_now w ask))
        ∙ same_rising (rising_rises marks 1 n)
        (in_order-rising (inside_apart (time_in w) (is_inside ask.query) (records_in w) (λ r m. float_at w sound ask fit m) sound.store.distinct))
        (λ m i. in_order-has inside (found_inside (phases_now w ask) (marked_in k ids m (rising_in marks 1 n i).2)))
        (λ m i.
        let j = in_order_in inside i in
        let r = range m j in
        rising_has marks 1 n m (omega arith) (omega arith) (in_marked k ids m (omega arith) (inside_found j)))

    found_exact : ids_found w ask ≡ in_order inside
    unfolding ids_found
    found_exact = both_rising (suc last_id) last_id (omega arith) (λ m i. inside_range i)

    pub found_is_inside : ids_found w ask ≡ ids_inside ask.query (records_in w)
    unfolding inside
    found_is_inside = found_exact ∙ sym (inside_is ask.query (records_in w))

    pub needed_is_inside : ids_needed w ask ≡ length (ids_inside ask.query (records_in w))
    needed_is_inside = needed_is w sound ask fit ∙ sym (inside_length ask.query (records_in w))

pub list_is_exact : ListIsExact
list_is_exact w sound ask time numbers =
    let parts = sound_parts w.store w.table sound in
    let fit = fit_ask (time_in w) ask time numbers in
    (found_is_inside w ask parts fit, needed_is_inside w ask parts fit)
