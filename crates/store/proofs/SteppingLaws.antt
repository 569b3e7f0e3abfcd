-- The records when the clock moves on: those that stay and those that are placed anew. What it keeps (their number, ranges, order and ids), and that it
-- makes no difference whether one record more is put in before or after. Who stays and who moves are any two tests until the last section.
-- Assumes nothing.
use mathlib.Core.Path.{◌≡◌, refl, sym, ap, ◌∙◌}
use mathlib.Core.Bool.{Bool, true, false, cond, ◌&&◌, ◌||◌, or_assoc, and-not_self, or-not_self}
use mathlib.Core.List.Memᴰ
use mathlib.Core.List.{List, [], ◌∷◌, map, Memᴰ}
use mathlib.Core.Logic.{⊎_elim}
use Prim.Native.Nat.{ℕ, suc, ◌+◌, ◌≤◌}
use native.Mathlib.Omega.{arith}
use lib.IntN.{ℤ}
use lib.ListN.{length, length-map}
use Rattle.ints.specs.Whole.{eq_z}
use Rattle.ints.specs.Lists.{passing, some, every}
use Rattle.ints.proofs.Parts.{true_false}
use Rattle.ints.proofs.Truth.{or_swap, or_both}
use Rattle.ints.proofs.Same.{same_comm}
use Rattle.ints.proofs.Lists.{map_in, passing_in, none_passes, passing_some, some_map, every_each, each_every}
use Rattle.grid.specs.declared.Report.{Report}
use Rattle.rows.specs.Phases.{phase_of}
use Rattle.records.specs.Order.{precedes, is_sorted, has_id}
use Rattle.records.specs.Soundness.{is_ranged, all_ranged, ids_distinct}
use Rattle.records.specs.declared.Record.{Record}
use Rattle.records.proofs.SoundnessRangeLaws.{ranged_parts, parts_ranged}
use Rattle.records.proofs.OrderKeysLaws.{key_in-below}
use Rattle.records.proofs.OrderLaws.{sorted_all, sorted_rest, sorted_cons, before_all, rest_other, first_alone, rest_distinct, distinct_cons}
use Rattle.store.specs.Inserting.{inserted, inserted_all}
use Rattle.store.specs.Stepping.{placed_in, lives_on, moves, replaced, moved_records}
use Rattle.store.proofs.InsertingLaws.{inserted_front, inserted_all_swap, all_length, all_every, has_all, all_sorted}

-- ---- of some records, those that pass a test

module _ (test : Record → Bool) where
  -- a record more that passes
  abbrev PassingOne : Record → List Record → Type 0
  PassingOne r rs = passing test (inserted r rs) ≡ inserted r (passing test rs)

  pub passing_one : (r : Record) (rs : List Record) → test r ≡ true → is_sorted rs ≡ true → PassingOne r rs
  unfolding passing inserted
  passing_one r [] e o = rw e
  passing_one r (a ∷ rs) e o = go (precedes r a) refl (passing_one r rs e (sorted_rest a rs o))
    where
      apart : precedes r a ≡ false → PassingOne r rs → (t : Bool)
          → cond t (a ∷ passing test (inserted r rs)) (passing test (inserted r rs)) ≡ inserted r (cond t (a ∷ passing test rs) (passing test rs))
      apart f k true = rw (f, k)
      apart f k false = k

      go : (t : Bool) → precedes r a ≡ t → PassingOne r rs → passing test (cond t (r ∷ a ∷ rs) (a ∷ inserted r rs)) ≡ inserted r (passing test (a ∷ rs))
      go true f k = rw e (sym (inserted_front r (passing test (a ∷ rs)) (λ x m. before_all r a rs f o x (passing_in test (a ∷ rs) m).0)))
      go false f k = apart f k (test a)

  -- one more that does not
  pub passing_other : (r : Record) (rs : List Record) → test r ≡ false → passing test (inserted r rs) ≡ passing test rs
  unfolding passing inserted
  passing_other r [] e = rw e
  passing_other r (a ∷ rs) e = go (precedes r a) (passing_other r rs e)
    where
      go : (t : Bool) → passing test (inserted r rs) ≡ passing test rs → passing test (cond t (r ∷ a ∷ rs) (a ∷ inserted r rs)) ≡ passing test (a ∷ rs)
      go true k = rw e
      go false k = rw k

  pub passing_sorted : (rs : List Record) → is_sorted rs ≡ true → is_sorted (passing test rs) ≡ true
  unfolding passing
  passing_sorted [] h = h
  passing_sorted (a ∷ rs) h = go (test a) (passing_sorted rs (sorted_rest a rs h))
    where
      go : (b : Bool) → is_sorted (passing test rs) ≡ true → is_sorted (cond b (a ∷ passing test rs) (passing test rs)) ≡ true
      go true i = sorted_cons a (passing test rs) (λ x m. sorted_all a rs h (passing_in test rs m).0) i
      go false i = i

  pub passing_distinct : (rs : List Record) → ids_distinct rs ≡ true → ids_distinct (passing test rs) ≡ true
  unfolding passing
  passing_distinct [] h = h
  passing_distinct (a ∷ rs) h = go (test a) (passing_distinct rs (rest_distinct a rs h))
    where
      go : (b : Bool) → ids_distinct (passing test rs) ≡ true → ids_distinct (cond b (a ∷ passing test rs) (passing test rs)) ≡ true
      go true i =
          distinct_cons a (passing test rs) (passing_some (λ r. eq_z r.report.id a.report.id) test rs (first_alone a rs h)) i
      go false i = i

-- ---- placed anew

-- a record has the id that it had
has_anew : (p : ℕ) (id : ℤ) (rs : List Record) → has_id id (map (λ r. placed_in p r.report) rs) ≡ has_id id rs
has_anew p id rs = some_map (λ r. eq_z r.report.id id) (λ r. placed_in p r.report) rs

anew_distinct : (p : ℕ) (rs : List Record) → ids_distinct rs ≡ true → ids_distinct (map (λ r. placed_in p r.report) rs) ≡ true
anew_distinct p [] h = h
anew_distinct p (a ∷ rs) h =
    distinct_cons (placed_in p a.report) (map (λ r. placed_in p r.report) rs)
    (has_anew p a.report.id rs ∙ first_alone a rs h)
    (anew_distinct p rs (rest_distinct a rs h))

pub placed_ranged : (p : ℕ) (r : Record) → is_ranged r ≡ true → is_ranged (placed_in p r.report) ≡ true
placed_ranged p r h =
    let g = ranged_parts r h in
    parts_ranged (placed_in p r.report) (record { report = g.report; time = g.time; key = key_in-below p r.report })

module _ (p : ℕ) (moving : Record → Bool) where
  pub replaced_from : {x : Record} (rs : List Record) → Memᴰ x (replaced p moving rs) → (r : Record) × Memᴰ r rs × (x ≡ placed_in p r.report)
  replaced_from rs m =
      let a = map_in (λ r. placed_in p r.report) (passing moving rs) m in
      (a.0, (passing_in moving rs a.1).0, a.2)

  pub has_replaced : (id : ℤ) (rs : List Record) → has_id id rs ≡ false → has_id id (replaced p moving rs) ≡ false
  has_replaced id rs n = has_anew p id (passing moving rs) ∙ passing_some (λ r. eq_z r.report.id id) moving rs n

  -- a record more that moves
  abbrev ReplacedOne : Record → List Record → List Record → Type 0
  ReplacedOne r more into =
      inserted_all (replaced p moving (inserted r more)) into ≡ inserted (placed_in p r.report) (inserted_all (replaced p moving more) into)

  replaced_one : (r : Record) (rs into : List Record) → moving r ≡ true → has_id r.report.id rs ≡ false → ReplacedOne r rs into
  unfolding passing inserted inserted_all
  replaced_one r [] into e n = rw e
  replaced_one r (a ∷ rs) into e n = go (precedes r a) (λ l. replaced_one r rs l e (rest_other r.report.id a rs n))
    where
      new : Record
      new = placed_in p r.report

      put : Bool → List Record → List Record
      put t more = inserted_all (map (λ x. placed_in p x.report) (cond t (a ∷ passing moving more) (passing moving more))) into

      apart : ((l : List Record) → ReplacedOne r rs l) → (t : Bool) → put t (inserted r rs) ≡ inserted new (put t rs)
      apart k true = k (inserted (placed_in p a.report) into)
      apart k false = k into

      go : (t : Bool) → ((l : List Record) → ReplacedOne r rs l)
          → inserted_all (replaced p moving (cond t (r ∷ a ∷ rs) (a ∷ inserted r rs))) into ≡ inserted new (inserted_all (replaced p moving (a ∷ rs)) into)
      go true k = rw e (inserted_all_swap new (replaced p moving (a ∷ rs)) into (has_replaced r.report.id (a ∷ rs) n))
      go false k = apart k (moving a)

-- ---- a step

module _ (p : ℕ) (staying moving : Record → Bool) where
  -- those that stay, and among them those that move, placed in phase p
  abbrev pub moved_by : List Record → List Record
  moved_by rs = inserted_all (replaced p moving rs) (passing staying rs)

  -- the step of a list and one record more, which stays or moves
  pub moved_kept : (r : Record) (rs : List Record) → staying r ≡ true → moving r ≡ false → has_id r.report.id rs ≡ false → is_sorted rs ≡ true
      → moved_by (inserted r rs) ≡ inserted r (moved_by rs)
  moved_kept r rs e f n o =
      ap (λ (l : List Record). inserted_all (map (λ x. placed_in p x.report) l) (passing staying (inserted r rs))) (passing_other moving r rs f)
      ∙ ap (inserted_all (replaced p moving rs)) (passing_one staying r rs e o)
      ∙ inserted_all_swap r (replaced p moving rs) (passing staying rs) (has_replaced p moving r.report.id rs n)

  pub moved_replaced : (r : Record) (rs : List Record) → staying r ≡ false → moving r ≡ true → has_id r.report.id rs ≡ false
      → moved_by (inserted r rs) ≡ inserted (placed_in p r.report) (moved_by rs)
  moved_replaced r rs e f n =
      ap (inserted_all (replaced p moving (inserted r rs))) (passing_other staying r rs e)
      ∙ replaced_one p moving r rs (passing staying rs) f n

module _ (staying moving : Record → Bool) where
  -- nobody both stays and moves
  abbrev pub NotBoth : Type 0
  NotBoth = (r : Record) → staying r && moving r ≡ false

  -- everyone does one of the two: nobody leaves. Only that nobody comes or goes in a step rests on it
  abbrev pub NoneLeaves : Type 0
  NoneLeaves = (r : Record) → staying r || moving r ≡ true

  step_few : NotBoth → (rs : List Record) → length (passing moving rs) + length (passing staying rs) ≤ length rs
  unfolding passing
  step_few n [] = omega arith
  step_few n (a ∷ rs) = go (staying a) (moving a) (n a) (step_few n rs)
    where
      ms : List Record
      ms = passing moving rs

      ss : List Record
      ss = passing staying rs

      go : (s m : Bool) → s && m ≡ false → length ms + length ss ≤ length rs → length (cond m (a ∷ ms) ms) + length (cond s (a ∷ ss) ss) ≤ suc (length rs)
      go true true e i = absurd (true_false e)
      go true false e i = omega arith
      go false true e i = omega arith
      go false false e i = omega arith

  step_whole : NoneLeaves → (rs : List Record) → length rs ≤ length (passing moving rs) + length (passing staying rs)
  unfolding passing
  step_whole n [] = omega arith
  step_whole n (a ∷ rs) = go (staying a) (moving a) (n a) (step_whole n rs)
    where
      ms : List Record
      ms = passing moving rs

      ss : List Record
      ss = passing staying rs

      go : (s m : Bool) → s || m ≡ true → length rs ≤ length ms + length ss → suc (length rs) ≤ length (cond m (a ∷ ms) ms) + length (cond s (a ∷ ss) ss)
      go true true e i = omega arith
      go true false e i = omega arith
      go false true e i = omega arith
      go false false e i = absurd (true_false (sym e))

  has_step : NoneLeaves → (id : ℤ) (rs : List Record) → has_id id (passing moving rs) || has_id id (passing staying rs) ≡ has_id id rs
  unfolding passing some
  has_step n id [] = refl
  has_step n id (a ∷ rs) = go (staying a) (moving a) (n a) (has_step n id rs)
    where
      ms : List Record
      ms = passing moving rs

      ss : List Record
      ss = passing staying rs

      here : Bool
      here = eq_z a.report.id id

      go : (s m : Bool) → s || m ≡ true → has_id id ms || has_id id ss ≡ has_id id rs → has_id id (cond m (a ∷ ms) ms) || has_id id (cond s (a ∷ ss) ss) ≡ here || has_id id rs
      go true true e i = or_both here (has_id id ms) (has_id id ss) ∙ ap (λ (b : Bool). here || b) i
      go true false e i = or_swap (has_id id ms) here (has_id id ss) ∙ ap (λ (b : Bool). here || b) i
      go false true e i = or_assoc here (has_id id ms) (has_id id ss) ∙ ap (λ (b : Bool). here || b) i
      go false false e i = absurd (true_false (sym e))

  -- one that moves is none of those that stay
  abbrev StepApart : List Record → Type 0
  StepApart rs = (d : Record) → Memᴰ d (passing moving rs) → has_id d.report.id (passing staying rs) ≡ false

  step_apart : NotBoth → (rs : List Record) → ids_distinct rs ≡ true → StepApart rs
  unfolding passing some
  step_apart n [] h d m = refl
  step_apart n (a ∷ rs) h d m = go (staying a) (moving a) (n a) (step_apart n rs (rest_distinct a rs h)) m
    where
      id : ℤ
      id = a.report.id

      alone : has_id id rs ≡ false
      alone = first_alone a rs h

      other : Memᴰ d (passing moving rs) → eq_z id d.report.id ≡ false
      other k = same_comm id d.report.id ∙ none_passes (λ r. eq_z r.report.id id) rs alone (passing_in moving rs k).0

      go : (s m : Bool) → s && m ≡ false → StepApart rs → Memᴰ d (cond m (a ∷ passing moving rs) (passing moving rs))
          → has_id d.report.id (cond s (a ∷ passing staying rs) (passing staying rs)) ≡ false
      go true true e i k = absurd (true_false e)
      go true false e i k = rw (other k, i d k)
      go false true e i k =
          ⊎_elim
          (λ q. ap (λ (x : Record). has_id x.report.id (passing staying rs)) q ∙ passing_some (λ r. eq_z r.report.id id) staying rs alone)
          (i d)
          (Memᴰ.cases_cons k)
      go false false e i k = i d k

module _ (p : ℕ) (staying moving : Record → Bool) where
  -- no more than there were, and as many where nobody leaves
  pub by_few : NotBoth staying moving → (rs : List Record) → length (replaced p moving rs) + length (passing staying rs) ≤ length rs
  by_few n rs = let e = length-map (passing moving rs) (λ r. placed_in p r.report) in omega (arith, e, step_few staying moving n rs)

  pub by_length : NotBoth staying moving → (rs : List Record) → length (moved_by p staying moving rs) ≤ length rs
  by_length n rs = omega (arith, all_length (replaced p moving rs) (passing staying rs), by_few n rs)

  pub by_whole : NotBoth staying moving → NoneLeaves staying moving → (rs : List Record) → length (moved_by p staying moving rs) ≡ length rs
  by_whole n w rs =
      let e = length-map (passing moving rs) (λ r. placed_in p r.report) in
      omega (arith, e, all_length (replaced p moving rs) (passing staying rs), step_few staying moving n rs, step_whole staying moving w rs)

  pub by_ranged : (rs : List Record) → all_ranged rs ≡ true → all_ranged (moved_by p staying moving rs) ≡ true
  by_ranged rs h =
      all_every is_ranged (replaced p moving rs) (passing staying rs)
      (each_every is_ranged (replaced p moving rs) (λ x m.
      let from = replaced_from p moving rs m in
      ap is_ranged from.2 ∙ placed_ranged p from.0 (every_each is_ranged rs h from.1)))
      (each_every is_ranged (passing staying rs) (λ x m. every_each is_ranged rs h (passing_in staying rs m).0))

  -- what holds of all reports holds of them then
  pub by_reports : (f : Report → Bool) (rs : List Record) → every (λ r. f r.report) rs ≡ true → every (λ r. f r.report) (moved_by p staying moving rs) ≡ true
  by_reports f rs h =
      all_every (λ r. f r.report) (replaced p moving rs) (passing staying rs)
      (each_every (λ r. f r.report) (replaced p moving rs) (λ x m.
      let from = replaced_from p moving rs m in
      ap (λ (r : Record). f r.report) from.2 ∙ every_each (λ r. f r.report) rs h from.1))
      (each_every (λ r. f r.report) (passing staying rs) (λ x m. every_each (λ r. f r.report) rs h (passing_in staying rs m).0))

  -- where nobody leaves, a step keeps the ids
  pub by_has : NoneLeaves staying moving → (id : ℤ) (rs : List Record) → has_id id (moved_by p staying moving rs) ≡ has_id id rs
  by_has n id rs =
      has_all id (replaced p moving rs) (passing staying rs)
      ∙ ap (λ (b : Bool). b || has_id id (passing staying rs)) (has_anew p id (passing moving rs))
      ∙ has_step staying moving n id rs

  -- a step keeps the order
  pub by_sorted : NotBoth staying moving → (rs : List Record) → is_sorted rs ≡ true → ids_distinct rs ≡ true → is_sorted (moved_by p staying moving rs) ≡ true
  by_sorted n rs s h =
      all_sorted (replaced p moving rs) (passing staying rs)
      (record {
        distinct = anew_distinct p (passing moving rs) (passing_distinct moving rs h);
        others = λ d m.
            let from = map_in (λ r. placed_in p r.report) (passing moving rs) m in
            ap (λ (x : Record). has_id x.report.id (passing staying rs)) from.2 ∙ step_apart staying moving n rs h from.0 from.1;
      })
      (passing_sorted staying rs s)

-- ---- a store's records when the clock moves on

module _ (now time : ℤ) where
  not_both : NotBoth (lives_on now time) (moves now time)
  not_both r = and-not_self (lives_on now time r)

  -- nobody leaves: a record stays as it is or moves
  none_leaves : NoneLeaves (lives_on now time) (moves now time)
  none_leaves r = or-not_self (lives_on now time r)

  pub halves_few : (rs : List Record) → length (replaced (phase_of time) (moves now time) rs) + length (passing (lives_on now time) rs) ≤ length rs
  halves_few = by_few (phase_of time) (lives_on now time) (moves now time) not_both

  pub moved_few : (rs : List Record) → length (moved_records now time rs) ≤ length rs
  unfolding moved_records
  moved_few = by_length (phase_of time) (lives_on now time) (moves now time) not_both

  pub moved_ranged : (rs : List Record) → all_ranged rs ≡ true → all_ranged (moved_records now time rs) ≡ true
  unfolding moved_records
  moved_ranged = by_ranged (phase_of time) (lives_on now time) (moves now time)

  pub moved_sorted : (rs : List Record) → is_sorted rs ≡ true → ids_distinct rs ≡ true → is_sorted (moved_records now time rs) ≡ true
  unfolding moved_records
  moved_sorted = by_sorted (phase_of time) (lives_on now time) (moves now time) not_both

  pub moved_reports : (f : Report → Bool) (rs : List Record) → every (λ r. f r.report) rs ≡ true → every (λ r. f r.report) (moved_records now time rs) ≡ true
  unfolding moved_records
  moved_reports = by_reports (phase_of time) (lives_on now time) (moves now time)

  -- nobody comes or goes
  pub moved_length : (rs : List Record) → length (moved_records now time rs) ≡ length rs
  unfolding moved_records
  moved_length = by_whole (phase_of time) (lives_on now time) (moves now time) not_both none_leaves

  pub has_moved : (id : ℤ) (rs : List Record) → has_id id (moved_records now time rs) ≡ has_id id rs
  unfolding moved_records
  has_moved = by_has (phase_of time) (lives_on now time) (moves now time) none_leaves
