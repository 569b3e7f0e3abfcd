-- The laws of the words when floats of dead phases are placed anew: those taken out in one pass, and the two halves of it.
-- Assumes nothing.
use mathlib.Core.Path.{◌≡◌, refl, sym, ap, ◌∙◌}
use mathlib.Core.Bool.{Bool, true, false}
use mathlib.Core.List.{List, [], ◌∷◌, ◌++◌, map, append_assoc}
use Prim.Native.Nat.{ℕ, ◌+◌, ◌-◌, ◌*◌, ◌≤◌, ◌<◌}
use native.Mathlib.Omega.{arith}
use lib.IntN.{ℤ}
use lib.ListN.{length, take, drop, length-append, length-take, length-drop}
use lib.Seq.{take_at, length-take-le}
use Rattle.ints.specs.Lists.{passing, every}
use Rattle.ints.proofs.Truth.{and_true, and_left, and_right}
use Rattle.ints.proofs.Lists.{map-append}
use Rattle.grid.specs.Units.{capacity}
use Rattle.rows.specs.Phases.{phase_of, last_phase}
use Rattle.rows.specs.Table.{table_words}
use Rattle.records.specs.Records.{record_words, record_from, now_of, held_of, read_records, records_of, words_of, words_of_all, store_of, float_words, all_records}
use Rattle.records.specs.Soundness.{is_ranged, all_ranged, IsStore}
use Rattle.store.specs.Inserting.{inserted_all}
use Rattle.store.specs.Widening.{widened_by_all}
use Rattle.store.specs.Stepping.{placed_in, lives_on, moves, replaced, moved_records}
use Rattle.records.specs.Places.{HasWords}
use Rattle.store.specs.Needs.{IsStep, KeptFirst, Taken, PlaceAsked}
use Rattle.records.specs.declared.Record.{Record}
use Rattle.store.specs.declared.stepping.Step.{Step}
use Rattle.records.proofs.RecordsLaws.{words_length, read_back, now_of-store, records_of-store, read_length, written_read}
use Rattle.records.proofs.SoundnessRangeLaws.{last_phase_lem}
use Rattle.store.proofs.WritingLaws.{words_append}
use Rattle.store.proofs.WritingKeptLaws.{Keeping, keeping_start, now_ranged, passes, fails, keeping_stays, keeping_goes, all_seen, keeping_end}
use Rattle.store.proofs.SortingListsLaws.{all_none}
use Rattle.store.proofs.SortingLaws.{read_part}
use Rattle.store.proofs.SteppingLaws.{placed_ranged, halves_few}

-- ---- the phases of a step are those of a time

pub from_small : (step : Step) → IsStep step → step.from ≤ last_phase
from_small step i = omega (arith, i.from_is, last_phase_lem step.now i.is_now)

pub to_small : (step : Step) → IsStep step → step.to ≤ last_phase
to_small step i = omega (arith, i.to_is, last_phase_lem step.time i.is_time_lem)

-- a store with some records
module _ (now : ℤ) (rs : List Record) (s : List ℤ) (e : s ≡ store_of now rs) where
  pub now_is : now_of s ≡ now
  now_is = ap now_of e ∙ now_of-store now rs

  pub records_are : records_of s ≡ rs
  records_are = ap records_of e ∙ records_of-store now rs

  pub words_of_lem : length rs ≤ capacity → HasWords s
  words_of_lem h =
      let n : length (records_of s) ≡ length rs = ap length records_are in
      record { words = e ∙ (λ i. store_of (sym now_is i) (sym records_are i)); few = omega arith }

ranged_append : (xs ys : List Record) → all_ranged xs ≡ true → all_ranged ys ≡ true → all_ranged (xs ++ ys) ≡ true
unfolding every
ranged_append [] ys h k = k
ranged_append (x ∷ xs) ys h k =
    and_true (is_ranged x) (all_ranged (xs ++ ys)) (and_left (is_ranged x) (all_ranged xs) h) (ranged_append xs ys (and_right (is_ranged x) (all_ranged xs) h) k)

-- one more record written after m records
read_next :
    (m : ℕ) (w w' : List ℤ) (a : Record)
    → record_words * m + record_words ≤ length w
    → w' ≡ take (record_words * m) w ++ (words_of a ++ drop (record_words * m + record_words) w)
    → read_records (m + 1) w' ≡ read_records m w ++ (a ∷ [])
unfolding words_of_all
read_next m w w' a h e =
    let rs = read_records m w in
    let rest = drop (record_words * m + record_words) w in
    let n : length rs ≡ m = read_length m w in
    let l : length (words_of_all rs) ≡ record_words * m = words_length rs ∙ ap (λ (j : ℕ). record_words * j) n in
    let front : take (record_words * m) w ≡ words_of_all rs =
    ap (take (record_words * m)) (sym (written_read m w (omega arith))) ∙ take_at (words_of_all rs) (drop (record_words * m) w) (record_words * m) l in
    let all : w' ≡ words_of_all (rs ++ (a ∷ [])) ++ rest =
    e
    ∙ ap (λ (x : List ℤ). x ++ (words_of a ++ rest)) front
    ∙ sym (append_assoc (words_of_all rs) (words_of a) rest)
    ∙ ap (λ (x : List ℤ). x ++ rest) (sym (words_append rs (a ∷ []))) in
    let k : m + 1 ≡ length (rs ++ (a ∷ [])) = rw (length-append, n) in
    ap (read_records (m + 1)) all ∙ read_back (m + 1) (rs ++ (a ∷ [])) rest k

-- ---- the records that move taken out in one pass

-- after i records, k of them kept, those that move are written to the other words, placed anew
pub record Pass (s₀ : List ℤ) (to : ℕ) (staying moving : Record → Bool) (n : ℕ) (s dead : List ℤ) (k i : ℕ) : Type 0 where
  pub keeping : Keeping s₀ staying n s k i
  pub long_dead : length dead ≡ float_words
  pub dead_are : read_records (i - k) dead ≡ replaced to moving (take i (records_of s₀))
  pub dead_ranged : all_ranged (read_records (i - k) dead) ≡ true

pub pass_start : (s dead : List ℤ) (to : ℕ) (staying moving : Record → Bool) (n : ℕ) → IsStore s → n ≡ held_of s → length dead ≡ float_words
    → Pass s to staying moving n s dead 0 0
unfolding read_records every passing
pass_start s dead to staying moving n q e l =
    record { keeping = keeping_start s staying n q e; long_dead = l; dead_are = refl; dead_ranged = refl }

module _ (s₀ : List ℤ) (to : ℕ) (staying moving : Record → Bool) (n : ℕ) (s dead : List ℤ) (k i : ℕ) (p : Pass s₀ to staying moving n s dead k i) (h : i < n)
    (r : Record) (er : r ≡ record_from s (record_words * i + record_words)) where
  abbrev anew : Record → Record
  anew x = placed_in to x.report

  pub pass_live : staying r ≡ true → moving r ≡ false → (s' : List ℤ)
      → s' ≡ take (record_words * k + record_words) s ++ (words_of r ++ drop (record_words * k + record_words + record_words) s)
      → Pass s₀ to staying moving n s' dead (k + 1) (i + 1)
  pass_live stay rest s' es =
      let fewer : i + 1 - (k + 1) ≡ i - k = omega arith in
      let same : replaced to moving (take (i + 1) (records_of s₀)) ≡ replaced to moving (take i (records_of s₀)) =
      ap (map anew) (fails s₀ staying n s k i p.keeping h r er moving rest) in
      record {
        keeping = keeping_stays s₀ staying n s k i p.keeping h r er stay s' es;
        long_dead = p.long_dead;
        dead_are = ap (λ (j : ℕ). read_records j dead) fewer ∙ p.dead_are ∙ sym same;
        dead_ranged = rw fewer p.dead_ranged;
      }

  pub pass_dead : staying r ≡ false → moving r ≡ true → (a : Record) → a ≡ placed_in to r.report → (dead' : List ℤ)
      → dead' ≡ take (record_words * (i - k)) dead ++ (words_of a ++ drop (record_words * (i - k) + record_words) dead)
      → Pass s₀ to staying moving n s dead' k (i + 1)
  unfolding passing every
  pass_dead rest move a ea dead' ed =
      let rs = records_of s₀ in
      let m = i - k in
      let f0 = p.keeping.few in
      let k0 = p.keeping.closer in
      let l0 = p.long_dead in
      let more : replaced to moving (take (i + 1) rs) ≡ replaced to moving (take i rs) ++ (a ∷ []) =
      ap (map anew) (passes s₀ staying n s k i p.keeping h r er moving move)
      ∙ map-append anew (passing moving (take i rs)) (r ∷ [])
      ∙ ap (λ (x : Record). replaced to moving (take i rs) ++ (x ∷ [])) (sym ea) in
      let next : read_records (m + 1) dead' ≡ read_records m dead ++ (a ∷ []) = read_next m dead dead' a (omega arith) ed in
      let em : i + 1 - k ≡ m + 1 = omega arith in
      let ra : is_ranged a ≡ true = rw ea (placed_ranged to r (now_ranged s₀ staying n s k i p.keeping h r er)) in
      let rd : all_ranged (read_records m dead ++ (a ∷ [])) ≡ true = ranged_append (read_records m dead) (a ∷ []) p.dead_ranged (and_true (is_ranged a) true ra refl) in
      record {
        keeping = keeping_goes s₀ staying n s k i p.keeping h r er rest;
        long_dead = ap length ed ∙ simp (length-append, length-take, length-drop) (omega arith);
        dead_are = ap (λ (j : ℕ). read_records j dead') em ∙ next ∙ ap (λ (l : List Record). l ++ (a ∷ [])) p.dead_are ∙ sym more;
        dead_ranged = rw (em, next) rd;
      }

pub pass_end : (s₀ : List ℤ) (to : ℕ) (staying moving : Record → Bool) (n : ℕ) (s dead : List ℤ) (k i : ℕ)
    → Pass s₀ to staying moving n s dead k i → n ≤ i → (KeptFirst staying s₀ k s) × (Taken to moving (records_of s₀) (held_of s₀ - k) dead)
pass_end s₀ to staying moving n s dead k i p h =
    let seen = all_seen s₀ staying n s k i p.keeping h in
    let e = seen.1 in
    let f0 = p.keeping.few in
    let i0 = p.keeping.inside in
    let l0 = p.long_dead in (
      keeping_end s₀ staying n s k i p.keeping h,
      record {
        dead_are = rw (← e) (p.dead_are ∙ ap (replaced to moving) seen.0);
        inside = omega arith;
        ranged = rw (← e) p.dead_ranged;
      },
    )

-- ---- the two halves of a step

inserted_none : (rs : List Record) → inserted_all [] rs ≡ rs
unfolding inserted_all
inserted_none rs = refl

-- nothing to place
pub none_stored : (s dead : List ℤ) → HasWords s → length dead ≡ 0 → s ≡ store_of (now_of s) (inserted_all (all_records dead) (records_of s))
none_stored s dead q e =
    q.words ∙ ap (store_of (now_of s)) (sym (ap (λ (l : List Record). inserted_all l (records_of s)) (all_none dead e) ∙ inserted_none (records_of s)))

module _ (s₀ s dead : List ℤ) (now time : ℤ) (m : ℕ) (es : s ≡ store_of (now_of s₀) (passing (lives_on now time) (records_of s₀)))
    (k : Taken (phase_of time) (moves now time) (records_of s₀) m dead) where
  left : List Record
  left = passing (lives_on now time) (records_of s₀)

  -- the part of the words to which they are written
  abbrev pub part : List ℤ
  part = take (record_words * m) dead

  pub step_asks : (table : List ℤ) → IsStore s₀ → length table ≡ table_words → PlaceAsked s table part
  unfolding left
  step_asks table q l =
      let f = q.few in
      let a = halves_few now time (records_of s₀) in
      let b : m ≡ length (replaced (phase_of time) (moves now time) (records_of s₀)) = sym (read_length m dead) ∙ ap length k.dead_are in
      let n : length (records_of s) ≡ length left = ap length (records_are (now_of s₀) left s es) in
      let long : length part ≡ record_words * m = length-take-le (record_words * m) dead k.inside in
      record {
        put_all = record { store = words_of_lem (now_of s₀) left s es (omega arith); whole = omega arith; total = omega arith };
        widen_all = record { table_long = l; whole = omega arith; ranged = ap all_ranged (read_part m dead k.inside) ∙ k.ranged };
      }

  pub step_stored : (s' : List ℤ) → s' ≡ store_of (now_of s) (inserted_all (all_records part) (records_of s)) → s' ≡ store_of (now_of s₀) (moved_records now time (records_of s₀))
  unfolding left moved_records
  step_stored s' e =
      let put = read_part m dead k.inside ∙ k.dead_are in
      e ∙ (λ i. store_of (now_is (now_of s₀) left s es i) (inserted_all (put i) (records_are (now_of s₀) left s es i)))

pub step_widened : (table table' dead : List ℤ) (to : ℕ) (moving : Record → Bool) (m : ℕ) (rs : List Record) → Taken to moving rs m dead
    → table' ≡ widened_by_all table (all_records (take (record_words * m) dead)) → table' ≡ widened_by_all table (replaced to moving rs)
step_widened table table' dead to moving m rs k e = e ∙ ap (widened_by_all table) (read_part m dead k.inside ∙ k.dead_are)
