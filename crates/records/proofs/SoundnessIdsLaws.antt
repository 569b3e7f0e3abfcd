-- Marks, one for each id, say which ids have been seen: the ids of all records differ exactly when none of those left is marked
-- and those left differ.
-- Assumes nothing.
use mathlib.Core.Path.{◌≡◌, refl, sym, ap, ◌∙◌}
use mathlib.Core.Bool.{Bool, true, false, ◌&&◌, not, and_assoc, and-false}
use mathlib.Core.List.{List, [], ◌∷◌, ◌++◌}
use mathlib.Core.Logic.{dite}
use Prim.Native.Nat.{ℕ, ◌/◌, ◌<◌}
use native.Mathlib.Decide.{ℕ_discrete}
use native.Mathlib.Omega.{arith}
use lib.IntN.{ℤ, nat_abs}
use mir.Syntax.{w32}
use mir.Val.{SFits, of_z, to_z}
use Rattle.std.proofs.lemmas.Int.{to_z-of_z}
use lib.ListN.{length, replicate}
use Rattle.ints.specs.Lists.{some, every}
use Rattle.ints.specs.Whole.{up, down, eq_z}
use Rattle.ints.proofs.Parts.{abs, equal_parts}
use Rattle.ints.proofs.Truth.{and_left, and_right}
use Rattle.ints.proofs.Same.{is_same, not_same}
use Rattle.records.specs.Order.{has_id}
use Rattle.records.specs.Soundness.{ids_distinct, is_ranged, all_ranged}
use Rattle.records.specs.Needs.{mark_bytes, is_marked, with_mark}
use Rattle.records.proofs.SoundnessMarksLaws.{none_marked_lem, mark_set, mark_kept}
use Rattle.records.specs.declared.Record.{Record}
use Rattle.records.proofs.SoundnessRangeLaws.{From, from_between, id_from}
use Rattle.records.proofs.RecordsTurnLaws.{next_record, ranged_here}
use Rattle.records.specs.Records.{record_words, record_from, all_records}
use Rattle.grid.specs.Units.{last_id}
use Rattle.grid.specs.Reports.{is_id}

unfoldable pub none_marked : List ℕ → List Record → Bool
none_marked marks [] = true
none_marked marks (r ∷ rs) = not (is_marked marks (up r.report.id)) && none_marked marks rs

-- what is left to show of the records left
abbrev pub still_distinct : List ℕ → List Record → Bool
still_distinct marks rs = none_marked marks rs && ids_distinct rs

-- ---- no mark yet

pub none_yet : (m : ℕ) (rs : List Record) → none_marked (replicate m 0) rs ≡ true
unfolding none_marked
none_yet m [] = refl
none_yet m (r ∷ rs) = simp (none_marked_lem m (up r.report.id)) (none_yet m rs)

-- ---- one more mark: an id of those left is marked where it was, or is the new one

module _ (marks : List ℕ) (id : ℤ) (whole : down id ≡ 0) (fits : up id / 8 < length marks) where
  same_id : (a : ℤ) → down a ≡ 0 → up a ≡ up id → eq_z a id ≡ true
  same_id a w e = is_same a id (equal_parts a id e (omega arith))

  other_id : (a : ℤ) → (up a ≡ up id → ⊥) → eq_z a id ≡ false
  other_id a n = not_same a id (λ e. n (ap up e))

  pub one_more : (rs : List Record) → all_ranged rs ≡ true → none_marked (with_mark marks (up id)) rs ≡ none_marked marks rs && not (has_id id rs)
  unfolding none_marked some every
  one_more [] h = refl
  one_more (r ∷ rs) h =
      let a = r.report.id in
      let later = one_more rs (and_right (is_ranged r) (all_ranged rs) h) in
      let ranged = and_left (is_ranged r) (all_ranged rs) h in
      let f = id_from r ranged in
      dite (ℕ_discrete (up a) (up id))
      (λ e.
      let marked : is_marked (with_mark marks (up id)) (up a) ≡ true = rw e (mark_set marks (up id) fits) in
      simp (marked, same_id a f.whole e, and-false))
      (λ n.
      let as_before : is_marked (with_mark marks (up id)) (up a) ≡ is_marked marks (up a) = mark_kept marks (up id) fits (up a) n in
      simp (as_before, other_id a n, later, and_assoc))

-- ---- a turn

-- a turn of the loop over the records of some words: r: the record of this turn; later: those after it
pub record IdTurn (r : Record) (rs later : List Record) : Type 0 where
  pub next : rs ≡ r ∷ later
  pub ranged : is_ranged r ≡ true
  pub rest : all_ranged later ≡ true
  pub id : From 1 last_id r.report.id
  pub id_is : is_id r.report.id ≡ true
  pub index : nat_abs (to_z w32 (of_z w32 r.report.id)) ≡ up r.report.id

pub id_turn :
    (r : Record) (w first rest : List ℤ)
    → r ≡ record_from first 0
    → w ≡ first ++ rest
    → length first ≡ record_words
    → all_ranged (all_records w) ≡ true
    → SFits w32 r.report.id
    → IdTurn r (all_records w) (all_records rest)
id_turn r w first rest e parts seven ranged fits =
    let turn = next_record r w first rest e parts seven in
    let both = ranged_here r (all_records w) (all_records rest) turn ranged in
    let f = id_from r both.0 in
    record {
      next = turn;
      ranged = both.0;
      rest = both.1;
      id = f;
      id_is = from_between 1 last_id r.report.id f;
      index = ap nat_abs (to_z-of_z w32 r.report.id fits) ∙ omega (arith, abs r.report.id, f.whole);
    }

distinct_cons :
    (marks : List ℕ) (r : Record) (rs : List Record)
    → still_distinct marks (r ∷ rs) ≡ (not (is_marked marks (up r.report.id)) && none_marked marks rs) && (not (has_id r.report.id rs) && ids_distinct rs)
unfolding none_marked ids_distinct
distinct_cons marks r rs = refl

pub distinct-at_first : (m : ℕ) (rs : List Record) → ids_distinct rs ≡ still_distinct (replicate m 0) rs
distinct-at_first m rs = sym (ap (λ (b : Bool). b && ids_distinct rs) (none_yet m rs))

pub seen_twice : (marks : List ℕ) (r : Record) (rs : List Record) → is_marked marks (up r.report.id) ≡ true → still_distinct marks (r ∷ rs) ≡ false
seen_twice marks r rs t = distinct_cons marks r rs ∙ simp t

pub seen_once :
    (marks : List ℕ) (r : Record) (rs : List Record)
    → is_marked marks (up r.report.id) ≡ false
    → length marks ≡ mark_bytes
    → is_ranged r ≡ true
    → all_ranged rs ≡ true
    → still_distinct marks (r ∷ rs) ≡ still_distinct (with_mark marks (up r.report.id)) rs
seen_once marks r rs t long ranged later =
    let f = id_from r ranged in
    let below : up r.report.id / 8 < length marks = omega arith in
    let new = one_more marks r.report.id f.whole below rs later in
    distinct_cons marks r rs ∙ simp (t, new, and_assoc)

pub all_seen : (marks : List ℕ) → still_distinct marks [] ≡ true
unfolding none_marked ids_distinct
all_seen marks = refl
