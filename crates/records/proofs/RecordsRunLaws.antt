-- A chain over the records of some words: what `chunks_exact` gives in turn, what a test may be asked at each, and what `all` of them says.
-- Assumes nothing.
use mathlib.Core.Path.{◌≡◌, refl, sym, ap, subst, ◌∙◌}
use mathlib.Core.Bool.{Bool, true, false, ◌&&◌, and-false}
use mathlib.Core.List.{List, [], ◌∷◌}
use Prim.Native.Nat.{ℕ, zero, suc, ◌≤◌, ◌<◌}
use native.Mathlib.Omega.{arith}
use denote.Ref.{Bor}
use lib.IntN.{ℤ}
use lib.ListN.{length}
use Rattle.std.specs.Bool.{MatchBool}
use denote.Param.Members.{Mut}
use Rattle.std.specs.Fn.{Called}
use Rattle.std.specs.Iterator.{Yields, AlwaysYields, CallableAtEachTurn, ChecksAll}
use Rattle.std.proofs.lemmas.Iterator.{cases_from_all}
use Rattle.std.specs.List.{AllWithin, HoldsAt}
use Rattle.std.specs.Slice.Iter.{chunks_exact_rest, chunks_exact_size, chunks_exact_steps}
use Rattle.std.specs.declared.slice.ChunksExact.{ChunksExact}
use Rattle.std.proofs.lemmas.Fn.{serves_by}
use Rattle.std.specs.Prelude.{slice_index_or}
use Rattle.ints.specs.Lists.{every}
use Rattle.ints.proofs.Truth.{and_true}
use Rattle.records.specs.Records.{record_words, record_from, all_records}
use Rattle.records.specs.declared.Record.{Record}
use Rattle.records.proofs.RecordsTurnLaws.{next_record, no_record}

-- ---- what comes

pub records_yielded : (rs : List Record) (s : ChunksExact ℤ) → chunks_exact_size s ≡ record_words → all_records (chunks_exact_rest s) ≡ rs
    → AlwaysYields chunks_exact_steps (λ (x : Bor (List ℤ)). record_from x.now 0) s rs
records_yielded [] s sevens e =
    λ x j h. let turn = next_record (record_from x.now 0) (chunks_exact_rest s) x.now (chunks_exact_rest j) refl h.1.0 (h.1.1 ∙ sevens) in (cc)
records_yielded (r ∷ rs) s sevens e = (
  (λ j h. let none = no_record (chunks_exact_rest s) (omega (arith, h.1.0, sevens)) in (cc)),
  λ x j h.
      let turn = next_record (record_from x.now 0) (chunks_exact_rest s) x.now (chunks_exact_rest j) refl h.1.0 (h.1.1 ∙ sevens) in
      let same : record_from x.now 0 ≡ r = cc in
      let later : all_records (chunks_exact_rest j) ≡ rs = cc in
      (same, records_yielded rs j (h.0 ∙ sevens) later),
)

-- ---- what a test may be asked. P: what holds of the records left, as long as some are

module _ (P : List Record → Type 0) (later : (r : Record) (rs : List Record) → P (r ∷ rs) → P rs) where
  left_with : (xs : List (Bor (List ℤ))) (s t : ChunksExact ℤ) → chunks_exact_size s ≡ record_words → P (all_records (chunks_exact_rest s))
      → Yields chunks_exact_steps s xs t → (chunks_exact_size t ≡ record_words) × P (all_records (chunks_exact_rest t))
  left_with [] s t sevens p y = subst (λ (k : ChunksExact ℤ). (chunks_exact_size k ≡ record_words) × P (all_records (chunks_exact_rest k))) y (sevens, p)
  left_with (x ∷ xs) s t sevens p y =
      let j = y.0 in
      let h = y.1 in
      let turn = next_record (record_from x.now 0) (chunks_exact_rest s) x.now (chunks_exact_rest j) refl h.1.0 (h.1.1 ∙ sevens) in
      left_with xs j t (h.0 ∙ sevens) (later (record_from x.now 0) (all_records (chunks_exact_rest j)) (subst P turn p)) y.2

module _ {F : Type 0} {R : F → Bor (List ℤ) → F → Type 0} {Q : F → Bor (List ℤ) → Type 0} {f : F}
    (P : List Record → Type 0) (later : (r : Record) (rs : List Record) → P (r ∷ rs) → P rs)
    (stays : (x : Bor (List ℤ)) (q : F) → R f x q → q ≡ f)
    (may : (x : Bor (List ℤ)) (rs : List Record) → length x.now ≡ record_words → P (record_from x.now 0 ∷ rs) → Q f x) where
  pub serves_records : (s : ChunksExact ℤ) → chunks_exact_size s ≡ record_words → P (all_records (chunks_exact_rest s)) → CallableAtEachTurn chunks_exact_steps R Q s f
  serves_records s sevens p =
      serves_by R (λ _ q. q ≡ f) (λ xs q x w j r. stays x w (subst (λ k. R k x w) j r)) chunks_exact_steps Q s f refl
      (λ xs t q x u y e j.
      let l = left_with P later xs s t sevens p y in
      let turn = next_record (record_from x.now 0) (chunks_exact_rest t) x.now (chunks_exact_rest u) refl e.1.0 (e.1.1 ∙ l.0) in
      subst (λ k. Q k x) (sym j) (may x (all_records (chunks_exact_rest u)) (e.1.1 ∙ l.0) (subst P turn l.1)))

-- ---- what all of them say

module _ (one : Record → Bool) where
  all_pass : (rs : List Record) → ((k : ℕ) (d : Record) → 0 ≤ k → k < length rs → one (slice_index_or rs k d) ≡ true) → every one rs ≡ true
  unfolding every
  all_pass [] h = refl
  all_pass (r ∷ rs) h = and_true (one r) (every one rs) (h 0 r (omega arith) (omega arith)) (all_pass rs (λ k d l m. h (suc k) d (omega arith) (omega arith)))

  one_fails : (rs : List Record) (k : ℕ) → k < length rs → ((d : Record) → one (slice_index_or rs k d) ≡ false) → every one rs ≡ false
  unfolding every
  one_fails [] k l h = absurd (omega arith)
  one_fails (r ∷ rs) zero l h = simp (h r)
  one_fails (r ∷ rs) (suc k) l h = ap (λ (b : Bool). one r && b) (one_fails rs k (omega arith) h) ∙ and-false (one r)

  every_from_all : (rs : List Record) (b : Bool)
      → MatchBool b (AllWithin (λ r. one r ≡ true) rs 0 (length rs)) ((k : ℕ) × (k < length rs) × HoldsAt (λ r. one r ≡ false) rs k)
      → b ≡ every one rs
  every_from_all rs true h = sym (all_pass rs h)
  every_from_all rs false h = sym (one_fails rs h.0 h.1 h.2)

-- the answer of `all` over the records of some words, where each call of the test f answers `one` and leaves f as it was
pub every_of_all : {F : Type 0} {g : Mut F (Bor (List ℤ) × Unit {0}) Bool} (one : Record → Bool) (w : List ℤ) (s u : ChunksExact ℤ) (f : F) (b : Bool)
    → ChecksAll chunks_exact_steps g s f b u
    → chunks_exact_size s ≡ record_words
    → chunks_exact_rest s ≡ w
    → ((x : Bor (List ℤ)) (q : F) → Called g f (x, tt) true q → (q ≡ f) × (one (record_from x.now 0) ≡ true))
    → ((x : Bor (List ℤ)) (q : F) → Called g f (x, tt) false q → one (record_from x.now 0) ≡ false)
    → b ≡ every one (all_records w)
every_of_all one w s u f b ran sevens whole passed failed =
    every_from_all one (all_records w) b
    (cases_from_all {steps = chunks_exact_steps} {v = λ (x : Bor (List ℤ)). record_from x.now 0} {s = s} u f b (λ r. one r ≡ true) (λ r. one r ≡ false) ran
    (record { runs = records_yielded (all_records w) s sevens (ap all_records whole) }) passed failed)
