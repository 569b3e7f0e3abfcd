-- The laws of a pass over the records of a store that keeps those that pass a test: they are written one after the other behind record 0, the words behind
-- them are zeroed, and the count is set. Which test it is makes no difference.
-- Assumes nothing.
use mathlib.Core.Path.{◌≡◌, refl, sym, ap, ◌∙◌}
use mathlib.Core.Bool.{Bool, true, false}
use mathlib.Core.List.{List, [], ◌∷◌, ◌++◌, append_assoc, append-nil}
use Prim.Native.Nat.{ℕ, ◌+◌, ◌-◌, ◌*◌, ◌≤◌, ◌<◌}
use native.Mathlib.Omega.{arith}
use lib.IntN.{ℤ, pos}
use lib.ListN.{length, set, take, drop, replicate, length-append, length-drop, replicate-append-replicate}
use lib.Seq.{drop-drop, take_at, drop_at, take-add, take_all, length-take-le}
use Rattle.ints.specs.Lists.{passing, every}
use Rattle.ints.proofs.Truth.{and_left, and_right}
use Rattle.ints.proofs.Lists.{passing_append}
use Rattle.grid.specs.Units.{capacity}
use Rattle.records.specs.Records.{record_words, store_words, record_from, now_of, held_of, records_of, words_of, words_of_all, header, store_of}
use Rattle.records.specs.Soundness.{is_ranged, all_ranged, IsStore}
use Rattle.records.specs.declared.Record.{Record}
use Rattle.records.proofs.RecordsLaws.{words_length, held_records}
use Rattle.records.proofs.PlacesLaws.{record_at, store_room, drop-record}
use Rattle.store.specs.Needs.{KeptFirst, first_kept}
use Rattle.store.proofs.WritingLaws.{words_append}

-- ---- the pass

-- after i records, k of them kept: these stand first, and from record i on the words are those at entry
pub record Keeping (s₀ : List ℤ) (staying : Record → Bool) (n : ℕ) (s : List ℤ) (k i : ℕ) : Type 0 where
  pub held : n ≡ held_of s₀
  pub few : n ≤ capacity
  pub long : length s ≡ store_words
  pub inside : i ≤ n
  pub closer : k ≤ i
  pub count : length (passing staying (take i (records_of s₀))) ≡ k
  pub first : take (record_words * k + record_words) s ≡ take record_words s₀ ++ words_of_all (passing staying (take i (records_of s₀)))
  pub rest : drop (record_words * i + record_words) s ≡ drop (record_words * i + record_words) s₀
  pub ranged : all_ranged (drop i (records_of s₀)) ≡ true

pub keeping_start : (s : List ℤ) (staying : Record → Bool) (n : ℕ) → IsStore s → n ≡ held_of s → Keeping s staying n s 0 0
unfolding passing words_of_all
keeping_start s staying n q e =
    let room = store_room s q in
    let f = room.few in
    record {
      held = e;
      few = omega arith;
      long = room.long;
      inside = omega arith;
      closer = omega arith;
      count = refl;
      first = sym (append-nil (take record_words s));
      rest = refl;
      ranged = q.ranged;
    }

module _ (s₀ : List ℤ) (staying : Record → Bool) (n : ℕ) (s : List ℤ) (k i : ℕ) (p : Keeping s₀ staying n s k i) (h : i < n)
    (r : Record) (er : r ≡ record_from s (record_words * i + record_words)) where
  at_entry : r ≡ record_from s₀ (record_words * i + record_words)
  at_entry =
      let j = record_words * i + record_words in
      er ∙ sym (record_at j s) ∙ ap (λ (l : List ℤ). record_from l 0) p.rest ∙ record_at j s₀

  here : drop i (records_of s₀) ≡ r ∷ drop (i + 1) (records_of s₀)
  here =
      let e = p.held in
      drop-record s₀ i (omega arith) ∙ ap (λ (a : Record). a ∷ drop (i + 1) (records_of s₀)) (sym at_entry)

  one_more : take (i + 1) (records_of s₀) ≡ take i (records_of s₀) ++ (r ∷ [])
  one_more = take-add i 1 (records_of s₀) ∙ ap (λ (l : List Record). take i (records_of s₀) ++ take 1 l) here

  pub now_ranged : is_ranged r ≡ true
  unfolding every
  now_ranged =
      let x : all_ranged (r ∷ drop (i + 1) (records_of s₀)) ≡ true = rw here at p.ranged in
      and_left (is_ranged r) (all_ranged (drop (i + 1) (records_of s₀))) x

  later_ranged : all_ranged (drop (i + 1) (records_of s₀)) ≡ true
  unfolding every
  later_ranged =
      let x : all_ranged (r ∷ drop (i + 1) (records_of s₀)) ≡ true = rw here at p.ranged in
      and_right (is_ranged r) (all_ranged (drop (i + 1) (records_of s₀))) x

  -- words that are those at entry from record i on are so from the next record on
  later_words :
      (w : List ℤ)
      → drop (record_words * i + record_words) w ≡ drop (record_words * i + record_words) s₀
      → drop (record_words * (i + 1) + record_words) w ≡ drop (record_words * (i + 1) + record_words) s₀
  later_words w e =
      let j = record_words * i + record_words in
      let a : record_words * (i + 1) + record_words ≡ j + record_words = omega arith in
      ap (λ (x : ℕ). drop x w) a ∙ sym (drop-drop record_words j w) ∙ ap (drop record_words) e ∙ drop-drop record_words j s₀ ∙ ap (λ (x : ℕ). drop x s₀) (sym a)

  -- of one record more, those that pass
  pub passes : (test : Record → Bool) → test r ≡ true → passing test (take (i + 1) (records_of s₀)) ≡ passing test (take i (records_of s₀)) ++ (r ∷ [])
  unfolding passing
  passes test e =
      let alone : passing test (r ∷ []) ≡ r ∷ [] = rw e in
      let before = take i (records_of s₀) in
      ap (passing test) one_more
      ∙ passing_append test before (r ∷ [])
      ∙ ap (λ (l : List Record). passing test before ++ l) alone

  pub fails : (test : Record → Bool) → test r ≡ false → passing test (take (i + 1) (records_of s₀)) ≡ passing test (take i (records_of s₀))
  unfolding passing
  fails test e =
      let none : passing test (r ∷ []) ≡ [] = rw e in
      let before = take i (records_of s₀) in
      ap (passing test) one_more
      ∙ passing_append test before (r ∷ [])
      ∙ ap (λ (l : List Record). passing test before ++ l) none
      ∙ append-nil (passing test before)

  -- a record that stays is written behind those kept
  pub keeping_stays : staying r ≡ true → (s' : List ℤ)
      → s' ≡ take (record_words * k + record_words) s ++ (words_of r ++ drop (record_words * k + record_words + record_words) s)
      → Keeping s₀ staying n s' (k + 1) (i + 1)
  unfolding passing words_of_all
  keeping_stays stay s' es =
      let rs = records_of s₀ in
      let a = record_words * k + record_words in
      let l0 = p.long in
      let f0 = p.few in
      let i0 = p.inside in
      let k0 = p.closer in
      let c0 = p.count in
      let more : passing staying (take (i + 1) rs) ≡ passing staying (take i rs) ++ (r ∷ []) = passes staying stay in
      let la : length (take a s) ≡ a = length-take-le a s (omega arith) in
      let ea : record_words * (k + 1) + record_words ≡ a + record_words = omega arith in
      let eb : s' ≡ (take a s ++ words_of r) ++ drop (a + record_words) s = es ∙ sym (append_assoc (take a s) (words_of r) (drop (a + record_words) s)) in
      let lb : length (take a s ++ words_of r) ≡ a + record_words = simp (length-append, la) in
      let ec : drop (a + record_words) s' ≡ drop (a + record_words) s = ap (drop (a + record_words)) eb ∙ drop_at (take a s ++ words_of r) (drop (a + record_words) s) (a + record_words) lb in
      let g = record_words * (i - k) in
      let ed : record_words * (i + 1) + record_words ≡ a + record_words + g = omega arith in
      let later_same : drop (record_words * (i + 1) + record_words) s' ≡ drop (record_words * (i + 1) + record_words) s =
      ap (λ (j : ℕ). drop j s') ed ∙ sym (drop-drop g (a + record_words) s') ∙ ap (drop g) ec ∙ drop-drop g (a + record_words) s ∙ ap (λ (j : ℕ). drop j s) (sym ed) in
      record {
        held = p.held;
        few = f0;
        long = ap length eb ∙ simp (length-append, la, length-drop) (omega arith);
        inside = omega arith;
        closer = omega arith;
        count = ap length more ∙ simp length-append (omega arith);
        first =
            ap (λ (j : ℕ). take j s') ea
            ∙ ap (take (a + record_words)) eb
            ∙ take_at (take a s ++ words_of r) (drop (a + record_words) s) (a + record_words) lb
            ∙ ap (λ (l : List ℤ). l ++ words_of r) p.first
            ∙ append_assoc (take record_words s₀) (words_of_all (passing staying (take i rs))) (words_of r)
            ∙ ap (λ (l : List ℤ). take record_words s₀ ++ l) (sym (ap words_of_all more ∙ words_append (passing staying (take i rs)) (r ∷ [])));
        rest = later_same ∙ later_words s p.rest;
        ranged = later_ranged;
      }

  -- any other is passed over
  pub keeping_goes : staying r ≡ false → Keeping s₀ staying n s k (i + 1)
  keeping_goes goes =
      let i0 = p.inside in
      let k0 = p.closer in
      let same = fails staying goes in
      record {
        held = p.held;
        few = p.few;
        long = p.long;
        inside = omega arith;
        closer = omega arith;
        count = ap length same ∙ p.count;
        first = p.first ∙ ap (λ (l : List Record). take record_words s₀ ++ words_of_all l) (sym same);
        rest = later_words s p.rest;
        ranged = later_ranged;
      }

module _ (s₀ : List ℤ) (staying : Record → Bool) (n : ℕ) (s : List ℤ) (k i : ℕ) (p : Keeping s₀ staying n s k i) (h : n ≤ i) where
  pub all_seen : (take i (records_of s₀) ≡ records_of s₀) × (i ≡ held_of s₀)
  all_seen =
      let count = held_records s₀ in
      let e = p.held in
      let i0 = p.inside in
      (take_all i (records_of s₀) (omega arith), omega arith)

  pub keeping_end : KeptFirst staying s₀ k s
  keeping_end =
      let rs = records_of s₀ in
      let count = held_records s₀ in
      let e = p.held in
      let i0 = p.inside in
      let k0 = p.closer in
      let all = all_seen.0 in
      record {
        count = ap (λ (l : List Record). length (passing staying l)) (sym all) ∙ p.count;
        within = omega arith;
        first = p.first ∙ ap (λ (l : List Record). take record_words s₀ ++ words_of_all (passing staying l)) all;
        unused = rw (← all_seen.1) p.rest;
      }

-- ---- the first records kept alone

-- the records that a pass kept, and no other
pub kept_alone : (s₀ s s' : List ℤ) (staying : Record → Bool) (n k : ℕ) → IsStore s₀ → n ≡ held_of s₀ → KeptFirst staying s₀ k s
    → s' ≡ first_kept k n s → s' ≡ store_of (now_of s₀) (passing staying (records_of s₀))
unfolding store_of
kept_alone s₀ s s' staying n k q en f es =
    let now = now_of s₀ in
    let rs = records_of s₀ in
    let left = passing staying rs in
    let room = store_room s₀ q in
    let lr : length rs ≡ n = room.count ∙ sym en in
    let few = room.few in
    let kn = f.within in
    let a = record_words * k + record_words in
    let e = record_words * n + record_words in
    let zeros : ℕ → List ℤ = λ j. replicate j (pos 0) in
    let le : length (header now (length rs) ++ words_of_all rs) ≡ e = simp (length-append, words_length) (omega arith) in
    let end : drop e s₀ ≡ zeros (record_words * (capacity - length rs)) =
    ap (drop e) q.words ∙ drop_at (header now (length rs) ++ words_of_all rs) (zeros (record_words * (capacity - length rs))) e le in
    let dn : drop e s ≡ zeros (record_words * (capacity - length rs)) = (rw en f.unused) ∙ end in
    let both : e - a + record_words * (capacity - length rs) ≡ record_words * (capacity - k) = omega arith in
    let gap : zeros (e - a) ++ drop e s ≡ zeros (record_words * (capacity - k)) =
    ap (λ (l : List ℤ). zeros (e - a) ++ l) dn ∙ replicate-append-replicate (e - a) (record_words * (capacity - length rs)) (pos 0) ∙ ap zeros both in
    let front : take a s ≡ header now (length rs) ++ words_of_all left = f.first ∙ ap (λ (l : List ℤ). take record_words l ++ words_of_all left) q.words in
    es ∙ (λ j. set (front j ++ gap j) 1 (pos k)) ∙ ap (λ (j : ℕ). header now j ++ (words_of_all left ++ zeros (record_words * (capacity - j)))) (sym f.count)
