-- The view from words to records and back: what is written is what is read, and the words of a store are those of its records.
-- Assumes nothing.
use mathlib.Core.Path.{◌≡◌, refl, sym, ap, ap₂, ◌∙◌}
use mathlib.Core.Bool.{true}
use mathlib.Core.List.{List, [], ◌∷◌, ◌++◌, append_assoc}
use Prim.Native.Nat.{ℕ, zero, suc, ◌+◌, ◌-◌, ◌*◌, ◌≤◌}
use native.Mathlib.Omega.{arith}
use lib.IntN.{ℤ, pos}
use lib.ListN.{length, get_or, drop, replicate, length-append, length-replicate, length-drop}
use lib.Seq.{drop-cons, drop-drop}
use Rattle.grid.specs.Units.{capacity}
use Rattle.records.specs.Records.{record_words, store_words, record_from, now_of, held_of, read_records, records_of, words_of, words_of_all, store_of}
use Rattle.records.specs.Order.{is_sorted}
use Rattle.records.specs.Soundness.{all_ranged, IsStore}
use Rattle.records.specs.declared.Record.{Record}

-- ---- from records to words and back

pub words_length : (rs : List Record) → length (words_of_all rs) ≡ record_words * length rs
unfolding words_of_all
words_length [] = refl
words_length (r ∷ rs) = let e = words_length rs in omega arith

pub read_written : (rs : List Record) (w : List ℤ) → read_records (length rs) (words_of_all rs ++ w) ≡ rs
unfolding words_of_all read_records
read_written [] w = refl
read_written (r ∷ rs) w = ap (λ (l : List Record). r ∷ l) (read_written rs w)

pub read_back : (n : ℕ) (rs : List Record) (w : List ℤ) → n ≡ length rs → read_records n (words_of_all rs ++ w) ≡ rs
read_back n rs w e = rw e (read_written rs w)

-- ---- the store with some records

pub now_of-store : (now : ℤ) (rs : List Record) → now_of (store_of now rs) ≡ now
unfolding store_of
now_of-store now rs = refl

pub records_of-store : (now : ℤ) (rs : List Record) → records_of (store_of now rs) ≡ rs
unfolding records_of store_of
records_of-store now rs = read_written rs (replicate (record_words * (capacity - length rs)) (pos 0))

pub store_length : (now : ℤ) (rs : List Record) → length rs ≤ capacity → length (store_of now rs) ≡ store_words
unfolding store_of
store_length now rs few =
    simp (length-append, length-replicate, words_length) (omega arith)

-- ---- from words to records and back

pub read_length : (n : ℕ) (w : List ℤ) → length (read_records n w) ≡ n
unfolding read_records
read_length zero w = refl
read_length (suc n) w = ap suc (read_length n (drop record_words w))

pub held_records : (s : List ℤ) → length (records_of s) ≡ held_of s
unfolding records_of
held_records s = read_length (held_of s) (drop record_words s)

-- seven words and those after them
first_record : (w : List ℤ) → record_words ≤ length w → words_of (record_from w 0) ++ drop record_words w ≡ w
first_record w long =
    let z = pos 0 in
    sym
    (drop-cons w 0 z (omega arith)
    ∙ ap (λ (l : List ℤ). get_or w 0 z ∷ l)
    (drop-cons w 1 z (omega arith)
    ∙ ap (λ (l : List ℤ). get_or w 1 z ∷ l)
    (drop-cons w 2 z (omega arith)
    ∙ ap (λ (l : List ℤ). get_or w 2 z ∷ l)
    (drop-cons w 3 z (omega arith)
    ∙ ap (λ (l : List ℤ). get_or w 3 z ∷ l)
    (drop-cons w 4 z (omega arith)
    ∙ ap (λ (l : List ℤ). get_or w 4 z ∷ l)
    (drop-cons w 5 z (omega arith)
    ∙ ap (λ (l : List ℤ). get_or w 5 z ∷ l) (drop-cons w 6 z (omega arith))))))))

pub written_read : (n : ℕ) (w : List ℤ) → record_words * n ≤ length w → words_of_all (read_records n w) ++ drop (record_words * n) w ≡ w
unfolding words_of_all read_records
written_read zero w long = refl
written_read (suc n) w long =
    let later : record_words * n ≤ length (drop record_words w) = simp length-drop (omega arith) in
    let e : record_words + record_words * n ≡ record_words * suc n = omega arith in
    let rest : drop (record_words * n) (drop record_words w) ≡ drop (record_words * suc n) w =
    drop-drop (record_words * n) record_words w ∙ ap (λ (k : ℕ). drop k w) e in
    append_assoc (words_of (record_from w 0)) (words_of_all (read_records n (drop record_words w))) (drop (record_words * suc n) w)
    ∙ ap (λ (l : List ℤ). words_of (record_from w 0) ++ l)
    (ap (λ (l : List ℤ). words_of_all (read_records n (drop record_words w)) ++ l) (sym rest)
    ∙ written_read n (drop record_words w) later)
    ∙ first_record w (omega arith)

-- ---- what the functions that work on a store ask of it

-- the words of any few, ranged, sorted records are a store
pub store_of_lem : (now : ℤ) (rs : List Record) → length rs ≤ capacity → all_ranged rs ≡ true → is_sorted rs ≡ true → IsStore (store_of now rs)
store_of_lem now rs few ranged sorted = record {
  words = ap₂ store_of (sym (now_of-store now rs)) (sym (records_of-store now rs));
  few = rw (records_of-store now rs) few;
  ranged = rw (records_of-store now rs) ranged;
  sorted = rw (records_of-store now rs) sorted;
}

pub store-words_of : (s : List ℤ) → IsStore s → length s ≡ store_words
store-words_of s h = ap length h.words ∙ store_length (now_of s) (records_of s) h.few
