-- The laws of the words written: a record over seven words, the time, an empty store, and the words of a store before and from a place.
-- Assumes nothing.
use mathlib.Core.Path.{◌≡◌, refl, sym, ap, ◌∙◌}
use mathlib.Core.List.{List, [], ◌∷◌, ◌++◌, append_assoc}
use Prim.Native.Nat.{ℕ, suc, ◌+◌, ◌-◌, ◌*◌, ◌≤◌, ◌<◌, ◌^◌}
use native.Mathlib.Omega.{arith}
use lib.IntN.{ℤ, pos}
use lib.Signed.{mag}
use mir.Syntax.{w32}
use mir.Val.{hbits}
use Rattle.ints.proofs.Machine.{back, held}
use lib.ListN.{length, set, take, drop, replicate, length-append, take-append-drop, replicate-append-replicate}
use lib.Seq.{sets-eq, length-take-le}
use native.Mathlib.Numerals.{towards_suc}
use Rattle.grid.specs.Units.{capacity}
use Rattle.records.specs.Records.{record_words, store_words, records_of, words_of, words_of_all, header, store_of}
use Rattle.records.specs.Soundness.{IsStore}
use Rattle.records.proofs.RecordsLaws.{words_length}
use Rattle.records.specs.declared.Record.{Record}

-- ---- a record, the time, and an empty store

-- a record written over seven words
written :
    (s : List ℤ) (k : ℕ) (a b c d e f g : ℤ)
    → k + 7 ≤ length s
    → set (set (set (set (set (set (set s k a) (k + 1) b) (k + 2) c) (k + 3) d) (k + 4) e) (k + 5) f) (k + 6) g ≡ take k s ++ ((a ∷ b ∷ c ∷ d ∷ e ∷ f ∷ g ∷ []) ++ drop (k + 7) s)
written s k a b c d e f g h =
    let vs = a ∷ b ∷ c ∷ d ∷ e ∷ f ∷ g ∷ [] in
    simp towards_suc (sets-eq vs s k h ∙ append_assoc (take k s) vs (drop (k + 7) s) ∙ simp towards_suc)

pub write_words :
    (s : List ℤ) (k : ℕ) (r : Record)
    → k + record_words ≤ length s
    → mag r.key < 2 ^ hbits w32
    → mag r.report.id < 2 ^ hbits w32
    → mag r.report.t < 2 ^ hbits w32
    → mag r.report.x < 2 ^ hbits w32
    → mag r.report.y < 2 ^ hbits w32
    → mag r.report.vx < 2 ^ hbits w32
    → mag r.report.vy < 2 ^ hbits w32
    → set (set (set (set (set (set (set s k (back w32 r.key)) (k + 1) (back w32 r.report.id)) (k + 2) (back w32 r.report.t))
    (k + 3) (back w32 r.report.x)) (k + 4) (back w32 r.report.y)) (k + 5) (back w32 r.report.vx)) (k + 6) (back w32 r.report.vy)
    ≡ take k s ++ (words_of r ++ drop (k + record_words) s)
write_words s k r h ka ida ta xa ya vxa vya =
    rw (
      held w32 r.key ka,
      held w32 r.report.id ida,
      held w32 r.report.t ta,
      held w32 r.report.x xa,
      held w32 r.report.y ya,
      held w32 r.report.vx vxa,
      held w32 r.report.vy vya,
    )
    (written s k r.key r.report.id r.report.t r.report.x r.report.y r.report.vx r.report.vy h)

pub now_set : (s : List ℤ) (t : ℤ) → IsStore s → set s 0 t ≡ store_of t (records_of s)
unfolding store_of
now_set s t q = ap (λ (l : List ℤ). set l 0 t) q.words

pub blank : (w : List ℤ) (n : ℕ) (t : ℤ) → n ≡ store_words → w ≡ replicate n (pos 0) → set w 0 t ≡ store_of t []
unfolding store_of words_of_all
blank w n t e h = rw (h, e)

-- ---- the words of a store, at a place

pub words_append : (xs ys : List Record) → words_of_all (xs ++ ys) ≡ words_of_all xs ++ words_of_all ys
unfolding words_of_all
words_append [] ys = refl
words_append (x ∷ xs) ys =
    ap (λ (l : List ℤ). words_of x ++ l) (words_append xs ys) ∙ sym (append_assoc (words_of x) (words_of_all xs) (words_of_all ys))

-- the words before record i, and those of all zero
abbrev pub front : ℤ → ℕ → ℕ → List Record → List ℤ
front now n i rs = header now n ++ words_of_all (take i rs)

abbrev pub zeros : ℕ → List ℤ
zeros n = replicate n (pos 0)

pub front_length : (now : ℤ) (n i : ℕ) (rs : List Record) → i ≤ length rs → length (front now n i rs) ≡ record_words * i + record_words
front_length now n i rs h =
    simp (length-append, words_length, length-take-le i rs h) (omega arith)

pub store_split : (now : ℤ) (rs : List Record) (i : ℕ) → store_of now rs ≡ front now (length rs) i rs ++ (words_of_all (drop i rs) ++ zeros (record_words * (capacity - length rs)))
unfolding store_of
store_split now rs i =
    let w : words_of_all rs ≡ words_of_all (take i rs) ++ words_of_all (drop i rs) =
    ap words_of_all (sym (take-append-drop i rs)) ∙ words_append (take i rs) (drop i rs) in
    let z = zeros (record_words * (capacity - length rs)) in
    ap
    (λ (l : List ℤ). header now (length rs) ++ l)
    (ap (λ (l : List ℤ). l ++ z) w ∙ append_assoc (words_of_all (take i rs)) (words_of_all (drop i rs)) z)

pub more_zeros : (n : ℕ) → n < capacity → zeros (record_words * (capacity - n)) ≡ zeros record_words ++ zeros (record_words * (capacity - suc n))
more_zeros n h =
    let k : record_words * (capacity - n) ≡ record_words + record_words * (capacity - suc n) = omega arith in
    rw k (sym (replicate-append-replicate record_words (record_words * (capacity - suc n)) (pos 0)))
