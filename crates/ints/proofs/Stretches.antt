-- Laws of lists: a stretch of a list moved by some places, and a stretch written over.
-- Assumes nothing.
use mathlib.Core.Path.{◌≡◌, sym, ap, ◌∙◌}
use mathlib.Core.List.{List, ◌∷◌, ◌++◌, append-nil}
use Prim.Native.Nat.{ℕ, suc, ◌+◌, ◌-◌, ◌≤◌, ◌<◌}
use native.Mathlib.Numerals.{add-one}
use native.Mathlib.Omega.{arith}
use lib.ListN.{length, get_or, set, take, drop, length-drop, length-take, get_or-append, drop_of_length-le}
use lib.Seq.{take-suc, drop-cons, get_or-take, get_or-drop, set_at, length-take-le, take_all, append_snoc, get_or-append-add}

module _ {A : Type 0} (d : A) where
  -- ---- every element but the last m moved up by m places, from the back: i is the place that was written last
  module _ (m : ℕ) (l : List A) where
    abbrev pub moved_up : ℕ → List A
    moved_up i = take i l ++ drop (i - m) (take (length l - m) l)

    pub up_start : m ≤ length l → l ≡ moved_up (length l)
    up_start h =
        let e : length (take (length l - m) l) ≤ length l - m = simp length-take (omega arith) in
        sym (rw (take_all (length l) l (omega arith), drop_of_length-le (take (length l - m) l) e, append-nil l))

    pub up_more : (i : ℕ) → m ≤ i → i < length l → set (moved_up (suc i)) i (get_or (moved_up (suc i)) (i - m) d) ≡ moved_up i
    up_more i h g =
        let t = take (length l - m) l in
        let v = get_or l (i - m) d in
        let rest = drop (suc i - m) t in
        let long : i - m < length (take (suc i) l) = simp length-take (omega arith) in
        let read : get_or (moved_up (suc i)) (i - m) d ≡ v =
        get_or-append (take (suc i) l) rest d (i - m) long ∙ get_or-take (suc i) l (i - m) d (omega arith) in
        let split : moved_up (suc i) ≡ take i l ++ (get_or l i d ∷ rest) = rw (take-suc l i d g, append_snoc) in
        let short : i - m < length t = simp length-take (omega arith) in
        let next : drop (i - m) t ≡ v ∷ rest =
        drop-cons t (i - m) d short
        ∙ (λ k. get_or-take (length l - m) l (i - m) d (omega arith) k ∷ drop (later k) t) in
        ap (λ (x : A). set (moved_up (suc i)) i x) read
        ∙ ap (λ (x : List A). set x i v) split
        ∙ set_at (take i l) (get_or l i d) rest v i (length-take-le i l (omega arith))
        ∙ ap (λ (x : List A). take i l ++ x) (sym next)
      where
        later : suc (i - m) ≡ suc i - m
        later = omega arith

    pub up_end : moved_up m ≡ take m l ++ take (length l - m) l
    up_end = let e : m - m ≡ 0 = omega arith in rw e

  -- ---- every element but the first m moved down by m places, from the front: i places are written
  module _ (m : ℕ) (l : List A) where
    abbrev pub moved_down : ℕ → List A
    moved_down i = take i (drop m l) ++ drop i l

    pub down_more : (i : ℕ) → m + i < length l → set (moved_down i) i (get_or (moved_down i) (i + m) d) ≡ moved_down (i + 1)
    down_more i h =
        let v = get_or l (i + m) d in
        let w = take i (drop m l) in
        let long : length w ≡ i = simp (length-take, length-drop) (omega arith) in
        let at : get_or (w ++ drop i l) (length w + m) d ≡ get_or (drop i l) m d = get_or-append-add w (drop i l) m d in
        let read : get_or (moved_down i) (i + m) d ≡ v = rw long at at ∙ get_or-drop i l m d in
        let split : moved_down i ≡ w ++ (get_or l i d ∷ drop (suc i) l) =
        ap (λ (x : List A). w ++ x) (drop-cons l i d (omega arith)) in
        let short : i < length (drop m l) = simp length-drop (omega arith) in
        let same : m + i ≡ i + m = omega arith in
        let last : get_or (drop m l) i d ≡ v = get_or-drop m l i d ∙ ap (λ (k : ℕ). get_or l k d) same in
        let next : moved_down (i + 1) ≡ w ++ (v ∷ drop (suc i) l) = rw (add-one, take-suc (drop m l) i d short, last, append_snoc) in
        ap (λ (x : A). set (moved_down i) i x) read
        ∙ ap (λ (x : List A). set x i v) split
        ∙ set_at w (get_or l i d) (drop (suc i) l) v i long
        ∙ sym next

    pub down_end : (i : ℕ) → i ≡ length l - m → moved_down i ≡ drop m l ++ drop (length l - m) l
    down_end i e =
        let long : length (drop m l) ≤ length l - m = simp length-drop (omega arith) in
        rw (e, take_all (length l - m) (drop m l) long)
