-- The laws of words moved by one record. Moved down, each store takes a word that none has written over; moved up, the words below a place are the list's own and those from it
-- on are what they come to, and one store sets the place back by one.
-- Assumes nothing.
use mathlib.Core.Path.{◌≡◌, sym, ap, ap₂, ◌∙◌}
use mathlib.Core.List.{List, [], ◌∷◌, ◌++◌, append_assoc}
use Prim.Native.Nat.{ℕ, suc, ◌+◌, ◌-◌, ◌≤◌, ◌<◌}
use native.Mathlib.Omega.{arith}
use lib.IntN.{ℤ, pos}
use lib.ListN.{length, get_or, set, take, drop, length-append, length-drop, take-append-drop, get_or-append}
use Rattle.std.proofs.lemmas.List.{take-take, drop-take, drop-append-le}
use lib.Seq.{take-add, drop-drop, paste, paste-suc, drop-paste, length_paste_head, drop-cons, take-suc, set_at, get_or-drop, get_or-take, get_or-append_right, length-take-le, take_at}

-- ---- a copy of j words, to a place

-- what stands behind it is the list's own
behind_copy : (d xs : List ℤ) (to j k : ℕ) → to ≤ length d → j ≤ length xs → to + j ≤ k → get_or (paste d to xs j) k (pos 0) ≡ get_or d k (pos 0)
behind_copy d xs to j k a b h =
    let head : length (take to d ++ take j xs) ≡ to + j = length_paste_head d to xs j a b in
    let at : to + j + (k - length (take to d ++ take j xs)) ≡ k = omega arith in
    get_or-append_right (take to d ++ take j xs) (drop (to + j) d) k (pos 0) (omega arith)
    ∙ get_or-drop (to + j) d (k - length (take to d ++ take j xs)) (pos 0)
    ∙ ap (λ (i : ℕ). get_or d i (pos 0)) at

-- and in it stand the words copied
in_copy : (d xs : List ℤ) (to j i : ℕ) → to ≤ length d → j ≤ length xs → i < j → get_or (paste d to xs j) (to + i) (pos 0) ≡ get_or xs i (pos 0)
in_copy d xs to j i a b h =
    let head : length (take to d ++ take j xs) ≡ to + j = length_paste_head d to xs j a b in
    let front : length (take to d) ≡ to = length-take-le to d a in
    let at : to + i - length (take to d) ≡ i = omega arith in
    get_or-append (take to d ++ take j xs) (drop (to + j) d) (pos 0) (to + i) (omega arith)
    ∙ get_or-append_right (take to d) (take j xs) (to + i) (pos 0) (omega arith)
    ∙ ap (λ (k : ℕ). get_or (take j xs) k (pos 0)) at
    ∙ get_or-take j xs i (pos 0) h

copy_long : (d xs : List ℤ) (to j : ℕ) → to + j ≤ length d → j ≤ length xs → length (paste d to xs j) ≡ length d
copy_long d xs to j a b =
    length-append (take to d ++ take j xs) (drop (to + j) d) ∙ omega (arith, length_paste_head d to xs j (omega arith) b, length-drop (to + j) d)

-- ---- down

-- j words are moved, and one more is
pub down_next :
    (d w : List ℤ) (from to j : ℕ)
    → to ≤ from
    → from + j < length d
    → w ≡ paste d to (drop from d) j
    → set w (to + j) (get_or w (from + j) (pos 0)) ≡ paste d to (drop from d) (j + 1)
down_next d w from to j le h e =
    let one : j + 1 ≡ suc j = omega arith in
    let rest = length-drop from d in
    let same : get_or w (from + j) (pos 0) ≡ get_or (drop from d) j (pos 0) =
    ap (λ (l : List ℤ). get_or l (from + j) (pos 0)) e ∙ behind_copy d (drop from d) to j (from + j) (omega arith) (omega arith) (omega arith) ∙ sym (get_or-drop from d j (pos 0)) in
    rw one (ap₂ (λ (l : List ℤ) (z : ℤ). set l (to + j) z) e same ∙ paste-suc d to (drop from d) j (pos 0) (omega arith) (omega arith))

-- ---- up

-- the words below a place are those of d, the others those of p
abbrev pub turned_at : List ℤ → List ℤ → ℕ → List ℤ
turned_at d p k = take k d ++ drop k p

turned_back : (d p : List ℤ) (k : ℕ) → k < length d → length p ≡ length d → set (turned_at d p (suc k)) k (get_or p k (pos 0)) ≡ turned_at d p k
turned_back d p k h l =
    ap (λ (x : List ℤ). set (x ++ drop (suc k) p) k (get_or p k (pos 0))) (take-suc d k (pos 0) h)
    ∙ ap (λ (x : List ℤ). set x k (get_or p k (pos 0))) (append_assoc (take k d) (get_or d k (pos 0) ∷ []) (drop (suc k) p))
    ∙ set_at (take k d) (get_or d k (pos 0)) (drop (suc k) p) (get_or p k (pos 0)) k (length-take-le k d (omega arith))
    ∙ ap (λ (x : List ℤ). take k d ++ x) (sym (drop-cons p k (pos 0) (omega arith)))

-- what the words come to
abbrev pub moved_up : List ℤ → ℕ → ℕ → ℕ → List ℤ
moved_up d from to n = paste d to (drop from d) n

module _ (d : List ℤ) (from to n : ℕ) (le : from ≤ to) (fits : to + n ≤ length d) where
  abbrev p : List ℤ
  p = moved_up d from to n

  pub up_start : d ≡ turned_at d p (to + n)
  up_start = let rest = length-drop from d in sym (ap (λ (x : List ℤ). take (to + n) d ++ x) (drop-paste d to (drop from d) n (omega arith) (omega arith)) ∙ take-append-drop (to + n) d)

  pub up_next :
      (w : List ℤ) (j : ℕ)
      → 0 < j
      → j ≤ n
      → w ≡ turned_at d p (to + j)
      → set w (to + (j - 1)) (get_or w (from + (j - 1)) (pos 0)) ≡ turned_at d p (to + (j - 1))
  up_next w j some h e =
      let rest = length-drop from d in
      let one : to + j ≡ suc (to + (j - 1)) = omega arith in
      let front : length (take (to + j) d) ≡ to + j = length-take-le (to + j) d (omega arith) in
      let read : get_or w (from + (j - 1)) (pos 0) ≡ get_or p (to + (j - 1)) (pos 0) =
      ap (λ (l : List ℤ). get_or l (from + (j - 1)) (pos 0)) e
      ∙ get_or-append (take (to + j) d) (drop (to + j) p) (pos 0) (from + (j - 1)) (omega arith)
      ∙ get_or-take (to + j) d (from + (j - 1)) (pos 0) (omega arith)
      ∙ sym (get_or-drop from d (j - 1) (pos 0))
      ∙ sym (in_copy d (drop from d) to n (j - 1) (omega arith) (omega arith) (omega arith)) in
      ap₂ (λ (l : List ℤ) (z : ℤ). set l (to + (j - 1)) z) (e ∙ ap (turned_at d p) one) read
      ∙ turned_back d p (to + (j - 1)) (omega arith) (copy_long d (drop from d) to n fits (omega arith))

  pub up_end : turned_at d p (to + 0) ≡ p
  up_end =
      let none : to + 0 ≡ to = omega arith in
      let front : length (take to d) ≡ to = length-take-le to d (omega arith) in
      let split : p ≡ take to d ++ (take n (drop from d) ++ drop (to + n) d) = append_assoc (take to d) (take n (drop from d)) (drop (to + n) d) in
      let begins : take to p ≡ take to d = ap (take to) split ∙ take_at (take to d) (take n (drop from d) ++ drop (to + n) d) to front in
      ap (turned_at d p) none ∙ ap (λ (x : List ℤ). x ++ drop to p) (sym begins) ∙ take-append-drop to p

-- ---- in a part of the words

-- what is lent of s from k on, n words, has m of its words copied from one place to another
pub in_part :
    (s : List ℤ) (k n from to m : ℕ)
    → k + n ≤ length s
    → to + m ≤ n
    → from + m ≤ n
    → take k s ++ (paste (take n (drop k s)) to (drop from (take n (drop k s))) m ++ drop n (drop k s)) ≡ paste s (k + to) (drop (k + from) s) m
in_part s k n from to m a b c =
    let l : List ℤ = drop k s in
    let w : List ℤ = take n l in
    let e : length l ≡ length s - k = length-drop k s in
    let whole : length w ≡ n = length-take-le n l (omega arith) in
    let rest : from + (n - from) ≡ n = omega arith in
    let front : take to w ≡ take to l = take-take to n l (omega arith) in
    let mid : take m (drop from w) ≡ take m (drop from l) =
    ap (λ (i : ℕ). take m (drop from (take i l))) (sym rest) ∙ ap (take m) (drop-take from (n - from) l) ∙ take-take m (n - from) (drop from l) (omega arith) in
    let back : drop (to + m) w ++ drop n l ≡ drop (to + m) l = sym (drop-append-le (to + m) w (drop n l) (omega arith)) ∙ ap (drop (to + m)) (take-append-drop n l) in
    let inner : paste w to (drop from w) m ++ drop n l ≡ (take to l ++ take m (drop from l)) ++ drop (to + m) l =
    append_assoc (take to w ++ take m (drop from w)) (drop (to + m) w) (drop n l) ∙ ap₂ (λ (x y : List ℤ). x ++ y) (ap₂ (λ (x y : List ℤ). x ++ y) front mid) back in
    let more : k + (to + m) ≡ k + to + m = omega arith in
    ap (λ (x : List ℤ). take k s ++ x) (inner ∙ append_assoc (take to l) (take m (drop from l)) (drop (to + m) l))
    ∙ sym (append_assoc (take k s) (take to l) (take m (drop from l) ++ drop (to + m) l))
    ∙ ap (λ (x : List ℤ). x ++ (take m (drop from l) ++ drop (to + m) l)) (sym (take-add k to s))
    ∙ sym (append_assoc (take (k + to) s) (take m (drop from l)) (drop (to + m) l))
    ∙ ap₂ (λ (x y : List ℤ). (take (k + to) s ++ take m x) ++ y) (drop-drop from k s) (drop-drop (to + m) k s ∙ ap (λ (i : ℕ). drop i s) more)
