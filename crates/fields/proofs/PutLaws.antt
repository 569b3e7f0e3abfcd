-- The laws of a text put into bytes: its last byte apart, one text after another, in front, a single byte, and into the part from a place on.
-- Assumes nothing.
use mathlib.Core.Path.{◌≡◌, sym, ap, ap₂, ◌∙◌}
use mathlib.Core.List.{List, [], ◌∷◌, ◌++◌, append_assoc, append-nil}
use Prim.Native.Nat.{ℕ, suc, ◌+◌, ◌-◌, ◌≤◌, ◌<◌}
use native.Mathlib.Nat.{add-zero, zero-add}
use native.Mathlib.Omega.{arith}
use lib.ListN.{length, take, drop, set, length-append, length-set, length-take, length-drop, drop_of_length-le, take-append-drop}
use lib.Seq.{take-set-le, drop-set-lt, drop-cons, get_or-set_same, take_at, drop-append-add, drop-drop, take_all}
use Rattle.fields.specs.Put.{put}

module _ (out : List ℕ) (at : ℕ) where
  pub put_none : put out at [] ≡ out
  unfolding put
  put_none =
      ap₂ ◌++◌ (append-nil (take at out)) (ap (λ (i : ℕ). drop i out) (add-zero at)) ∙ take-append-drop at out

  module _ (xs : List ℕ) where
    -- the bytes up to the end of the text, and those after it
    abbrev front : List ℕ
    front = take at out ++ xs

    abbrev end : ℕ
    end = at + length xs

    length_front : at ≤ length out → length front ≡ end
    length_front h = simp (length-append, length-take) (omega arith)

    rest : (b : ℕ) → end < length out → drop end (set out end b) ≡ b ∷ drop (suc end) out
    rest b h =
        drop-cons (set out end b) end 0 (simp length-set h)
        ∙ ap₂ ◌∷◌ (get_or-set_same out end b 0 h) (drop-set-lt (suc end) out end b (omega arith))

    -- the last byte of a text is set first
    pub put_last : (b : ℕ) → end < length out → put out at (xs ++ b ∷ []) ≡ put (set out end b) at xs
    unfolding put
    put_last b h =
        let e : at + length (xs ++ b ∷ []) ≡ suc end = omega (arith, length-append xs (b ∷ [])) in
        ap₂ (λ (t : List ℕ) (i : ℕ). t ++ drop i out) (sym (append_assoc (take at out) xs (b ∷ []))) e
        ∙ append_assoc front (b ∷ []) (drop (suc end) out)
        ∙ ap₂ (λ (s t : List ℕ). (s ++ xs) ++ t) (sym (take-set-le at out end b (omega arith))) (sym (rest b h))

    -- one text after another
    pub put_put : (ys : List ℕ) → at ≤ length out → put (put out at xs) end ys ≡ put out at (xs ++ ys)
    unfolding put
    put_put ys h =
        let l = length_front h in
        let e : at + length (xs ++ ys) ≡ end + length ys = omega (arith, length-append xs ys) in
        let q : end + length ys ≡ length front + length ys = omega arith in
        ap₂ (λ (s t : List ℕ). (s ++ ys) ++ t) (take_at front (drop end out) end l)
        (ap (λ (i : ℕ). drop i (front ++ drop end out)) q ∙ drop-append-add front (drop end out) (length ys) ∙ drop-drop (length ys) end out)
        ∙ ap₂ (λ (t : List ℕ) (i : ℕ). t ++ drop i out) (append_assoc (take at out) xs ys) (sym e)

pub put_front : (out text : List ℕ) → put out 0 text ≡ text ++ drop (length text) out
unfolding put
put_front out text = ap (λ (i : ℕ). text ++ drop i out) (zero-add (length text))

-- one byte put is one byte set
pub put_byte : (out : List ℕ) (at b : ℕ) → at < length out → put out at (b ∷ []) ≡ set out at b
put_byte out at b h =
    put_last out at [] b (rw (add-zero at) h) ∙ put_none (set out (at + 0) b) at ∙ ap (λ (i : ℕ). set out i b) (add-zero at)

-- a text that was put, and one byte more
pub put_more :
    (out out' text : List ℕ) (at b : ℕ)
    → at + length text < length out
    → length out' ≡ length out
    → out' ≡ put out at text
    → set out' (at + length text) b ≡ put out at (text ++ b ∷ [])
put_more out out' text at b room same is =
    sym (put_byte out' (at + length text) b (omega arith))
    ∙ ap (λ (t : List ℕ). put t (at + length text) (b ∷ [])) is
    ∙ put_put out at text (b ∷ []) (omega arith)

-- a text written in front of the bytes from a place on
pub put_part :
    (out text : List ℕ) (at : ℕ)
    → take at out ++ ((text ++ drop (length text) (take (length out - at) (drop at out))) ++ drop (length out - at) (drop at out)) ≡ put out at text
unfolding put
put_part out text at =
    let k = length out - at in
    let long : length (drop at out) ≤ k = omega (arith, length-drop at out) in
    ap₂ (λ (mid rest : List ℕ). take at out ++ ((text ++ drop (length text) mid) ++ rest)) (take_all k (drop at out) long) (drop_of_length-le (drop at out) long)
    ∙ ap (λ (t : List ℕ). take at out ++ t) (append-nil (text ++ drop (length text) (drop at out)))
    ∙ ap (λ (rest : List ℕ). take at out ++ (text ++ rest)) (drop-drop (length text) at out)
    ∙ sym (append_assoc (take at out) text (drop (at + length text) out))
