-- Numbers put in order: the members, the length, and that the order of putting does not matter.
-- Assumes nothing.
use mathlib.Core.Path.{◌≡◌, refl, sym, ap, ◌∙◌}
use mathlib.Core.Bool.{Bool, true, false, cond}
use mathlib.Core.List.Memᴰ
use mathlib.Core.List.{List, [], ◌∷◌, Memᴰ}
use mathlib.Core.Logic.{◌⊎◌, inl, inr, ⊎_elim, dite, ◌≢◌}
use Prim.Native.Nat.{ℕ, suc, ◌≤◌, ◌<◌}
use native.Mathlib.Decide.{ℕ_discrete, dec_le}
use native.Mathlib.Omega.{arith}
use lib.Dec.{leb}
use lib.ListN.{length}
use borrow.Author.Tests.{leb-true, leb-false, le-leb, lt-leb}
use Rattle.ints.proofs.Rising.{Rising, none, one}
use Rattle.ledger.specs.Machine.{put_in_order}

put_first : (n m : ℕ) (ms : List ℕ) → n ≤ m → put_in_order n (m ∷ ms) ≡ n ∷ m ∷ ms
unfolding put_in_order
put_first n m ms h = rw (le-leb n m h)

put_later : (n m : ℕ) (ms : List ℕ) → m < n → put_in_order n (m ∷ ms) ≡ m ∷ put_in_order n ms
unfolding put_in_order
put_later n m ms h = rw (lt-leb n m h)

-- a number is in the list after putting exactly when it is the one put or was there
put_in : (n : ℕ) (ms : List ℕ) {k : ℕ} → Memᴰ k (put_in_order n ms) → (k ≡ n) ⊎ Memᴰ k ms
unfolding put_in_order
put_in n [] m = Memᴰ.cases_cons m
put_in n (a ∷ ms) {k} m = go (leb n a) m (λ i. put_in n ms i)
  where
    go : (t : Bool) → Memᴰ k (cond t (n ∷ a ∷ ms) (a ∷ put_in_order n ms)) → (Memᴰ k (put_in_order n ms) → (k ≡ n) ⊎ Memᴰ k ms) → (k ≡ n) ⊎ Memᴰ k (a ∷ ms)
    go true i ih = Memᴰ.cases_cons i
    go false i ih =
        ⊎_elim (λ p. inr (Memᴰ.head p)) (λ j. ⊎_elim inl (λ l. inr (Memᴰ.tail l)) (ih j)) (Memᴰ.cases_cons i)

put_has : (n : ℕ) (ms : List ℕ) {k : ℕ} → (k ≡ n) ⊎ Memᴰ k ms → Memᴰ k (put_in_order n ms)
unfolding put_in_order
put_has n [] m = ⊎_elim (λ p. Memᴰ.head p) (λ i. absurd (Memᴰ.not-nil i)) m
put_has n (a ∷ ms) {k} m = go (leb n a) m (λ i. put_has n ms i)
  where
    go : (t : Bool) → (k ≡ n) ⊎ Memᴰ k (a ∷ ms) → ((k ≡ n) ⊎ Memᴰ k ms → Memᴰ k (put_in_order n ms)) → Memᴰ k (cond t (n ∷ a ∷ ms) (a ∷ put_in_order n ms))
    go true i ih = ⊎_elim (λ p. Memᴰ.head p) (λ j. Memᴰ.tail j) i
    go false i ih =
        ⊎_elim (λ p. Memᴰ.tail (ih (inl p)))
        (λ j. ⊎_elim (λ p. Memᴰ.head p) (λ l. Memᴰ.tail (ih (inr l))) (Memᴰ.cases_cons j)) i

pub put_length : (n : ℕ) (ms : List ℕ) → length (put_in_order n ms) ≡ suc (length ms)
unfolding put_in_order
put_length n [] = refl
put_length n (m ∷ ms) = go (leb n m) (put_length n ms)
  where
    go : (t : Bool) → length (put_in_order n ms) ≡ suc (length ms) → length (cond t (n ∷ m ∷ ms) (m ∷ put_in_order n ms)) ≡ suc (suc (length ms))
    go true e = refl
    go false e = ap suc e

pub put_rising : (n : ℕ) {ms : List ℕ} → Rising ms → (Memᴰ n ms → ⊥) → Rising (put_in_order n ms)
unfolding put_in_order
put_rising n none new = one (λ m i. absurd (Memᴰ.not-nil i)) none
put_rising n (one {n = m} {ns = ms} above r) new = go (leb n m) refl (put_rising n r (λ i. new (Memᴰ.tail i)))
  where
    go : (t : Bool) → leb n m ≡ t → Rising (put_in_order n ms) → Rising (cond t (n ∷ m ∷ ms) (m ∷ put_in_order n ms))
    go true e ih =
        let h = leb-true n m e in
        let other : n ≢ m = λ p. new (Memᴰ.head p) in
        let less : n < m = omega arith in
        one {n = n} {ns = m ∷ ms} (λ k i. ⊎_elim (λ (p : k ≡ m). omega arith) (λ j. let a = above k j in omega arith) (Memᴰ.cases_cons i)) (one above r)
    go false e ih =
        let h = leb-false n m e in
        one {n = m} {ns = put_in_order n ms} (λ k i. ⊎_elim (λ (p : k ≡ n). omega arith) (λ j. above k j) (put_in n ms i)) ih

-- ---- the order of putting

put_two : (a b m : ℕ) (ms : List ℕ) → a ≤ b → put_in_order a (put_in_order b ms) ≡ put_in_order b (put_in_order a ms)
    → put_in_order a (put_in_order b (m ∷ ms)) ≡ put_in_order b (put_in_order a (m ∷ ms))
put_two a b m ms h ih =
    dite (ℕ_discrete a b) (λ (e : a ≡ b). rw e)
    (λ e.
    let less : a < b = omega arith in
    dite (dec_le b m)
    (λ l.
    ap (put_in_order a) (put_first b m ms l) ∙ put_first a b (m ∷ ms) h
    ∙ sym (ap (put_in_order b) (put_first a m ms (omega arith)) ∙ put_later b a (m ∷ ms) less ∙ ap (λ (l : List ℕ). a ∷ l) (put_first b m ms l)))
    (λ n.
    let over : m < b = omega arith in
    dite (dec_le a m)
    (λ l.
    ap (put_in_order a) (put_later b m ms over) ∙ put_first a m (put_in_order b ms) l
    ∙ sym (ap (put_in_order b) (put_first a m ms l) ∙ put_later b a (m ∷ ms) less ∙ ap (λ (l : List ℕ). a ∷ l) (put_later b m ms over)))
    (λ k.
    let high : m < a = omega arith in
    ap (put_in_order a) (put_later b m ms over) ∙ put_later a m (put_in_order b ms) high ∙ ap (λ (l : List ℕ). m ∷ l) ih
    ∙ sym (ap (put_in_order b) (put_later a m ms high) ∙ put_later b m (put_in_order a ms) over))))

put_last : (a b : ℕ) → a < b → put_in_order a (put_in_order b []) ≡ put_in_order b (put_in_order a [])
unfolding put_in_order
put_last a b l = put_first a b [] (omega arith) ∙ sym (put_later b a [] l)

put_up : (a b : ℕ) → a ≤ b → (ms : List ℕ) → put_in_order a (put_in_order b ms) ≡ put_in_order b (put_in_order a ms)
put_up a b h [] =
    dite (ℕ_discrete a b) (λ (e : a ≡ b). rw e)
    (λ e. put_last a b (omega arith))
put_up a b h (m ∷ ms) = put_two a b m ms h (put_up a b h ms)

pub put_comm : (a b : ℕ) (ms : List ℕ) → put_in_order a (put_in_order b ms) ≡ put_in_order b (put_in_order a ms)
put_comm a b ms = dite (dec_le a b) (λ h. put_up a b h ms) (λ h. sym (put_up b a (omega arith) ms))

-- ---- a whole list put in order

unfoldable pub in_order : List ℕ → List ℕ
in_order [] = []
in_order (n ∷ ns) = put_in_order n (in_order ns)

pub in_order_in : (ns : List ℕ) {k : ℕ} → Memᴰ k (in_order ns) → Memᴰ k ns
unfolding in_order
in_order_in [] m = m
in_order_in (n ∷ ns) m =
    ⊎_elim (λ p. Memᴰ.head p) (λ i. Memᴰ.tail (in_order_in ns i)) (put_in n (in_order ns) m)

pub in_order-has : (ns : List ℕ) {k : ℕ} → Memᴰ k ns → Memᴰ k (in_order ns)
unfolding in_order
in_order-has [] m = m
in_order-has (n ∷ ns) m =
    put_has n (in_order ns) (⊎_elim (λ p. inl p) (λ i. inr (in_order-has ns i)) (Memᴰ.cases_cons m))

pub in_order-length : (ns : List ℕ) → length (in_order ns) ≡ length ns
unfolding in_order
in_order-length [] = refl
in_order-length (n ∷ ns) = put_length n (in_order ns) ∙ ap suc (in_order-length ns)

-- no number twice
pub data Apart : List ℕ → Type 0 where
  empty : Apart []
  more : {n : ℕ} {ns : List ℕ} → (Memᴰ n ns → ⊥) → Apart ns → Apart (n ∷ ns)

pub in_order-rising : {ns : List ℕ} → Apart ns → Rising (in_order ns)
unfolding in_order
in_order-rising empty = none
in_order-rising (more {n} {ns} new r) = put_rising n (in_order-rising r) (λ m. new (in_order_in ns m))
