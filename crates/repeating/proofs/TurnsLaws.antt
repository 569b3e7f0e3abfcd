-- Where several stores are there and sound, each one is; their number is what their words have room for; and no more asks are accepted than made.
-- Assumes nothing.
use mathlib.Core.Path.{◌≡◌, refl, sym, ap, ap₂, subst, ◌∙◌}
use mathlib.Core.Bool.{Bool, true, false, cond}
use mathlib.Core.List.{List}
use mathlib.Core.Logic.{dite}
use Prim.Native.Nat.{ℕ, zero, suc, ◌+◌, ◌*◌, ◌/◌, ◌≤◌, ◌<◌}
use native.Mathlib.Decide.{ℕ_discrete}
use native.Mathlib.Omega.{arith}
use borrow.Author.Tests.{ltb-false, eqb-true}
use lib.Dec.{eqb, ltb}
use lib.IntN.{ℤ}
use lib.ListN.{length, get_or}
use Rattle.std.specs.Bool.{MatchBool}
use Rattle.std.specs.List.{range_with_len, AllWithin, HoldsAt}
use Rattle.std.proofs.lemmas.List.FromFn.{length-range_with_len, get_or-range_with_len}
use Rattle.ints.proofs.Parts.{true_false}
use Rattle.ints.proofs.Truth.{and_true, and_left, and_right}
use Rattle.rows.specs.Table.{table_words}
use Rattle.records.specs.Records.{store_words}
use Rattle.records.specs.Words.{Words, are_sound}
use Rattle.ledger.specs.declared.Answer.{Answer}
use Rattle.ledger.specs.declared.Answer.TheVariants.{Accepted, Listed, Refused}
use Rattle.ledger.specs.declared.Ask.{Ask}
use Rattle.engine.specs.Index.{ask_out}
use Rattle.asking.specs.Asking.{GivesList}
use Rattle.repeating.specs.Turns.{Turns, most_stores, and_then, accepted_in, asked_once, stores_in, part_at, all_sound, asked_each, asked_over}
use Rattle.repeating.specs.Turns.{HasStores, HasStore, CanAskOnce, CanAskEach, Leaves}

-- ---- how many stores there are

fit : (a b c : Bool) (n s t : ℕ) → ltb most_stores n ≡ a → eqb (store_words * n) s ≡ b → eqb (table_words * n) t ≡ c
    → let m = cond a 0 (cond b (cond c n 0) 0) in (m ≤ most_stores) × (store_words * m ≤ s) × (table_words * m ≤ t)
fit true b c n s t p q r = (omega arith, omega arith, omega arith)
fit false false c n s t p q r = (omega arith, omega arith, omega arith)
fit false true false n s t p q r = (omega arith, omega arith, omega arith)
fit false true true n s t p q r =
    let few = ltb-false most_stores n p in
    let whole = eqb-true (store_words * n) s q in
    let same = eqb-true (table_words * n) t r in
    (few, omega (arith, whole), omega (arith, same))

pub has_stores : (stores tables : List ℤ) (n : ℕ) → n ≡ stores_in (length stores) (length tables) → HasStores stores tables n
has_stores stores tables n e =
    let m = length stores / store_words in
    let f = fit (ltb most_stores m) (eqb (store_words * m) (length stores)) (eqb (table_words * m) (length tables)) m (length stores) (length tables) refl refl refl in
    rw e (record { few = f.0; stores_there = f.1; tables_there = f.2 })

-- ---- each of them

module _ (stores tables : List ℤ) where
  pub has_store : (n k : ℕ) → HasStores stores tables n → k < n → HasStore stores tables k
  has_store n k h l = record { few = omega (arith, h, l); store_there = omega (arith, h, l); table_there = omega (arith, h, l) }

  pub sound_at : (n k : ℕ) → all_sound stores tables n ≡ true → k < n → are_sound (part_at stores tables k) ≡ true
  unfolding all_sound
  sound_at zero k e l = absurd (omega arith)
  sound_at (suc n) k e l =
      dite (ℕ_discrete k n)
      (λ q. ap (λ (i : ℕ). are_sound (part_at stores tables i)) q ∙ and_right (all_sound stores tables n) (are_sound (part_at stores tables n)) e)
      (λ q. sound_at n k (and_left (all_sound stores tables n) (are_sound (part_at stores tables n)) e) (omega (arith, q)))

  -- where one of the first n is not sound, not all are
  pub not_all : (n k : ℕ) → k < n → are_sound (part_at stores tables k) ≡ false → false ≡ all_sound stores tables n
  not_all n k l e = go (all_sound stores tables n) refl
    where
      go : (b : Bool) → all_sound stores tables n ≡ b → false ≡ b
      go true h = absurd (true_false (sym (sound_at n k h l) ∙ e))
      go false h = refl

  all_true : (n : ℕ) → ((k : ℕ) → k < n → are_sound (part_at stores tables k) ≡ true) → all_sound stores tables n ≡ true
  unfolding all_sound
  all_true zero h = refl
  all_true (suc n) h = and_true _ _ (all_true n (λ k l. h k (omega arith))) (h n (omega arith))

  number_at : (n k : ℕ) → k < n → get_or (range_with_len 0 n) k 0 ≡ k
  number_at n k l = omega (arith, get_or-range_with_len 0 n k 0 l)

  -- what `all` over the numbers of the first n answers
  pub all_answered :
      (n : ℕ) (b : Bool)
      → MatchBool b (AllWithin (λ k. are_sound (part_at stores tables k) ≡ true) (range_with_len 0 n) 0 (length (range_with_len 0 n)))
      ((k : ℕ) × (k < length (range_with_len 0 n)) × HoldsAt (λ k. are_sound (part_at stores tables k) ≡ false) (range_with_len 0 n) k)
      → b ≡ all_sound stores tables n
  all_answered n true h =
      let long = length-range_with_len 0 n in
      sym (all_true n (λ k l. ap (λ (j : ℕ). are_sound (part_at stores tables j)) (sym (number_at n k l)) ∙ h k 0 (omega arith) (omega arith)))
  all_answered n false h =
      let long = length-range_with_len 0 n in
      let l : h.0 < n = omega (arith, h.1, long) in
      not_all n h.0 l (ap (λ (j : ℕ). are_sound (part_at stores tables j)) (sym (number_at n h.0 l)) ∙ h.2 0)

  pub can_ask_once : (n k : ℕ) → CanAskEach stores tables n → k < n → CanAskOnce stores tables k
  can_ask_once n k c l = record { there = has_store n k c.there l; sound = sound_at n k c.sound l }

-- ---- the asks accepted are no more than those made

one_at_most : (a : Answer) → accepted_in a ≤ 1
one_at_most (Accepted held) = omega arith
one_at_most (Listed ids cells useful rounds) = omega arith
one_at_most (Refused r) = omega arith

pub once_few : (w : Words) (ask : Ask) (list : List ℕ) → (asked_once w ask list).accepted ≤ 1
unfolding asked_once
once_few w ask list = one_at_most (ask_out w ask list).answer

pub each_few : (stores tables : List ℤ) (ask : Ask) (list : List ℕ) (n : ℕ) → (asked_each stores tables ask list n).accepted ≤ n
unfolding asked_each
each_few stores tables ask list zero = omega arith
each_few stores tables ask list (suc n) =
    let before = each_few stores tables ask list n in
    let once = once_few (part_at stores tables n) ask (asked_each stores tables ask list n).list in
    omega (arith, before, once)

pub over_few : (stores tables : List ℤ) (ask : Ask) (list : List ℕ) (n turns : ℕ) → n ≤ most_stores
    → (asked_over stores tables ask list n turns).accepted ≤ most_stores * turns
unfolding asked_over
over_few stores tables ask list n zero h = omega arith
over_few stores tables ask list n (suc turns) h =
    let before = over_few stores tables ask list n turns h in
    let each = each_few stores tables ask (asked_over stores tables ask list n turns).list n in
    omega (arith, before, each, h)

-- ---- one ask, and more after some

pub once : (w : Words) (ask : Ask) (list after : List ℕ) (a : Answer) (n : ℕ) → GivesList (ask_out w ask list) a after → n ≡ accepted_in a
    → Leaves (asked_once w ask list) n after
unfolding asked_once
once w ask list after a n g e = record { accepted_is = e ∙ ap accepted_in g.answer_is; list_is = g.list_is }

more : (o : Turns) (f : List ℕ → Turns) (a r : ℕ) (list after : List ℕ) → Leaves o a list → Leaves (f list) r after → Leaves (and_then o f) (a + r) after
more o f a r list after x y =
    record {
      accepted_is = ap₂ ◌+◌ x.accepted_is (y.accepted_is ∙ ap (λ (l : List ℕ). (f l).accepted) x.list_is);
      list_is = y.list_is ∙ ap (λ (l : List ℕ). (f l).list) x.list_is;
    }

module _ (stores tables : List ℤ) (ask : Ask) (list₀ : List ℕ) (a r : ℕ) (list after : List ℕ) where
  pub each_next : (k : ℕ) → Leaves (asked_each stores tables ask list₀ k) a list → Leaves (asked_once (part_at stores tables k) ask list) r after
      → Leaves (asked_each stores tables ask list₀ (k + 1)) (a + r) after
  unfolding asked_each
  each_next k x y =
      let e : suc k ≡ k + 1 = omega arith in
      subst (λ (i : ℕ). Leaves (asked_each stores tables ask list₀ i) (a + r) after) e
      (more (asked_each stores tables ask list₀ k) (asked_once (part_at stores tables k) ask) a r list after x y)

  pub over_next : (n turn : ℕ) → Leaves (asked_over stores tables ask list₀ n turn) a list → Leaves (asked_each stores tables ask list n) r after
      → Leaves (asked_over stores tables ask list₀ n (turn + 1)) (a + r) after
  unfolding asked_over
  over_next n turn x y =
      let e : suc turn ≡ turn + 1 = omega arith in
      subst (λ (i : ℕ). Leaves (asked_over stores tables ask list₀ n i) (a + r) after) e
      (more (asked_over stores tables ask list₀ n turn) (λ l. asked_each stores tables ask l n) a r list after x y)
