-- The order of records: which of two comes first, lists in that order, and the ids of some records.
-- Assumes nothing.
use mathlib.Core.Path.{◌≡◌, refl, ◌∙◌}
use mathlib.Core.Bool.{Bool, true, false, ◌&&◌, not}
use mathlib.Core.List.Memᴰ
use mathlib.Core.List.{List, [], ◌∷◌, Memᴰ}
use mathlib.Core.Logic.{◌⊎◌, inl, inr, ⊎_elim}
use native.Mathlib.Omega.{arith}
use lib.IntN.{ℤ}
use lib.Signed.{le_z, lt_z}
use borrow.Author.Tests.{not-true}
use Rattle.ints.specs.Whole.{eq_z}
use Rattle.ints.specs.Lists.{some}
use Rattle.ints.proofs.Parts.{signed}
use Rattle.ints.proofs.Truth.{and_true, and_left, and_right, or_right, or_neither}
use Rattle.ints.proofs.Same.{unequal_below, same_comm}
use Rattle.records.specs.Order.{precedes, precedes_first, is_sorted, has_id}
use Rattle.records.specs.Soundness.{ids_distinct}
use Rattle.records.specs.declared.Record.{Record}

-- ---- the order of two records

-- the same key, and the lesser id
pub record Tied (a b : Record) : Type 0 where
  pub not_above_lem : le_z a.key b.key ≡ true
  pub not_below_lem : le_z b.key a.key ≡ true
  pub ids : lt_z a.report.id b.report.id ≡ true

pub by_key : (a b : Record) → lt_z a.key b.key ≡ true → precedes a b ≡ true
unfolding precedes
by_key a b h = rw h

pub by_id : (a b : Record) → Tied a b → precedes a b ≡ true
unfolding precedes eq_z
by_id a b h = or_right (lt_z a.key b.key) _ (and_true _ _ (and_true _ _ h.not_above_lem h.not_below_lem) h.ids)

pub cases : (a b : Record) → precedes a b ≡ true → (lt_z a.key b.key ≡ true) ⊎ Tied a b
unfolding precedes eq_z
cases a b h = go (lt_z a.key b.key) refl
  where
    go : (t : Bool) → lt_z a.key b.key ≡ t → (lt_z a.key b.key ≡ true) ⊎ Tied a b
    go true e = inl e
    go false e =
        let k = rw e at h in
        let same = and_left (le_z a.key b.key && le_z b.key a.key) (lt_z a.report.id b.report.id) k in
        inr
        (record {
          not_above_lem = and_left (le_z a.key b.key) (le_z b.key a.key) same;
          not_below_lem = and_right (le_z a.key b.key) (le_z b.key a.key) same;
          ids = and_right (le_z a.key b.key && le_z b.key a.key) (lt_z a.report.id b.report.id) k;
        })

pub precedes_trans : (a b c : Record) → precedes a b ≡ true → precedes b c ≡ true → precedes a c ≡ true
precedes_trans a b c h k = ⊎_elim first tied (cases a b h)
  where
    first : lt_z a.key b.key ≡ true → precedes a c ≡ true
    first x =
        ⊎_elim (λ y. by_key a c (omega (arith, signed))) (λ y. by_key a c (omega (arith, signed))) (cases b c k)

    both : Tied a b → Tied b c → Tied a c
    both x y =
        record { not_above_lem = omega (arith, signed); not_below_lem = omega (arith, signed); ids = omega (arith, signed) }

    tied : Tied a b → precedes a c ≡ true
    tied x = ⊎_elim (λ y. by_key a c (omega (arith, signed))) (λ y. by_id a c (both x y)) (cases b c k)

not_before_itself : (a : Record) → precedes a a ≡ true → ⊥
not_before_itself a h = ⊎_elim (λ x. omega (arith, signed)) (λ x. omega (arith, signed)) (cases a a h)

pub precedes_asym : (a b : Record) → precedes a b ≡ true → precedes b a ≡ false
precedes_asym a b h = go (precedes b a) refl
  where
    go : (t : Bool) → precedes b a ≡ t → t ≡ false
    go true e = absurd (not_before_itself a (precedes_trans a b a h e))
    go false e = refl

-- of two records with different ids one precedes the other
pub precedes_total : (a b : Record) → eq_z a.report.id b.report.id ≡ false → precedes a b ≡ false → precedes b a ≡ true
unfolding precedes eq_z
precedes_total a b n h = go (lt_z b.key a.key) refl
  where
    up : lt_z a.key b.key ≡ false
    up = (or_neither _ (eq_z a.key b.key && lt_z a.report.id b.report.id) h).0

    go : (t : Bool) → lt_z b.key a.key ≡ t → precedes b a ≡ true
    go true e = by_key b a e
    go false e =
        let x : le_z a.key b.key ≡ true = omega (arith, signed, e) in
        let y : le_z b.key a.key ≡ true = omega (arith, signed, up) in
        let same : eq_z a.key b.key ≡ true = and_true _ _ x y in
        let i : lt_z a.report.id b.report.id ≡ false = rw same at (or_neither (lt_z a.key b.key) _ h).1 in
        by_id b a (record { not_above_lem = y; not_below_lem = x; ids = unequal_below a.report.id b.report.id n (omega (arith, signed, i)) })

-- ---- lists in order

pub sorted_all : (a : Record) (rs : List Record) → is_sorted (a ∷ rs) ≡ true → {x : Record} → Memᴰ x rs → precedes a x ≡ true
unfolding is_sorted
sorted_all a [] h m = absurd (Memᴰ.not-nil m)
sorted_all a (b ∷ rs) h {x} m =
    let f : precedes a b ≡ true = and_left (precedes a b) (is_sorted (b ∷ rs)) h in
    let g : is_sorted (b ∷ rs) ≡ true = and_right (precedes a b) (is_sorted (b ∷ rs)) h in
    ⊎_elim (λ e. rw e f) (λ k. precedes_trans a b x f (sorted_all b rs g k)) (Memᴰ.cases_cons m)

pub sorted_rest : (a : Record) (rs : List Record) → is_sorted (a ∷ rs) ≡ true → is_sorted rs ≡ true
unfolding is_sorted
sorted_rest a rs h = and_right (precedes_first a rs) (is_sorted rs) h

pub sorted_cons : (a : Record) (rs : List Record) → ((x : Record) → Memᴰ x rs → precedes a x ≡ true) → is_sorted rs ≡ true → is_sorted (a ∷ rs) ≡ true
unfolding is_sorted
sorted_cons a [] f h = refl
sorted_cons a (b ∷ rs) f h = and_true (precedes a b) (is_sorted (b ∷ rs)) (f b (Memᴰ.head refl)) h

-- what comes before the first of some records in order comes before each of them
pub before_all : (r a : Record) (rs : List Record) → precedes r a ≡ true → is_sorted (a ∷ rs) ≡ true → (x : Record) → Memᴰ x (a ∷ rs) → precedes r x ≡ true
before_all r a rs h s x m =
    ⊎_elim (λ e. rw e h) (λ k. precedes_trans r a x h (sorted_all a rs s k)) (Memᴰ.cases_cons m)

-- ---- ids

-- the first of some records has another id, and so have the rest
pub first_id : (id : ℤ) (a : Record) (rs : List Record) → has_id id (a ∷ rs) ≡ false → eq_z a.report.id id ≡ false
unfolding some
first_id id a rs h = (or_neither _ (has_id id rs) h).0

pub first_other : (r a : Record) (rs : List Record) → has_id r.report.id (a ∷ rs) ≡ false → eq_z r.report.id a.report.id ≡ false
first_other r a rs h = same_comm r.report.id a.report.id ∙ first_id r.report.id a rs h

pub rest_other : (id : ℤ) (a : Record) (rs : List Record) → has_id id (a ∷ rs) ≡ false → has_id id rs ≡ false
unfolding some
rest_other id a rs h = (or_neither (eq_z a.report.id id) _ h).1

pub first_alone : (a : Record) (rs : List Record) → ids_distinct (a ∷ rs) ≡ true → has_id a.report.id rs ≡ false
unfolding ids_distinct
first_alone a rs d = not-true (has_id a.report.id rs) (and_left (not (has_id a.report.id rs)) (ids_distinct rs) d)

pub rest_distinct : (a : Record) (rs : List Record) → ids_distinct (a ∷ rs) ≡ true → ids_distinct rs ≡ true
unfolding ids_distinct
rest_distinct a rs d = and_right (not (has_id a.report.id rs)) (ids_distinct rs) d

pub distinct_cons : (a : Record) (rs : List Record) → has_id a.report.id rs ≡ false → ids_distinct rs ≡ true → ids_distinct (a ∷ rs) ≡ true
unfolding ids_distinct
distinct_cons a rs n d = rw n d
