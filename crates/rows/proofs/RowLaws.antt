-- The laws of rows: joining is the join of an order, "a holds no speed that b does not"; widening keeps every speed and adds one; a valid row
-- is the empty one or has its speeds in range; and the bounds of a list of rows are the smallest row that holds each of them.
-- Assumes nothing.
use mathlib.Core.Path.{◌≡◌, refl, sym, ap, ◌∙◌, subst}
use mathlib.Core.Bool.{Bool, true, false, ◌&&◌, ◌||◌}
use mathlib.Core.List.Memᴰ
use mathlib.Core.List.{List, [], ◌∷◌, ◌++◌, Memᴰ}
use mathlib.Core.Logic.{◌⊎◌, inl, inr, ⊎_elim}
use Prim.Native.Nat.{◌≤◌}
use native.Mathlib.Omega.{arith}
use lib.IntN.{ℤ, pos, negsuc, nat_abs}
use lib.Signed.{le_z}
use Rattle.ints.specs.Whole.{min_z, max_z, eq_z, between}
use Rattle.ints.proofs.Parts.{signed, abs, one_part, true_false}
use Rattle.ints.proofs.Least.{min_comm, max_comm, min_assoc, max_assoc, min-same, max-same, min-below, max_above, min-greatest, max_least, le_refl, le_trans}
use Rattle.ints.proofs.Truth.{and_true, and_left, and_right}
use Rattle.ints.proofs.Same.{same_is, is_same}
use Rattle.grid.specs.Units.{speed_limit}
use Rattle.rows.specs.Row.{empty_row, row_of_drift, joined, widened, holds, same_row, is_empty, valid_axis, valid_row, bounds_of, Within}
use Rattle.rows.specs.Needs.{empty_axis}
use Rattle.rows.specs.declared.Drift.{Drift}
use Rattle.rows.specs.declared.Row.{Row}

-- rows with the same four numbers are the same
pub same_numbers : {a b : Row} → a.least_vx ≡ b.least_vx → a.greatest_vx ≡ b.greatest_vx → a.least_vy ≡ b.least_vy → a.greatest_vy ≡ b.greatest_vy → a ≡ b
same_numbers p q r s = λ i. record { least_vx = p i; greatest_vx = q i; least_vy = r i; greatest_vy = s i }

-- a row is valid by the tests of its axes, none of which waits for another
pub valid_parts :
    (r : Row) (a b c d : Bool)
    → a ≡ empty_axis r.least_vx r.greatest_vx
    → b ≡ empty_axis r.least_vy r.greatest_vy
    → c ≡ valid_axis r.least_vx r.greatest_vx
    → d ≡ valid_axis r.least_vy r.greatest_vy
    → (a && b) || (c && d) ≡ valid_row r
unfolding valid_row is_empty same_row
valid_parts r a b c d p q s t = λ i. (p i && q i) || (s i && t i)

-- ---- joining

pub joined_comm : (a b : Row) → joined a b ≡ joined b a
unfolding joined
joined_comm a b = same_numbers (min_comm _ _) (max_comm _ _) (min_comm _ _) (max_comm _ _)

pub joined_assoc : (a b c : Row) → joined (joined a b) c ≡ joined a (joined b c)
unfolding joined
joined_assoc a b c = same_numbers (min_assoc _ _ _) (max_assoc _ _ _) (min_assoc _ _ _) (max_assoc _ _ _)

pub joined_same : (a : Row) → joined a a ≡ a
unfolding joined
joined_same a = same_numbers (min-same _) (max-same _) (min-same _) (max-same _)

-- two joined rows joined with two others: the first with the first, and the second with the second
pub joined_across : (a b c d : Row) → joined (joined a b) (joined c d) ≡ joined (joined a c) (joined b d)
joined_across a b c d =
    joined_assoc a b (joined c d)
    ∙ ap (joined a) (sym (joined_assoc b c d) ∙ ap (λ (x : Row). joined x d) (joined_comm b c) ∙ joined_assoc c b d)
    ∙ sym (joined_assoc a c (joined b d))

-- ---- the order of rows

pub within_refl : (a : Row) → Within a a
within_refl a =
    record {
      least_x = le_refl a.least_vx;
      greatest_x = le_refl a.greatest_vx;
      least_y = le_refl a.least_vy;
      greatest_y = le_refl a.greatest_vy;
    }

pub within_trans : {a b c : Row} → Within a b → Within b c → Within a c
within_trans {a} {b} {c} h k =
    record {
      least_x = le_trans c.least_vx b.least_vx a.least_vx k.least_x h.least_x;
      greatest_x = le_trans a.greatest_vx b.greatest_vx c.greatest_vx h.greatest_x k.greatest_x;
      least_y = le_trans c.least_vy b.least_vy a.least_vy k.least_y h.least_y;
      greatest_y = le_trans a.greatest_vy b.greatest_vy c.greatest_vy h.greatest_y k.greatest_y;
    }

same_by_order : (a b : ℤ) → le_z a b ≡ true → le_z b a ≡ true → a ≡ b
same_by_order a b h k = omega (arith, signed)

pub within_antisym : {a b : Row} → Within a b → Within b a → a ≡ b
within_antisym {a} {b} h k =
    same_numbers
    (same_by_order a.least_vx b.least_vx k.least_x h.least_x)
    (same_by_order a.greatest_vx b.greatest_vx h.greatest_x k.greatest_x)
    (same_by_order a.least_vy b.least_vy k.least_y h.least_y)
    (same_by_order a.greatest_vy b.greatest_vy h.greatest_y k.greatest_y)

pub within_joined_left : (a b : Row) → Within a (joined a b)
unfolding joined
within_joined_left a b =
    record {
      least_x = (min-below a.least_vx b.least_vx).0;
      greatest_x = (max_above a.greatest_vx b.greatest_vx).0;
      least_y = (min-below a.least_vy b.least_vy).0;
      greatest_y = (max_above a.greatest_vy b.greatest_vy).0;
    }

pub within_joined_right : (a b : Row) → Within b (joined a b)
within_joined_right a b = rw (joined_comm a b) (within_joined_left b a)

pub joined_within : {a b c : Row} → Within a c → Within b c → Within (joined a b) c
unfolding joined
joined_within {a} {b} {c} h k =
    record {
      least_x = min-greatest a.least_vx b.least_vx c.least_vx h.least_x k.least_x;
      greatest_x = max_least a.greatest_vx b.greatest_vx c.greatest_vx h.greatest_x k.greatest_x;
      least_y = min-greatest a.least_vy b.least_vy c.least_vy h.least_y k.least_y;
      greatest_y = max_least a.greatest_vy b.greatest_vy c.greatest_vy h.greatest_y k.greatest_y;
    }

-- a row within another adds nothing to it
pub joined_absorbs : {a b : Row} → Within a b → joined a b ≡ b
joined_absorbs {a} {b} h = within_antisym (joined_within h (within_refl b)) (within_joined_right a b)

-- ---- holding a drift

between_wider : (l g l' g' v : ℤ) → le_z l' l ≡ true → le_z g g' ≡ true → between l g v ≡ true → between l' g' v ≡ true
between_wider l g l' g' v h k b =
    and_true _ _ (le_trans l' l v h (and_left _ (le_z v g) b)) (le_trans v g g' (and_right (le_z l v) _ b) k)

pub holds_within : {a b : Row} → Within a b → (v : Drift) → holds a v ≡ true → holds b v ≡ true
unfolding holds
holds_within {a} {b} w v h =
    and_true _ _
    (between_wider a.least_vx a.greatest_vx b.least_vx b.greatest_vx v.vx w.least_x w.greatest_x (and_left _ (between a.least_vy a.greatest_vy v.vy) h))
    (between_wider a.least_vy a.greatest_vy b.least_vy b.greatest_vy v.vy w.least_y w.greatest_y (and_right (between a.least_vx a.greatest_vx v.vx) _ h))

pub holds_one : (v : Drift) → holds (row_of_drift v) v ≡ true
unfolding holds
holds_one v =
    and_true _ _ (and_true _ _ (le_refl v.vx) (le_refl v.vx)) (and_true _ _ (le_refl v.vy) (le_refl v.vy))

-- the row of a drift is within every row that holds the drift
pub held_within : {r : Row} {v : Drift} → holds r v ≡ true → Within (row_of_drift v) r
unfolding holds
held_within {r} {v} h =
    let x = and_left _ (between r.least_vy r.greatest_vy v.vy) h in
    let y = and_right (between r.least_vx r.greatest_vx v.vx) _ h in
    record {
      least_x = and_left _ (le_z v.vx r.greatest_vx) x;
      greatest_x = and_right (le_z r.least_vx v.vx) _ x;
      least_y = and_left _ (le_z v.vy r.greatest_vy) y;
      greatest_y = and_right (le_z r.least_vy v.vy) _ y;
    }

pub widened_keeps : (r : Row) (u v : Drift) → holds r v ≡ true → holds (widened r u) v ≡ true
widened_keeps r u v h = holds_within (within_joined_left r (row_of_drift u)) v h

pub widened_holds : (r : Row) (v : Drift) → holds (widened r v) v ≡ true
widened_holds r v = holds_within (within_joined_right r (row_of_drift v)) v (holds_one v)

-- ---- the same row, and the empty one

pub same_row_true : (a b : Row) → same_row a b ≡ true → a ≡ b
unfolding same_row
same_row_true a b h =
    let x = and_left _ (eq_z a.least_vy b.least_vy && eq_z a.greatest_vy b.greatest_vy) h in
    let y = and_right (eq_z a.least_vx b.least_vx && eq_z a.greatest_vx b.greatest_vx) _ h in
    same_numbers
    (same_is _ _ (and_left _ (eq_z a.greatest_vx b.greatest_vx) x))
    (same_is _ _ (and_right (eq_z a.least_vx b.least_vx) _ x))
    (same_is _ _ (and_left _ (eq_z a.greatest_vy b.greatest_vy) y))
    (same_is _ _ (and_right (eq_z a.least_vy b.least_vy) _ y))

pub same_row_refl : (a : Row) → same_row a a ≡ true
unfolding same_row
same_row_refl a = and_true _ _ (and_true _ _ (is_same _ _ refl) (is_same _ _ refl)) (and_true _ _ (is_same _ _ refl) (is_same _ _ refl))

pub empty_is : (r : Row) → is_empty r ≡ true → r ≡ empty_row
unfolding is_empty
empty_is r h = same_row_true r empty_row h

pub is_empty_lem : {r : Row} → r ≡ empty_row → is_empty r ≡ true
unfolding is_empty
is_empty_lem e = rw e (same_row_refl empty_row)

-- ---- valid rows: the empty one, and those whose speeds are in range

pub record RangedAxis (least greatest : ℤ) : Type 0 where
  pub low : le_z (negsuc 499) least ≡ true
  pub order : le_z least greatest ≡ true
  pub high : le_z greatest (pos 500) ≡ true
  pub least_size : nat_abs least ≤ 500
  pub greatest_size : nat_abs greatest ≤ 500

pub record Ranged (r : Row) : Type 0 where
  pub x : RangedAxis r.least_vx r.greatest_vx
  pub y : RangedAxis r.least_vy r.greatest_vy

ranged_axis : (l g : ℤ) → le_z (negsuc 499) l ≡ true → le_z l g ≡ true → le_z g (pos 500) ≡ true → RangedAxis l g
ranged_axis l g a b c =
    record {
      low = a;
      order = b;
      high = c;
      least_size = omega (arith, signed, abs l, one_part l, one_part g);
      greatest_size = omega (arith, signed, abs g, one_part l, one_part g);
    }

axis_ranged : (l g : ℤ) → valid_axis l g ≡ true → RangedAxis l g
axis_ranged l g h =
    let k = and_right (le_z (negsuc 499) l) _ h in
    ranged_axis l g (and_left _ (le_z l g && le_z g (pos 500)) h) (and_left _ (le_z g (pos 500)) k) (and_right (le_z l g) _ k)

ranged_axis_valid : {l g : ℤ} → RangedAxis l g → valid_axis l g ≡ true
ranged_axis_valid h = and_true _ _ h.low (and_true _ _ h.order h.high)

pub ranged_not_empty : {r : Row} → Ranged r → is_empty r ≡ false
ranged_not_empty {r} h = go (is_empty r) refl
  where
    go : (t : Bool) → is_empty r ≡ t → t ≡ false
    go true e = absurd (true_false (sym (simp (empty_is r e) at h.x.order)))
    go false e = refl

pub ranged_valid : {r : Row} → Ranged r → valid_row r ≡ true
unfolding valid_row
ranged_valid {r} h =
    simp (ranged_not_empty h) (and_true _ _ (ranged_axis_valid h.x) (ranged_axis_valid h.y))

pub empty_valid : valid_row empty_row ≡ true
unfolding valid_row
empty_valid = simp (is_empty_lem {r = empty_row} refl)

pub valid_ranged : (r : Row) → valid_row r ≡ true → is_empty r ≡ false → Ranged r
unfolding valid_row
valid_ranged r v e =
    let h = simp e at v in
    record {
      x = axis_ranged _ _ (and_left _ (valid_axis r.least_vy r.greatest_vy) h);
      y = axis_ranged _ _ (and_right (valid_axis r.least_vx r.greatest_vx) _ h);
    }

pub valid_cases : (r : Row) → valid_row r ≡ true → (r ≡ empty_row) ⊎ Ranged r
valid_cases r v = go (is_empty r) refl
  where
    go : (t : Bool) → is_empty r ≡ t → (r ≡ empty_row) ⊎ Ranged r
    go true e = inl (empty_is r e)
    go false e = inr (valid_ranged r v e)

-- ---- the empty row is within every valid row, and joining with it changes nothing

ranged_within : {r : Row} → Ranged r → Within empty_row r
ranged_within {r} h =
    record {
      least_x = omega (arith, signed, h.x.order, h.x.high);
      greatest_x = omega (arith, signed, h.x.low, h.x.order);
      least_y = omega (arith, signed, h.y.order, h.y.high);
      greatest_y = omega (arith, signed, h.y.low, h.y.order);
    }

pub valid_within : (r : Row) → valid_row r ≡ true → Within empty_row r
valid_within r v = ⊎_elim (λ e. rw e (within_refl empty_row)) ranged_within (valid_cases r v)

pub joined_empty_left : (r : Row) → valid_row r ≡ true → joined empty_row r ≡ r
joined_empty_left r v = joined_absorbs (valid_within r v)

joined_with_empty : {a : Row} (b : Row) → a ≡ empty_row → valid_row b ≡ true → joined a b ≡ b
joined_with_empty b e v = ap (λ (x : Row). joined x b) e ∙ joined_empty_left b v

pub joined_empty_right : (r : Row) → valid_row r ≡ true → joined r empty_row ≡ r
joined_empty_right r v = joined_comm r empty_row ∙ joined_empty_left r v

-- a valid row within the empty one is the empty one
pub within_empty : (r : Row) → valid_row r ≡ true → Within r empty_row → r ≡ empty_row
within_empty r v h = within_antisym h (valid_within r v)

pub holds_not_empty : (r : Row) (v : Drift) → holds r v ≡ true → is_empty r ≡ false
holds_not_empty r v h = go (is_empty r) refl
  where
    w : Within (row_of_drift v) r
    w = held_within h

    go : (t : Bool) → is_empty r ≡ t → t ≡ false
    go true e =
        absurd (true_false (sym (simp (empty_is r e) at (le_trans r.least_vx v.vx r.greatest_vx w.least_x w.greatest_x))))
    go false e = refl

-- ---- joining and widening keep rows valid

axes_joined : {l g l' g' : ℤ} → RangedAxis l g → RangedAxis l' g' → RangedAxis (min_z l l') (max_z g g')
axes_joined {l} {g} {l'} {g'} h k =
    ranged_axis (min_z l l') (max_z g g')
    (min-greatest l l' (negsuc 499) h.low k.low)
    (le_trans (min_z l l') l (max_z g g') (min-below l l').0 (le_trans l g (max_z g g') h.order (max_above g g').0))
    (max_least g g' (pos 500) h.high k.high)

pub joined_ranged : {a b : Row} → Ranged a → Ranged b → Ranged (joined a b)
unfolding joined
joined_ranged h k = record { x = axes_joined h.x k.x; y = axes_joined h.y k.y }

-- it is enough that one of two valid rows is not empty
pub joined_ranged_right : (a : Row) {b : Row} → valid_row a ≡ true → Ranged b → Ranged (joined a b)
joined_ranged_right a {b} v k =
    ⊎_elim (λ e. subst Ranged (sym (joined_with_empty b e (ranged_valid k))) k) (λ h. joined_ranged h k) (valid_cases a v)

pub joined_ranged_left : {a : Row} (b : Row) → Ranged a → valid_row b ≡ true → Ranged (joined a b)
joined_ranged_left {a} b h v = rw (joined_comm a b) (joined_ranged_right b v h)

pub joined_valid : (a b : Row) → valid_row a ≡ true → valid_row b ≡ true → valid_row (joined a b) ≡ true
joined_valid a b u v =
    ⊎_elim
    (λ e. ap valid_row (joined_with_empty b e v) ∙ v)
    (λ h. ranged_valid (joined_ranged_left b h v))
    (valid_cases a u)

axis_of_speed : (v : ℤ) → nat_abs v ≤ 500 → RangedAxis v v
axis_of_speed v h =
    ranged_axis v v (omega (arith, signed, abs v)) (le_refl v) (omega (arith, signed, abs v))

-- a drift that a float may have
pub record DriftInRange (v : Drift) : Type 0 where
  pub small_x : nat_abs v.vx ≤ speed_limit
  pub small_y : nat_abs v.vy ≤ speed_limit

pub drift_ranged : (v : Drift) → DriftInRange v → Ranged (row_of_drift v)
drift_ranged v h = record { x = axis_of_speed v.vx h.small_x; y = axis_of_speed v.vy h.small_y }

pub widened_ranged : (r : Row) (v : Drift) → valid_row r ≡ true → DriftInRange v → Ranged (widened r v)
widened_ranged r v valid h = joined_ranged_right r valid (drift_ranged v h)

pub widened_valid : (r : Row) (v : Drift) → valid_row r ≡ true → DriftInRange v → (valid_row (widened r v) ≡ true) × (is_empty (widened r v) ≡ false)
widened_valid r v valid h =
    let w = widened_ranged r v valid h in
    (ranged_valid w, ranged_not_empty w)

-- ---- bounds

-- every row of the list is valid
abbrev pub AllValid : List Row → Type 0
AllValid rs = (r : Row) → Memᴰ r rs → valid_row r ≡ true

pub bounds_valid : (rs : List Row) → AllValid rs → valid_row (bounds_of rs) ≡ true
unfolding bounds_of
bounds_valid [] v = empty_valid
bounds_valid (r ∷ rs) v =
    joined_valid r (bounds_of rs) (v r (Memᴰ.head refl)) (bounds_valid rs (λ q m. v q (Memᴰ.tail m)))

-- the bounds hold every row of the list
pub bounds_hold : {r : Row} (rs : List Row) → Memᴰ r rs → Within r (bounds_of rs)
unfolding bounds_of
bounds_hold [] m = absurd (Memᴰ.not-nil m)
bounds_hold (q ∷ rs) m =
    ⊎_elim
    (λ e. rw e (within_joined_left q (bounds_of rs)))
    (λ k. within_trans (bounds_hold rs k) (within_joined_right q (bounds_of rs)))
    (Memᴰ.cases_cons m)

pub bounds_over_empty : (rs : List Row) → Within empty_row (bounds_of rs)
unfolding bounds_of
bounds_over_empty [] = within_refl empty_row
bounds_over_empty (r ∷ rs) = within_trans (bounds_over_empty rs) (within_joined_right r (bounds_of rs))

-- a row that holds the empty one and every row of the list holds the bounds
pub bounds_within : {b : Row} (rs : List Row) → Within empty_row b → ((r : Row) → Memᴰ r rs → Within r b) → Within (bounds_of rs) b
unfolding bounds_of
bounds_within [] e h = e
bounds_within (r ∷ rs) e h =
    joined_within (h r (Memᴰ.head refl)) (bounds_within rs e (λ q m. h q (Memᴰ.tail m)))

-- more rows have wider bounds
pub bounds_grow : (xs ys : List Row) → ((r : Row) → Memᴰ r xs → Memᴰ r ys) → Within (bounds_of xs) (bounds_of ys)
bounds_grow xs ys h = bounds_within xs (bounds_over_empty ys) (λ r m. bounds_hold ys (h r m))

-- the bounds are empty exactly when every row is
pub bounds_none : (rs : List Row) → AllValid rs → is_empty (bounds_of rs) ≡ true → (r : Row) → Memᴰ r rs → is_empty r ≡ true
bounds_none rs v e r m =
    is_empty_lem (within_empty r (v r m) (subst (Within r) (empty_is (bounds_of rs) e) (bounds_hold rs m)))

pub none_bounds : (rs : List Row) → ((r : Row) → Memᴰ r rs → is_empty r ≡ true) → is_empty (bounds_of rs) ≡ true
none_bounds rs h = is_empty_lem (within_antisym (bounds_within rs (within_refl empty_row) each) (bounds_over_empty rs))
  where
    each : (r : Row) → Memᴰ r rs → Within r empty_row
    each r m = rw (empty_is r (h r m)) (within_refl empty_row)

-- where the bounds are not empty, a row that holds every nonempty row of the list holds them
pub bounds_smallest : {b : Row} (rs : List Row) → AllValid rs → is_empty (bounds_of rs) ≡ false → ((r : Row) → Memᴰ r rs → is_empty r ≡ false → Within r b) → Within (bounds_of rs) b
unfolding bounds_of
bounds_smallest [] v e h = absurd (true_false (sym (is_empty_lem {r = empty_row} refl) ∙ e))
bounds_smallest {b} (r ∷ rs) v e h =
    ⊎_elim
    (none (λ n. bounds_smallest rs below n (λ q m. h q (Memᴰ.tail m))))
    some
    (valid_cases r (v r (Memᴰ.head refl)))
  where
    below : AllValid rs
    below q m = v q (Memᴰ.tail m)

    none : (is_empty (bounds_of rs) ≡ false → Within (bounds_of rs) b) → r ≡ empty_row → Within (joined r (bounds_of rs)) b
    none rest p =
        let same = joined_with_empty (bounds_of rs) p (bounds_valid rs below) in
        subst (λ (x : Row). Within x b) (sym same) (rest (sym (ap is_empty same) ∙ e))

    some : Ranged r → Within (joined r (bounds_of rs)) b
    some k =
        let over = within_trans (ranged_within k) (h r (Memᴰ.head refl) (ranged_not_empty k)) in
        bounds_within (r ∷ rs) over
        (λ q m. ⊎_elim (λ p. subst (λ (x : Row). Within x b) (sym p) over) (λ n. h q m (ranged_not_empty n)) (valid_cases q (v q m)))

-- the bounds of one list of rows after another
pub bounds_append : (xs ys : List Row) → bounds_of (xs ++ ys) ≡ joined (bounds_of xs) (bounds_of ys)
unfolding bounds_of
bounds_append [] ys = sym (joined_absorbs (bounds_over_empty ys))
bounds_append (x ∷ xs) ys = ap (joined x) (bounds_append xs ys) ∙ sym (joined_assoc x (bounds_of xs) (bounds_of ys))

-- one row more at the end, valid or not
pub bounds_more : (xs : List Row) (r : Row) → bounds_of (xs ++ r ∷ []) ≡ joined (bounds_of xs) r
unfolding bounds_of
bounds_more [] r = joined_comm r empty_row
bounds_more (x ∷ xs) r = ap (joined x) (bounds_more xs r) ∙ sym (joined_assoc x (bounds_of xs) r)
