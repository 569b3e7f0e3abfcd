-- What the code of reach relies on: both signs of d as one formula with least and greatest exchanged, the ends of a column as they are tested,
-- and numbers of an ask and of a valid row are small.
-- Assumes nothing.
use mathlib.Core.Path.{◌≡◌, refl, sym, ap, ap₂, ◌∙◌}
use mathlib.Core.Bool.{Bool, true, false, ◌&&◌, ◌||◌}
use mathlib.Core.Logic.{⊎_elim}
use Prim.Native.Nat.{ℕ, suc, ◌+◌, ◌-◌, ◌*◌, ◌≤◌, ◌<◌, ◌^◌}
use native.Mathlib.Omega.{arith}
use lib.Dec.{eqb}
use lib.IntN.{ℤ, pos, negsuc, neg_ℤ, nat_abs, ◌-ℤ◌, ◌*ℤ◌}
use lib.Signed.{le_z, non_neg, mag}
use mir.Syntax.{w16, w64}
use mir.Val.{hbits, SFits}
use Rattle.ints.proofs.Parts.{signed, abs, one_part, sub, true_false}
use Rattle.std.specs.Int.{int_min, int_max}
use Rattle.std.proofs.lemmas.Int.{ints}
use Rattle.ints.specs.Whole.{min_z, max_z}
use Rattle.ints.proofs.Machine.{back, fits, held}
use Rattle.ints.proofs.Truth.{and_left, and_right}
use Rattle.grid.specs.Units.{side, cell_size, last_position, speed_limit, last_time}
use Rattle.grid.specs.Places.{end_at, cell_span, not_below, not_above}
use Rattle.grid.specs.Reports.{is_position}
use Rattle.grid.specs.declared.Cell.{Cell}
use Rattle.grid.specs.declared.Range.{Range}
use Rattle.grid.specs.declared.Rect.{Rect}
use Rattle.rows.specs.Row.{valid_row}
use Rattle.rows.specs.Phases.{reference_time, since_reference}
use Rattle.rows.specs.declared.Row.{Row}
use Rattle.rows.proofs.RowLaws.{Ranged, valid_cases}
use Rattle.methods.specs.Reach.{expanded_range, expanded_rect, around_ranges, expanded_window, moved_span, meets, moved_cell_meets, moved_around, moved_around_meets}
use Rattle.methods.specs.Slices.{earliest, latest}
use Rattle.reaching.specs.Reaching.{IsAsk, SmallAxis, CanCount, column_in, cell_in, column_reaches}
use Rattle.methods.specs.Aims.{aim_of}
use Rattle.methods.specs.declared.Slice.{Slice}
use Rattle.methods.specs.declared.View.{View}
use Rattle.methods.specs.declared.Window.{Window}
use Rattle.methods.proofs.Axis.{expanded_is, meets_expanded}
use Rattle.methods.proofs.Windows.{around_meets_expanded}

-- ---- expanding

pub same_range : {a b : Range} → a.low ≡ b.low → a.high ≡ b.high → a ≡ b
same_range p q = λ i. record { low = p i; high = q i }

pub same_rect : {a b : Rect} → a.x ≡ b.x → a.y ≡ b.y → a ≡ b
same_rect p q = λ i. record { x = p i; y = q i }

pub expanded_forward : (r : Range) (l g d : ℤ) → non_neg d ≡ true → record { low = r.low -ℤ g *ℤ d; high = r.high -ℤ l *ℤ d } ≡ expanded_range r l g d
expanded_forward r l g (pos k) e = sym (expanded_is r l g (pos k))
expanded_forward r l g (negsuc k) e = absurd (true_false (sym e))

pub expanded_backward : (r : Range) (l g d : ℤ) → non_neg d ≡ false → record { low = r.low -ℤ l *ℤ d; high = r.high -ℤ g *ℤ d } ≡ expanded_range r l g d
expanded_backward r l g (pos k) e = absurd (true_false e)
expanded_backward r l g (negsuc k) e = sym (expanded_is r l g (negsuc k))

-- ---- the ends of a column, tested as the code does: r is what a call gave back

low_end_test : (first : Bool) (e z : ℤ) → first || le_z e z ≡ not_below (end_at first e) z
low_end_test true e z = refl
low_end_test false e z = refl

high_end_test : (last : Bool) (e z : ℤ) → last || le_z z e ≡ not_above (end_at last e) z
high_end_test true e z = refl
high_end_test false e z = refl

pub low_end : (i : ℕ) (r z : ℤ) → r ≡ pos (cell_size * i) → mag z < 2 ^ hbits w64 → eqb i 0 || le_z r (back w64 z) ≡ not_below (cell_span i).low z
unfolding cell_span
low_end i r z e k = ap (λ (t : Bool). eqb i 0 || t) (ap₂ le_z e (held w64 z k)) ∙ low_end_test (eqb i 0) (pos (cell_size * i)) z

pub high_end :
    (i : ℕ) (r z : ℤ)
    → r ≡ pos (cell_size * i + (cell_size - 1))
    → mag z < 2 ^ hbits w64
    → eqb i (side - 1) || le_z (back w64 z) r ≡ not_above (cell_span i).high z
unfolding cell_span
high_end i r z e k =
    ap (λ (t : Bool). eqb i (side - 1) || t) (ap₂ le_z (held w64 z k) e)
    ∙ high_end_test (eqb i (side - 1)) (pos (cell_size * i + (cell_size - 1))) z

-- ---- small numbers

position_small : (z : ℤ) → is_position z ≡ true → nat_abs z ≤ last_position
position_small z h =
    let a = and_left (le_z (pos 0) z) (le_z z (pos last_position)) h in
    let b = and_right (le_z (pos 0) z) (le_z z (pos last_position)) h in
    omega (arith, signed, abs z, one_part z)

d_small : (d : ℤ) → le_z (neg_ℤ (pos earliest)) d ≡ true → le_z d (pos latest) ≡ true → nat_abs d ≤ latest
d_small d h k = omega (arith, signed, abs d, one_part d)

record SmallSpeeds (r : Row) : Type 0 where
  least_x : nat_abs r.least_vx ≤ suc speed_limit
  greatest_x : nat_abs r.greatest_vx ≤ suc speed_limit
  least_y : nat_abs r.least_vy ≤ suc speed_limit
  greatest_y : nat_abs r.greatest_vy ≤ suc speed_limit

speeds_small : (r : Row) → valid_row r ≡ true → SmallSpeeds r
speeds_small r v =
    ⊎_elim
    (λ e. rw e (record { least_x = omega arith; greatest_x = omega arith; least_y = omega arith; greatest_y = omega arith }))
    (λ (k : Ranged r).
    let x = k.x in
    let y = k.y in
    record { least_x = omega arith; greatest_x = omega arith; least_y = omega arith; greatest_y = omega arith })
    (valid_cases r v)

module _ {s : Slice} (a : IsAsk s) (r : Row) (v : valid_row r ≡ true) where
  pub small_x : SmallAxis s.rect.x r.least_vx r.greatest_vx s.d
  small_x =
      let k = speeds_small r v in
      record {
        small_low = position_small s.rect.x.low a.low_x_in_sea;
        small_high = position_small s.rect.x.high a.high_x_in_sea;
        small_least = k.least_x;
        small_greatest = k.greatest_x;
        small_d = d_small s.d a.is_slice.not_early a.is_slice.not_late;
      }

  pub small_y : SmallAxis s.rect.y r.least_vy r.greatest_vy s.d
  small_y =
      let k = speeds_small r v in
      record {
        small_low = position_small s.rect.y.low a.low_y_in_sea;
        small_high = position_small s.rect.y.high a.high_y_in_sea;
        small_least = k.least_y;
        small_greatest = k.greatest_y;
        small_d = d_small s.d a.is_slice.not_early a.is_slice.not_late;
      }

-- two times in range are no further apart than the last time
pub since_fits : {s : ℤ} {p : ℕ} → CanCount s p → SFits w64 (since_reference p s)
unfolding reference_time
since_fits {s} {p} can =
    let low = and_left (le_z (pos 0) s) (le_z s (pos last_time)) can.is_time_lem in
    let high = and_right (le_z (pos 0) s) (le_z s (pos last_time)) can.is_time_lem in
    fits (omega (arith, signed, sub s (reference_time p), one_part s, can.small_phase))

-- ---- what a call gives back: its arguments were read back from their bits

pub before_is :
    (r p v d : ℤ)
    → mag r < 2 ^ hbits w64
    → r ≡ back w64 p -ℤ back w16 v *ℤ back w64 d
    → mag p < 2 ^ hbits w64
    → mag v < 2 ^ hbits w16
    → mag d < 2 ^ hbits w64
    → back w64 r ≡ p -ℤ v *ℤ d
before_is r p v d h e hp hv hd = held w64 r h ∙ e ∙ simp (held w64 p hp, held w16 v hv, held w64 d hd)

-- two speeds of a row and d, as a call passes them
pub axis_back : {r : Range} {l g d : ℤ} → SmallAxis r l g d → mag l < 2 ^ hbits w16 → mag g < 2 ^ hbits w16 → mag d < 2 ^ hbits w64 → SmallAxis r (back w16 l) (back w16 g) (back w64 d)
axis_back {r} {l} {g} {d} s hl hg hd = rw (held w16 l hl, held w16 g hg, held w64 d hd) s

pub expanded_called :
    (range r : Range) (l g d : ℤ)
    → r ≡ expanded_range range (back w16 l) (back w16 g) (back w64 d)
    → mag l < 2 ^ hbits w16
    → mag g < 2 ^ hbits w16
    → mag d < 2 ^ hbits w64
    → r ≡ expanded_range range l g d
expanded_called range r l g d e hl hg hd = e ∙ (λ i. expanded_range range (held w16 l hl i) (held w16 g hg i) (held w64 d hd i))

-- the lesser and the greater of two, in the words of std and in those of the definitions
pub least_is : (a b : ℤ) → int_min a b ≡ min_z a b
unfolding min_z
least_is a b = grind (arith, ints)

pub greatest_is : (a b : ℤ) → int_max a b ≡ max_z a b
unfolding max_z
greatest_is a b = grind (arith, ints)

-- ---- a moved cell meets a range where it meets, where it is, the expanded range: t is the test of that

-- along one axis, at one time and at both of a window
pub meets_moved : (i : ℕ) (l g d : ℤ) (range reach : Range) (t : Bool) → t ≡ column_in i reach → reach ≡ expanded_range range l g d → t ≡ meets (moved_span (cell_span i) l g d) range
meets_moved i l g d range reach t p e = rw e at p ∙ sym (meets_expanded (cell_span i) l g d range)

abbrev expanded_both : Range → ℤ → ℤ → Window → Range
expanded_both range l g w = around_ranges (expanded_range range l g w.first) (expanded_range range l g w.last)

moved_both : (i : ℕ) (l g : ℤ) (w : Window) (range reach : Range) (t : Bool) → t ≡ column_in i reach → reach ≡ expanded_both range l g w → t ≡ meets (moved_around (cell_span i) l g w) range
moved_both i l g w range reach t p e = rw e at p ∙ sym (around_meets_expanded (cell_span i) l g w.first w.last range)

-- in a view
pub column_where_reached : (v : View) (c : Cell) (row : Row) (reach : Rect) (t : Bool) → reach ≡ (aim_of v).expanded row → t ≡ column_in c.column reach.x → t ≡ column_reaches v c row
unfolding expanded_rect expanded_window
column_where_reached (View.Slice s) c row reach t e p = meets_moved c.column _ _ s.d s.rect.x reach.x t p (ap (λ (q : Rect). q.x) e)
column_where_reached (View.Window w) c row reach t e p = moved_both c.column _ _ w w.rect.x reach.x t p (ap (λ (q : Rect). q.x) e)

pub cell_where_reached : (v : View) (c : Cell) (row : Row) (reach : Rect) (t : Bool) → reach ≡ (aim_of v).expanded row → t ≡ cell_in c reach → t ≡ (aim_of v).meets c row
unfolding expanded_rect expanded_window moved_cell_meets moved_around_meets
cell_where_reached (View.Slice s) c row reach t e p =
    p
    ∙ ap₂ ◌&&◌
    (column_where_reached (View.Slice s) c row reach _ e refl)
    (meets_moved c.row _ _ s.d s.rect.y reach.y _ refl (ap (λ (r : Rect). r.y) e))
cell_where_reached (View.Window w) c row reach t e p =
    p
    ∙ ap₂ ◌&&◌
    (column_where_reached (View.Window w) c row reach _ e refl)
    (moved_both c.row _ _ w w.rect.y reach.y _ refl (ap (λ (r : Rect). r.y) e))

-- a cell that meets has a column that does
pub column_of_met : (v : View) (c : Cell) (row : Row) → (aim_of v).meets c row ≡ true → column_reaches v c row ≡ true
unfolding moved_cell_meets moved_around_meets
column_of_met (View.Slice s) c row h = and_left _ (meets (moved_span (cell_span c.row) row.least_vy row.greatest_vy s.d) s.rect.y) h
column_of_met (View.Window w) c row h = and_left _ (meets (moved_around (cell_span c.row) row.least_vy row.greatest_vy w) w.rect.y) h
