-- A window lists exactly the floats that are inside at a counted moment of it, one that is not before the report: such a moment is one from the later
-- of the first time and the report's on. A moment of a later start is one of an earlier start too, so a listed float is inside at some moment of the
-- whole window; and a window of one time lists what that time lists.
-- Assumes nothing.
use mathlib.Core.Path.{◌≡◌, refl, ◌∙◌, ap}
use mathlib.Core.Bool.{Bool, true, false, cond, ◌&&◌}
use mathlib.Core.Logic.{◌↔◌}
use lib.IntN.{ℤ, pos, ◌*ℤ◌}
use lib.Signed.{le_z}
use Rattle.ints.specs.Whole.{max_z}
use Rattle.ints.proofs.Parts.{mul_keeps, mul_cancels}
use Rattle.ints.proofs.Least.{max_above, max_least, max_one_of, max-first, le_trans}
use Rattle.ints.proofs.Truth.{and_true, and_left, and_right}
use Rattle.grid.specs.Moments.{Axis, along_x, along_y, SomeMoment, CountedMoment, inside_during}
use Rattle.grid.specs.Reports.{inside_at, is_listed}
use Rattle.grid.specs.declared.Query.{Query}
use Rattle.grid.specs.declared.Rect.{Rect}
use Rattle.grid.specs.declared.Report.{Report}
use Rattle.grid.specs.declared.When.TheVariants.{At, During}
use Rattle.grid.proofs.MomentsLaws.{inside_at_some_moment}
use Rattle.grid.proofs.MomentsOneTimeLaws.{one_time}

abbrev timeslice : Rect → ℤ → Query
timeslice q t = record { rect = q; when = At t }

abbrev window : Rect → ℤ → ℤ → Query
window q first last = record { rect = q; when = During first last }

-- ---- a moment and a start

-- a moment that is not before another start
abbrev started : {a b : Axis} {from last : ℤ} (start : ℤ) (s : SomeMoment from last a b) → le_z (start *ℤ pos s.m) s.n ≡ true → SomeMoment start last a b
started start s h =
    record { n = s.n; m = s.m; positive = s.positive; not_before = h; not_after = s.not_after; inside_x = s.inside_x; inside_y = s.inside_y }

after_earlier : {a b : Axis} {from last : ℤ} (start : ℤ) (s : SomeMoment from last a b) → le_z start from ≡ true → le_z (start *ℤ pos s.m) s.n ≡ true
after_earlier {from = from} start s h =
    le_trans (start *ℤ pos s.m) (from *ℤ pos s.m) s.n (mul_keeps start from s.m h) s.not_before

-- a time with a moment not before it is not after the last time
by_last : {a b : Axis} {from last : ℤ} (t : ℤ) (s : SomeMoment from last a b) → le_z (t *ℤ pos s.m) s.n ≡ true → le_z t last ≡ true
by_last {last = last} t s h =
    mul_cancels t last s.m s.positive (le_trans (t *ℤ pos s.m) s.n (last *ℤ pos s.m) h s.not_after)

module _ (q : Rect) (x_ordered : le_z q.x.low q.x.high ≡ true) (y_ordered : le_z q.y.low q.y.high ≡ true) (r : Report) where
  abbrev Moments : ℤ → ℤ → Type 0
  Moments from last = SomeMoment from last (along_x q r) (along_y q r)

  inside_moments : (from last : ℤ) → le_z from last ≡ true → (inside_during q from last r ≡ true) ↔ Moments from last
  unfolding inside_during
  inside_moments from last o = inside_at_some_moment from last o (along_x q r) (along_y q r) x_ordered y_ordered

  -- ---- a later start: a float that is inside from its report on is inside at some moment of the window

  pub since_report_inside : (first last : ℤ) → is_listed (window q first last) r ≡ true → inside_during q first last r ≡ true
  unfolding is_listed max_z
  since_report_inside first last h = go (le_z first r.t) refl (and_right (le_z r.t last) _ h)
    where
      go : (t : Bool) → le_z first r.t ≡ t → inside_during q (cond t r.t first) last r ≡ true → inside_during q first last r ≡ true
      go false e k = k
      go true e k =
          let by = and_left (le_z r.t last) _ h in
          let s = (inside_moments r.t last by).0 k in
          (inside_moments first last (le_trans first r.t last e by)).1 (started first s (after_earlier first s e))

  -- ---- counted moments

  module _ (first last : ℤ) (order : le_z first last ≡ true) where
    abbrev from : ℤ
    from = max_z first r.t

    listed_counted : is_listed (window q first last) r ≡ true → CountedMoment first last q r
    unfolding is_listed
    listed_counted h =
        let by = and_left (le_z r.t last) (inside_during q from last r) h in
        let s = (inside_moments from last (max_least first r.t last order by)).0 (and_right (le_z r.t last) (inside_during q from last r) h) in
        let above = max_above first r.t in
        record { some = started first s (after_earlier first s above.0); reported = after_earlier r.t s above.1 }

    counted_listed : CountedMoment first last q r → is_listed (window q first last) r ≡ true
    unfolding is_listed
    counted_listed c =
        let s = c.some in
        let by = by_last r.t s c.reported in
        and_true (le_z r.t last) (inside_during q from last r) by
        ((inside_moments from last (max_least first r.t last order by)).1
        (started from s (max_one_of (λ z. le_z (z *ℤ pos s.m) s.n ≡ true) first r.t s.not_before c.reported)))

    pub lists_counted_moments : (is_listed (window q first last) r ≡ true) ↔ CountedMoment first last q r
    lists_counted_moments = (listed_counted, counted_listed)

-- ---- one time

-- in order or not, a rectangle has in a window of one time what it has at that time
pub one_time_listed : (q : Rect) (t : ℤ) (r : Report) → is_listed (window q t t) r ≡ is_listed (timeslice q t) r
unfolding is_listed
one_time_listed q t r = go (le_z r.t t) refl
  where
    go : (b : Bool) → le_z r.t t ≡ b → b && inside_during q (max_z t r.t) t r ≡ b && inside_at q t r
    go false e = refl
    go true e = ap (λ (from : ℤ). inside_during q from t r) (max-first t r.t e) ∙ one_time q t r
