-- A query as it is seen from a phase: its aim is fair and sees its floats, whatever kind of query it is, and a report that it lists has its float,
-- placed in the phase, inside. The other way round it need not be: placed in a phase a float has no report time.
-- Assumes nothing.
use mathlib.Core.Path.{◌≡◌, sym, ap₂, ◌∙◌}
use mathlib.Core.Bool.{true}
use Prim.Native.Nat.{ℕ}
use native.Mathlib.Omega.{arith}
use lib.IntN.{ℤ, pos, ◌-ℤ◌}
use lib.Signed.{le_z}
use Rattle.ints.proofs.Parts.{signed, sub}
use Rattle.ints.proofs.Truth.{and_right}
use Rattle.grid.specs.Moments.{passage_of, meeting, inside_during}
use Rattle.grid.specs.Reports.{x_at, y_at, in_rect, inside_at, is_listed}
use Rattle.grid.specs.declared.Query.{Query}
use Rattle.grid.specs.declared.Rect.{Rect}
use Rattle.grid.specs.declared.Report.{Report}
use Rattle.grid.specs.declared.When.{When}
use Rattle.grid.specs.declared.When.TheVariants.{At, During}
use Rattle.grid.proofs.ReportsLaws.{x_moved, y_moved}
use Rattle.grid.proofs.MomentsCountedLaws.{since_report_inside}
use Rattle.rows.specs.Phases.{reference_time, since_reference}
use Rattle.methods.specs.Aims.{aim_of, seen_from, view_of, aim_in, placed_by, in_view}
use Rattle.methods.specs.Fair.{InOrder, Fair, Sees}
use Rattle.methods.proofs.Timeslice.{timeslice_is_fair, timeslice_sees}
use Rattle.methods.proofs.Windows.{window_is_fair, window_sees}

module _ (p : ℕ) (q : Rect) where
  fair_when : InOrder q → (when : When) → Fair (aim_of (seen_from p q when))
  fair_when o (At t) = timeslice_is_fair _ o
  fair_when o (During first last) = window_is_fair _ o

  sees_when : (when : When) → Sees (aim_of (seen_from p q when)) (in_view (seen_from p q when))
  sees_when (At t) = timeslice_sees _
  sees_when (During first last) = window_sees _

  -- the seconds from the first time to the last are the same wherever they are counted from
  same_span : (first last : ℤ) → last -ℤ first ≡ since_reference p last -ℤ since_reference p first
  same_span first last =
      let r = reference_time p in
      omega (arith, signed, sub last first, sub last r, sub first r, sub (last -ℤ r) (first -ℤ r))

  none_less : (z : ℤ) → z -ℤ pos 0 ≡ z
  none_less z = omega (arith, signed, sub z (pos 0))

  inside_at_lem : (r : Report) (t : ℤ) → inside_at q t r ≡ in_view (seen_from p q (At t)) (placed_by p r)
  unfolding inside_at x_at y_at
  inside_at_lem r t = ap₂ (in_rect q) (x_moved r (reference_time p) t) (y_moved r (reference_time p) t)

  inside_during_lem : (r : Report) (first last : ℤ) → inside_during q first last r ≡ in_view (seen_from p q (During first last)) (placed_by p r)
  unfolding inside_during x_at y_at
  inside_during_lem r first last =
      rw (none_less (since_reference p first))
      (λ i. meeting
      (passage_of (x_moved r (reference_time p) first i) r.vx q.x)
      (passage_of (y_moved r (reference_time p) first i) r.vy q.y)
      (same_span first last i))

  -- listed, whatever the kind of query
  listed_when : InOrder q → (r : Report) (when : When) → is_listed (record { rect = q; when = when }) r ≡ true → in_view (seen_from p q when) (placed_by p r) ≡ true
  unfolding is_listed
  listed_when o r (At t) h = sym (inside_at_lem r t) ∙ and_right (le_z r.t t) (inside_at q t r) h
  listed_when o r (During first last) h = sym (inside_during_lem r first last) ∙ since_report_inside q o.x_ordered o.y_ordered r first last h

module _ (p : ℕ) (query : Query) where
  pub query_is_fair : InOrder query.rect → Fair (aim_in p query)
  query_is_fair o = fair_when p query.rect o query.when

  pub query_sees : Sees (aim_in p query) (in_view (view_of p query))
  query_sees = sees_when p query.rect query.when

  pub listed_inside : InOrder query.rect → (r : Report) → is_listed query r ≡ true → in_view (view_of p query) (placed_by p r) ≡ true
  listed_inside o r = listed_when p query.rect o r query.when
