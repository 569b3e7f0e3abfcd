-- When a float is in a rectangle at some moment of a window, and which moments count: document 02, A3 and A4. Positions are centimetres, speeds
-- centimetres per second, times seconds.
-- Assumes nothing.
use Rattle.std.specs.Prelude.{◌≡◌, Bool, true, ◌&&◌, ◌↔◌, ℕ, suc, ◌<◌, ℤ, pos, negsuc, ◌+ℤ◌, ◌-ℤ◌, ◌*ℤ◌}
use Rattle.std.specs.Int.Signed.{le_z}
use Rattle.ints.specs.Whole.{between}
use Rattle.grid.specs.Places.{position_after}
use Rattle.grid.specs.declared.Range.{Range}
use Rattle.grid.specs.declared.Rect.{Rect}
use Rattle.grid.specs.declared.Report.{Report}
use Rattle.grid.specs.declared.moments.Passage.{Passage}

-- one axis of a report and of a rectangle: where the float was at time t, its speed, and the range that is asked for
pub record Axis : Type 0 where
  pub x : ℤ
  pub v : ℤ
  pub t : ℤ
  pub range : Range

abbrev pub along_x : Rect → Report → Axis
along_x q r = record { x = r.x; v = r.vx; t = r.t; range = q.x }

abbrev pub along_y : Rect → Report → Axis
along_y q r = record { x = r.y; v = r.vy; t = r.t; range = q.y }

-- ---- what is wanted. A moment is a whole number n over a whole number m above 0; both sides of a comparison are taken m times, so that none is divided

-- m times the position at the moment n / m
abbrev pub position_times : Axis → ℤ → ℕ → ℤ
position_times a n m = a.x *ℤ pos m +ℤ a.v *ℤ (n -ℤ a.t *ℤ pos m)

abbrev pub inside_then : Axis → ℤ → ℕ → Bool
inside_then a n m = between (a.range.low *ℤ pos m) (a.range.high *ℤ pos m) (position_times a n m)

-- one moment, not before `from` and not after `last`, at which the float is inside on both axes
pub record SomeMoment (from last : ℤ) (a b : Axis) : Type 0 where
  pub n : ℤ
  pub m : ℕ
  pub positive : 0 < m
  pub not_before : le_z (from *ℤ pos m) n ≡ true
  pub not_after : le_z n (last *ℤ pos m) ≡ true
  pub inside_x : inside_then a n m ≡ true
  pub inside_y : inside_then b n m ≡ true

-- such a moment of a window, not before the float's report: a window counts no other (document 02, A4)
pub record CountedMoment (first last : ℤ) (q : Rect) (r : Report) : Type 0 where
  pub some : SomeMoment first last (along_x q r) (along_y q r)
  pub reported : le_z (r.t *ℤ pos some.m) some.n ≡ true

-- ---- what is tested: the ledger's rule and the code's. proofs/MomentsLaws says that it holds exactly where there is some moment, whatever the start

-- a float that is at p at the start and goes at v is inside after u seconds exactly if after ≤ speed × u ≤ until
unfoldable pub passage_of : ℤ → ℤ → Range → Passage
passage_of p (pos w) r = record { after = r.low -ℤ p; until = r.high -ℤ p; speed = pos w }
passage_of p (negsuc w) r = record { after = p -ℤ r.high; until = p -ℤ r.low; speed = pos (suc w) }

abbrev pub passage : Axis → ℤ → Passage
passage a from = passage_of (position_after a.x a.v (from -ℤ a.t)) a.v a.range

-- entered by d seconds after the start, and not left before the start
abbrev pub in_time : Passage → ℤ → Bool
in_time p d = le_z p.after (p.speed *ℤ d) && le_z (pos 0) p.until

-- the one entered no later than the other is left
abbrev pub in_turn : Passage → Passage → Bool
in_turn p q = le_z (p.after *ℤ q.speed) (q.until *ℤ p.speed)

unfoldable pub meeting : Passage → Passage → ℤ → Bool
meeting p q d = (in_time p d && in_time q d) && (in_turn p q && in_turn q p)

abbrev pub inside_between : ℤ → ℤ → Axis → Axis → Bool
inside_between from last a b = meeting (passage a from) (passage b from) (last -ℤ from)

-- whether a float is in a rectangle at some moment from one time to another
unfoldable pub inside_during : Rect → ℤ → ℤ → Report → Bool
inside_during q first last r = inside_between first last (along_x q r) (along_y q r)

-- exactly the floats that are inside at some moment
abbrev pub InsideAtSomeMoment : Type 0
InsideAtSomeMoment =
    (from last : ℤ)
    → le_z from last ≡ true
    → (a b : Axis)
    → le_z a.range.low a.range.high ≡ true
    → le_z b.range.low b.range.high ≡ true
    → (inside_between from last a b ≡ true) ↔ SomeMoment from last a b
