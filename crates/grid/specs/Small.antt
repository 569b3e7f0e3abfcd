-- Numbers small enough that no sum or product of the grid's functions leaves 64 bits. Reports and times in their ranges are far smaller.
-- Assumes nothing.
use Rattle.std.specs.Prelude.{suc, ◌≤◌, ◌^◌, ℤ, nat_abs}
use Rattle.grid.specs.Units.{speed_limit}
use Rattle.grid.specs.declared.Query.{Query}
use Rattle.grid.specs.declared.Range.{Range}
use Rattle.grid.specs.declared.Rect.{Rect}
use Rattle.grid.specs.declared.Report.{Report}
use Rattle.grid.specs.declared.When.{When}
use Rattle.grid.specs.declared.When.TheVariants.{At, During}
use Rattle.grid.specs.declared.moments.Passage.{Passage}

-- along one axis: the position, the speed and the seconds between
pub record SmallMove (x v elapsed : ℤ) : Type 0 where
  pub small_x : nat_abs x ≤ 2 ^ 44
  pub small_v : nat_abs v ≤ suc speed_limit
  pub small_elapsed : nat_abs elapsed ≤ 2 ^ 31

-- the position, the speed, the report's time and the time asked for
pub record SmallAxis (x v t s : ℤ) : Type 0 where
  pub small_x : nat_abs x ≤ 2 ^ 44
  pub small_v : nat_abs v ≤ suc speed_limit
  pub small_t : nat_abs t ≤ 2 ^ 30
  pub small_s : nat_abs s ≤ 2 ^ 30

pub record SmallReport (r : Report) (s : ℤ) : Type 0 where
  pub along_x_lem : SmallAxis r.x r.vx r.t s
  pub along_y_lem : SmallAxis r.y r.vy r.t s

-- a report's own numbers
pub record SmallFigures (r : Report) : Type 0 where
  pub small_x : nat_abs r.x ≤ 2 ^ 44
  pub small_y : nat_abs r.y ≤ 2 ^ 44
  pub small_vx : nat_abs r.vx ≤ suc speed_limit
  pub small_vy : nat_abs r.vy ≤ suc speed_limit
  pub small_t : nat_abs r.t ≤ 2 ^ 30

pub record SmallRange (r : Range) : Type 0 where
  pub small_low : nat_abs r.low ≤ 2 ^ 45
  pub small_high : nat_abs r.high ≤ 2 ^ 45

pub record SmallRect (q : Rect) : Type 0 where
  pub along_x_lem : SmallRange q.x
  pub along_y_lem : SmallRange q.y

-- ---- passages

-- a position at the start, a speed and a range: what a passage is made of
pub record SmallStart (p v : ℤ) (r : Range) : Type 0 where
  pub small_p : nat_abs p ≤ 2 ^ 45
  pub small_v : nat_abs v ≤ suc speed_limit
  pub small_range : SmallRange r

pub record SmallStartAt (s x v t : ℤ) (r : Range) : Type 0 where
  pub along : SmallAxis x v t s
  pub small_range : SmallRange r

pub record SmallPassage (p : Passage) : Type 0 where
  pub small_after : nat_abs p.after ≤ 2 ^ 46
  pub small_until : nat_abs p.until ≤ 2 ^ 46
  pub small_speed : nat_abs p.speed ≤ suc speed_limit

pub record SmallPassageOver (p : Passage) (d : ℤ) : Type 0 where
  pub numbers : SmallPassage p
  pub small_d : nat_abs d ≤ 2 ^ 31

pub record SmallTurn (p q : Passage) : Type 0 where
  pub this : SmallPassage p
  pub other : SmallPassage q

pub record SmallMeeting (p q : Passage) (d : ℤ) : Type 0 where
  pub along_x_lem : SmallPassage p
  pub along_y_lem : SmallPassage q
  pub small_d : nat_abs d ≤ 2 ^ 31

-- ---- queries

pub record SmallWindow (r : Report) (q : Rect) (first last : ℤ) : Type 0 where
  pub figures : SmallFigures r
  pub rect : SmallRect q
  pub small_first : nat_abs first ≤ 2 ^ 30
  pub small_last : nat_abs last ≤ 2 ^ 30

-- the times of a query
abbrev pub SmallTimes : When → Type 0
SmallTimes (At t) = nat_abs t ≤ 2 ^ 30
SmallTimes (During first last) = (nat_abs first ≤ 2 ^ 30) × (nat_abs last ≤ 2 ^ 30)

pub record SmallQuery (query : Query) : Type 0 where
  pub rect : SmallRect query.rect
  pub times : SmallTimes query.when

pub record SmallListing (r : Report) (query : Query) : Type 0 where
  pub figures : SmallFigures r
  pub small_query : SmallQuery query
