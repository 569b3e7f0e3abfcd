-- A speed row: the least and the greatest vx and vy seen in a cell, in centimetres per second, and the bounds of a set of rows. Document 01,
-- "Phases and speed rows" and "The four ways to choose cells".
-- Assumes nothing.
use Rattle.std.specs.Prelude.{◌≡◌, Bool, true, ◌&&◌, ◌||◌, List, [], ◌∷◌, suc, ℤ, pos, negsuc, neg_ℤ}
use Rattle.std.specs.Int.Signed.{le_z}
use Rattle.ints.specs.Whole.{min_z, max_z, between, eq_z}
use Rattle.grid.specs.Units.{speed_limit}
use Rattle.grid.specs.declared.Report.{Report}
use Rattle.rows.specs.declared.Drift.{Drift}
use Rattle.rows.specs.declared.Row.{Row}

-- an empty row: 501, -501, 501, -501
abbrev pub empty_row : Row
empty_row = record {
  least_vx = pos (suc speed_limit);
  greatest_vx = negsuc speed_limit;
  least_vy = pos (suc speed_limit);
  greatest_vy = negsuc speed_limit;
}

-- what a row takes in of a report
abbrev pub drift_of : Report → Drift
drift_of r = record { vx = r.vx; vy = r.vy }

-- the row of one drift
abbrev pub row_of_drift : Drift → Row
row_of_drift v = record { least_vx = v.vx; greatest_vx = v.vx; least_vy = v.vy; greatest_vy = v.vy }

-- the smallest row that holds what either holds
unfoldable pub joined : Row → Row → Row
joined a b = record {
  least_vx = min_z a.least_vx b.least_vx;
  greatest_vx = max_z a.greatest_vx b.greatest_vx;
  least_vy = min_z a.least_vy b.least_vy;
  greatest_vy = max_z a.greatest_vy b.greatest_vy;
}

-- a row widened to take in a drift
abbrev pub widened : Row → Drift → Row
widened r v = joined r (row_of_drift v)

-- whether a drift lies in a row
unfoldable pub holds : Row → Drift → Bool
holds r v = between r.least_vx r.greatest_vx v.vx && between r.least_vy r.greatest_vy v.vy

unfoldable pub same_row : Row → Row → Bool
same_row a b =
    (eq_z a.least_vx b.least_vx && eq_z a.greatest_vx b.greatest_vx)
    && (eq_z a.least_vy b.least_vy && eq_z a.greatest_vy b.greatest_vy)

unfoldable pub is_empty : Row → Bool
is_empty r = same_row r empty_row

-- least at most greatest, within the speed limit either way
abbrev pub valid_axis : ℤ → ℤ → Bool
valid_axis least greatest = le_z (neg_ℤ (pos speed_limit)) least && (le_z least greatest && le_z greatest (pos speed_limit))

-- a row that a sound table may hold
unfoldable pub valid_row : Row → Bool
valid_row r = is_empty r || (valid_axis r.least_vx r.greatest_vx && valid_axis r.least_vy r.greatest_vy)

-- the bounds of a set of rows: the smallest that hold every nonempty row; with none there are no bounds, and this row is the empty one
unfoldable pub bounds_of : List Row → Row
bounds_of [] = empty_row
bounds_of (r ∷ rs) = joined r (bounds_of rs)

-- row b holds row a: no number of a lies outside
pub record Within (a b : Row) : Type 0 where
  pub least_x : le_z b.least_vx a.least_vx ≡ true
  pub greatest_x : le_z a.greatest_vx b.greatest_vx ≡ true
  pub least_y : le_z b.least_vy a.least_vy ≡ true
  pub greatest_y : le_z a.greatest_vy b.greatest_vy ≡ true
