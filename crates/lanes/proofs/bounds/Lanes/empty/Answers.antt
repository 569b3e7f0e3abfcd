-- Each lane row is the empty row, and so are they joined.
use mathlib.Core.Path.{refl}
use Rattle.ints.specs.Whole.{min_z, max_z}
use Rattle.rows.specs.Row.{joined, bounds_of}
use Rattle.lanes.specs.Lanes.{lane_rows}
use Rattle.lanes.proofs.bounds.Lanes.empty.Goals as goal

pub returns : goal.returns
unfolding lane_rows bounds_of joined min_z max_z
returns c = refl
