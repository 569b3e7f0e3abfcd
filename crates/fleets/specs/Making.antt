-- What `make_float` leaves: a float, and the state after its draws.
-- Assumes nothing.
use Rattle.std.specs.Prelude.{◌≡◌, ℕ}
use Rattle.grid.specs.declared.Report.{Report}
use Rattle.generator.specs.Generator.{steps}
use Rattle.fleets.specs.Fleets.{draws, float_of}

pub record Makes (k s : ℕ) (report : Report) (state : ℕ) : Type 0 where
  pub report_is : report ≡ float_of k s
  pub state_is : state ≡ steps draws s
