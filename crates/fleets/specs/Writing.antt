-- What the writing functions ask: a fleet in its ranges, numbers that a line may have, and room.
-- Assumes nothing.
use Rattle.std.specs.Prelude.{◌≡◌, true, List, ℕ, suc, ◌+◌, ◌*◌, ◌≤◌, length}
use Rattle.grid.specs.Units.{capacity}
use Rattle.grid.specs.declared.Report.{Report}
use Rattle.fields.specs.Numbers.{are_writable}
use Rattle.lines.specs.Lines.{line_length, report_numbers}
use Rattle.fleets.specs.Inputs.{is_fleet}
use Rattle.fleets.specs.declared.Fleet.{Fleet}

-- the bytes of a float's line, with its newline
abbrev pub float_bytes : ℕ
float_bytes = suc (line_length 6)

pub record FloatRoom (at : ℕ) (r : Report) (out : List ℕ) : Type 0 where
  pub room : at + float_bytes ≤ length out
  pub writable : are_writable (report_numbers r) ≡ true

pub record FleetRoom (f : Fleet) (out : List ℕ) : Type 0 where
  pub room : float_bytes * capacity ≤ length out
  pub in_range_lem : is_fleet f ≡ true

abbrev pub OtherRoom : List ℕ → Type 0
OtherRoom out = 2 ≤ length out
