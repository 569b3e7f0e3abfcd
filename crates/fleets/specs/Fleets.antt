-- What the fleet program writes for an input: document 02, A5. Positions are centimetres, speeds centimetres per second, times seconds; a byte is a
-- number.
-- Assumes nothing.
use Rattle.std.specs.Prelude.{List, [], ◌∷◌, ◌++◌, ℕ, zero, suc, ◌+◌, pos, ◌-ℤ◌, drop, Option, Some, None}
use Prim.Native.Char.{code}
use Rattle.grid.specs.Reports.{report_of}
use Rattle.grid.specs.Units.{last_position, speed_limit}
use Rattle.grid.specs.declared.Report.{Report}
use Rattle.ledger.specs.declared.Call.TheVariants as Call
use Rattle.ledger.specs.declared.Change.TheVariants as Change
use Rattle.generator.specs.Generator.{steps, draw_below}
use Rattle.lines.specs.Lines.{call_line}
use Rattle.lines.specs.declared.Line.{Line}
use Rattle.fleets.specs.Inputs.{read_fleet}
use Rattle.fleets.specs.declared.Fleet.{Fleet}

-- ---- floats

-- how many positions there are on an axis, and how many speeds, from -500 to 500
abbrev pub positions : ℕ
positions = suc last_position

abbrev pub speeds : ℕ
speeds = speed_limit + suc speed_limit

-- the draw below n that comes after i others from a state
abbrev pub nth_draw : ℕ → ℕ → ℕ → ℕ
nth_draw n s i = (draw_below n (steps i s)).number

-- the draws of a float
abbrev pub draws : ℕ
draws = 4

-- float k at time 0, with four draws in the order x, y, vx + 500, vy + 500
unfoldable pub float_of : ℕ → ℕ → Report
float_of k s =
    report_of (pos k) (pos 0) (pos (nth_draw positions s 0)) (pos (nth_draw positions s 1)) (pos (nth_draw speeds s 2) -ℤ pos speed_limit)
    (pos (nth_draw speeds s 3) -ℤ pos speed_limit)

-- n floats one after the other, those after float k
unfoldable pub floats_after : ℕ → ℕ → ℕ → List Report
floats_after k zero s = []
floats_after k (suc n) s = float_of (suc k) s ∷ floats_after (suc k) n (steps draws s)

-- those of a fleet that are written: float k for each k above the skip
abbrev pub written_floats : Fleet → List Report
written_floats f = drop f.skip (floats_after 0 f.floats f.start)

-- ---- lines

abbrev pub add_of : Report → Line
add_of r = Line.Call (Call.Change (Change.Add r))

-- with its newline
unfoldable pub float_line : Report → List ℕ
float_line r = call_line (add_of r) ++ code "\n" ∷ []

unfoldable pub float_lines : List Report → List ℕ
float_lines [] = []
float_lines (r ∷ rs) = float_line r ++ float_lines rs

-- ---- any input

abbrev pub other_text : List ℕ
other_text = code "?" ∷ code "\n" ∷ []

unfoldable pub text_of : Option Fleet → List ℕ
text_of (Some f) = float_lines (written_floats f)
text_of None = other_text

abbrev pub fleet_text : List ℕ → List ℕ
fleet_text input = text_of (read_fleet input)
