-- What an input says: document 02, A5. One line of three numbers in 10 columns: start state, floats, lines to skip. A byte is a number.
-- Assumes nothing.
use Rattle.std.specs.Prelude.{Bool, cond, ◌&&◌, ◌||◌, List, [], ◌∷◌, ℕ, ◌+◌, ◌*◌, eqb, leb, ltb, length, get_or, Option, Some, None}
use Prim.Native.Char.{code}
use Rattle.grid.specs.Units.{capacity}
use Rattle.fields.specs.Fields.{width}
use Rattle.fields.specs.Numbers.{in_columns}
use Rattle.fields.specs.Reading.{unsigned_at}
use Rattle.generator.specs.Generator.{states}
use Rattle.fleets.specs.declared.Fleet.{Fleet}

-- the columns of three numbers
abbrev pub line_columns : ℕ
line_columns = 3 * width

-- one line, whose newline may be missing
unfoldable pub is_line : List ℕ → Bool
is_line input = eqb (length input) line_columns || (eqb (length input) (line_columns + 1) && eqb (get_or input line_columns 0) (code "\n"))

-- each number in its range
unfoldable pub is_fleet : Fleet → Bool
is_fleet f = (ltb f.start states && (leb 1 f.floats && leb f.floats capacity)) && leb f.skip f.floats

unfoldable pub fleet_of : ℕ → ℕ → ℕ → Option Fleet
fleet_of start floats skip =
    let fleet : Fleet = record { start = start; floats = floats; skip = skip } in
    cond (is_fleet fleet) (Some fleet) None

-- of three numbers that were read
unfoldable pub three_say : Option ℕ → Option ℕ → Option ℕ → Option Fleet
three_say (Some start) (Some floats) (Some skip) = fleet_of start floats skip
three_say (Some start) (Some floats) None = None
three_say (Some start) None skip = None
three_say None floats skip = None

unfoldable pub numbers_say : List ℕ → Option Fleet
numbers_say line = three_say (unsigned_at line 0) (unsigned_at line width) (unsigned_at line (2 * width))

-- the fleet that an input says; any other input says none
unfoldable pub read_fleet : List ℕ → Option Fleet
read_fleet input = cond (is_line input) (numbers_say input) None

-- the line that says a fleet, without a newline
abbrev pub input_line : Fleet → List ℕ
input_line f = in_columns width (f.start ∷ f.floats ∷ f.skip ∷ [])
