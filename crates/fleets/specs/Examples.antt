-- Floats and texts that were computed elsewhere: what the definitions give, and what is said.
-- Assumes nothing.
use Rattle.std.specs.Prelude.{List, [], ◌∷◌, ◌++◌, map, ℕ, ℤ, pos, negsuc}
use Prim.Native.Char.{code}
use Prim.Native.String.{String}
use Rattle.ints.specs.Examples.{Example}
use Rattle.grid.specs.Reports.{report_of}
use Rattle.grid.specs.declared.Report.{Report}
use Rattle.lines.specs.Examples.{bytes}
use Rattle.fleets.specs.Fleets.{written_floats, fleet_text}
use Rattle.fleets.specs.declared.Fleet.{Fleet}

abbrev fleet : ℕ → ℕ → ℕ → Fleet
fleet start floats skip = record { start = start; floats = floats; skip = skip }

-- float k by its four draws
abbrev drawn_as : ℕ → ℕ → ℕ → ℤ → ℤ → Report
drawn_as k x y vx vy = report_of (pos k) (pos 0) (pos x) (pos y) vx vy

-- three floats from 0; the last of 1,024 from 42; a skip of all
unfoldable pub floats : List (Example (List Report))
floats =
    record {
      given = written_floats (fleet 0 3 0);
      said =
          drawn_as 1 1980281 2336788 (pos 320) (pos 168)
          ∷ drawn_as 2 3221874 5216099 (negsuc 155) (pos 140)
          ∷ drawn_as 3 4259551 4880471 (pos 297) (pos 238)
          ∷ [];
    }
    ∷ record { given = written_floats (fleet 42 1024 1023); said = drawn_as 1024 6855914 5896265 (pos 5) (pos 39) ∷ [] }
    ∷ record { given = written_floats (fleet 42 1024 1024); said = [] }
    ∷ []

-- an input, and what is written for it, without the newline that ends it
abbrev written : String → String → Example (List ℕ)
written input text = record { given = fleet_text (bytes input); said = bytes text ++ code "\n" ∷ [] }

-- a line with its newline and without; a skip; then no fleet: nothing, a second line, a carriage return, a number out of its range, wrong columns and
-- what is no number
unfoldable pub texts : List (Example (List ℕ))
texts =
    written "         0         1         0\n" "A         1         0   1980281   2336788       320       168"
    ∷ written "         0         1         0" "A         1         0   1980281   2336788       320       168"
    ∷ written "4294967295         1         0" "A         1         0   1977030   1575910      -366       131"
    ∷ written "         0         2         1\n" "A         2         0   3221874   5216099      -156       140"
    ∷ map (λ (input : String). written input "?") others
  where
    others : List String
    others =
        ""
        ∷ "\n"
        ∷ "         0         1         0\n\n"
        ∷ "         0         1         0\n         0         1         0\n"
        ∷ "         0         1         0\r\n"
        ∷ "4294967296         1         0"
        ∷ "         0         0         0"
        ∷ "         0      1025         0"
        ∷ "         0         1         2"
        ∷ "        -1         1         0"
        ∷ "        -0         1         0"
        ∷ "       007         1         0"
        ∷ "        +5         1         0"
        ∷ "         0        01         0"
        ∷ "         0         x         0"
        ∷ "         0                   0"
        ∷ "         0         1        0"
        ∷ "0 1 0"
        ∷ []
