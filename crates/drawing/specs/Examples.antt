-- Numbers and bytes of the chart that were computed elsewhere: what the definitions give, and what is said.
-- Assumes nothing.
use Rattle.std.specs.Prelude.{List, [], ◌∷◌, ℕ}
use Prim.Native.Char.{code}
use Rattle.ints.specs.Examples.{Example}
use Rattle.drawing.specs.Chart.{line_bytes, chart_bytes, row_numbers, chart_line}

-- the first and the last numbers of row 0 and of row 31, a line of three numbers, and the bytes of a line and of the text
unfoldable pub examples : List (Example (List ℕ))
examples =
    record { given = row_numbers 0 0 10; said = 0 ∷ 3 ∷ 4 ∷ 5 ∷ 58 ∷ 59 ∷ 60 ∷ 63 ∷ 64 ∷ 65 ∷ [] }
    ∷ record { given = row_numbers 0 28 4; said = 1018 ∷ 1019 ∷ 1020 ∷ 1023 ∷ [] }
    ∷ record { given = row_numbers 31 0 4; said = 341 ∷ 342 ∷ 345 ∷ 346 ∷ [] }
    ∷ record { given = row_numbers 31 28 4; said = 677 ∷ 678 ∷ 681 ∷ 682 ∷ [] }
    ∷ record {
      given = chart_line (0 ∷ 58 ∷ 1023 ∷ []);
      said =
          code " " ∷ code " " ∷ code " " ∷ code " " ∷ code "0" ∷ code " " ∷ code " " ∷ code " " ∷ code "5" ∷ code "8"
          ∷ code " " ∷ code "1" ∷ code "0" ∷ code "2" ∷ code "3" ∷ code "\n" ∷ [];
    }
    ∷ record { given = line_bytes ∷ chart_bytes ∷ []; said = 161 ∷ 5152 ∷ [] }
    ∷ []
