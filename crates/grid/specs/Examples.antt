-- The P cases of document 01, "Sightings on paper", that speak of the grid: what the definitions give, and what the document says.
-- Assumes nothing.
use Rattle.std.specs.Prelude.{List, [], ◌∷◌, ℕ, pos, negsuc}
use Rattle.ints.specs.Examples.{Example}
use Rattle.grid.specs.Places.{column_of}
use Rattle.grid.specs.Curve.{cell, curve_number}

-- P1 to P6, curve numbers by (column, row), and P7 to P10, columns
unfoldable pub examples : List (Example ℕ)
examples =
    record { given = curve_number (cell 0 0); said = 0 }
    ∷ record { given = curve_number (cell 0 1); said = 1 }
    ∷ record { given = curve_number (cell 1 0); said = 3 }
    ∷ record { given = curve_number (cell 0 31); said = 341 }
    ∷ record { given = curve_number (cell 31 31); said = 682 }
    ∷ record { given = curve_number (cell 16 0); said = 938 }
    ∷ record { given = column_of (pos 262143); said = 0 }
    ∷ record { given = column_of (pos 262144); said = 1 }
    ∷ record { given = column_of (negsuc 0); said = 0 }
    ∷ record { given = column_of (pos 8388608); said = 31 }
    ∷ []
