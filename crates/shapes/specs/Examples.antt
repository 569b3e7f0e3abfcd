-- The visits of document 02, A1, that can be read off by hand: what the definitions give, and what is said.
-- Assumes nothing.
use Rattle.std.specs.Prelude.{List, [], ◌∷◌, ℕ, zero, suc}
use Rattle.ints.specs.Examples.{Example}
use Rattle.grid.specs.Curve.{cell}
use Rattle.grid.specs.declared.Cell.{Cell}
use Rattle.shapes.specs.Shapes.{Shape, ShapeA, ShapeB, ShapeC, ShapeD, visit}

-- n cells that a shape of order k visits, from a number on
unfoldable pub visits : ℕ → Shape → ℕ → ℕ → List Cell
visits k f number zero = []
visits k f number (suc n) = visit k f number ∷ visits k f (suc number) n

-- the four shapes of order 1 as the document tables them, and the curve of order 2
unfoldable pub examples : List (Example (List Cell))
examples =
    record { given = visits 1 ShapeA 0 4; said = cell 0 0 ∷ cell 0 1 ∷ cell 1 1 ∷ cell 1 0 ∷ [] }
    ∷ record { given = visits 1 ShapeB 0 4; said = cell 0 0 ∷ cell 1 0 ∷ cell 1 1 ∷ cell 0 1 ∷ [] }
    ∷ record { given = visits 1 ShapeC 0 4; said = cell 1 1 ∷ cell 0 1 ∷ cell 0 0 ∷ cell 1 0 ∷ [] }
    ∷ record { given = visits 1 ShapeD 0 4; said = cell 1 1 ∷ cell 1 0 ∷ cell 0 0 ∷ cell 0 1 ∷ [] }
    ∷ record {
      given = visits 2 ShapeA 0 16;
      said =
          cell 0 0 ∷ cell 1 0 ∷ cell 1 1 ∷ cell 0 1 ∷ cell 0 2 ∷ cell 0 3 ∷ cell 1 3 ∷ cell 1 2
          ∷ cell 2 2 ∷ cell 2 3 ∷ cell 3 3 ∷ cell 3 2 ∷ cell 3 1 ∷ cell 2 1 ∷ cell 2 0 ∷ cell 3 0 ∷ [];
    }
    ∷ []
