-- The four shapes of document 02, A1, each made of four half-size ones, and the cells that a shape of any order visits.
-- Assumes nothing.
use Rattle.std.specs.Prelude.{ℕ, zero, suc, ◌+◌, ◌*◌, ◌/◌, ◌%◌, ◌^◌}
use Rattle.grid.specs.Curve.{cell}
use Rattle.grid.specs.declared.Cell.{Cell}

-- the document's A, B, C and D
pub data Shape : Type 0 where
  ShapeA : Shape
  ShapeB : Shape
  ShapeC : Shape
  ShapeD : Shape

-- one half-size part of a shape: where it lies, as a cell of a square of side 2, and its own shape
pub record Part : Type 0 where
  pub corner : Cell
  pub shape : Shape

abbrev part : ℕ → ℕ → Shape → Part
part column row f = record { corner = cell column row; shape = f }

-- the first, second, third and fourth of four, counted from 0
abbrev in_order : Part → Part → Part → Part → ℕ → Part
in_order a b c d zero = a
in_order a b c d (suc zero) = b
in_order a b c d (suc (suc zero)) = c
in_order a b c d (suc (suc (suc n))) = d

-- the parts of a shape in the order of its visit
unfoldable pub part_of : Shape → ℕ → Part
part_of ShapeA = in_order (part 0 0 ShapeB) (part 0 1 ShapeA) (part 1 1 ShapeA) (part 1 0 ShapeC)
part_of ShapeB = in_order (part 0 0 ShapeA) (part 1 0 ShapeB) (part 1 1 ShapeB) (part 0 1 ShapeD)
part_of ShapeC = in_order (part 1 1 ShapeD) (part 0 1 ShapeC) (part 0 0 ShapeC) (part 1 0 ShapeA)
part_of ShapeD = in_order (part 1 1 ShapeC) (part 1 0 ShapeD) (part 0 0 ShapeD) (part 0 1 ShapeB)

-- a cell of the half-size square at a corner, counted from the start of the whole square; s is the half-size side
abbrev pub placed_at : Cell → ℕ → Cell → Cell
placed_at corner s c = cell (corner.column * s + c.column) (corner.row * s + c.row)

-- the cell that a shape of side 2 ^ k visits as its n-th, counted from 0
unfoldable pub visit : ℕ → Shape → ℕ → Cell
visit zero f n = cell 0 0
visit (suc k) f n =
    let s = 2 ^ k in
    let p = part_of f (n / (s * s)) in
    placed_at p.corner s (visit k p.shape (n % (s * s)))
