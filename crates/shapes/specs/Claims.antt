-- What is claimed of the four shapes, for every order together. The proofs are in proofs/Claims.antt.
-- Assumes nothing.
use Rattle.std.specs.Prelude.{◌≡◌, ℕ, ◌+◌, ◌-◌, ◌*◌, ◌^◌, ◌<◌}
use Rattle.ints.specs.Visits.{VisitedOnce}
use Rattle.grid.specs.Curve.{cell, number_at, cell_at, apart}
use Rattle.grid.specs.declared.Cell.{Cell}
use Rattle.shapes.specs.Shapes.{Shape, ShapeA, ShapeB, ShapeC, ShapeD, visit}

-- a cell of a square of side s
pub record OnSquare (s : ℕ) (c : Cell) : Type 0 where
  pub column_on : c.column < s
  pub row_on : c.row < s

-- the cells of a square of side 2 ^ k
abbrev pub cell_count : ℕ → ℕ
cell_count k = 2 ^ k * 2 ^ k

-- shape A is the curve of document 01's quadrant rule: a cell's number by the rule is that of its visit, for every cell and for every number
pub record IsQuadrantRule (k : ℕ) : Type 0 where
  pub cell_visited : (c : Cell) → OnSquare (2 ^ k) c → visit k ShapeA (number_at k c) ≡ c
  pub number_visited : (n : ℕ) → n < cell_count k → number_at k (visit k ShapeA n) ≡ n

abbrev pub ShapeAIsQuadrantRule : Type 0
ShapeAIsQuadrantRule = (k : ℕ) → IsQuadrantRule k

-- how the curve lies in a shape of side s: in A as it is, in B with column and row exchanged, in D counted from the high corner, in C both
abbrev pub turned : Shape → ℕ → Cell → Cell
turned ShapeA s c = c
turned ShapeB s c = cell c.row c.column
turned ShapeC s c = cell (s - 1 - c.row) (s - 1 - c.column)
turned ShapeD s c = cell (s - 1 - c.column) (s - 1 - c.row)

-- and every shape is that curve, turned
abbrev pub ShapesAreTurned : Type 0
ShapesAreTurned = (k : ℕ) (f : Shape) (n : ℕ) → visit k f n ≡ turned f (2 ^ k) (cell_at k n)

-- every cell of the square is visited once, and no cell off it
pub record VisitsSquare (k : ℕ) (f : Shape) : Type 0 where
  pub on_square : (n : ℕ) → OnSquare (2 ^ k) (visit k f n)
  pub once : (c : Cell) → OnSquare (2 ^ k) c → VisitedOnce (cell_count k) (visit k f) c

abbrev pub OneVisitPerCell : Type 0
OneVisitPerCell = (k : ℕ) (f : Shape) → VisitsSquare k f

-- a cell and the next one share a side
abbrev pub NeighboursShareASide : Type 0
NeighboursShareASide = (k : ℕ) (f : Shape) (n : ℕ) → n + 1 < cell_count k → apart (visit k f n) (visit k f (n + 1)) ≡ 1
