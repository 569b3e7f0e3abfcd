-- The Hilbert curve through a square of side 2 ^ k, for every order k, by document 01's quadrant rule, and the cell of a number on it.
-- Assumes nothing.
use Rattle.std.specs.Prelude.{◌≡◌, Bool, true, false, cond, List, ℕ, zero, suc, ◌+◌, ◌-◌, ◌*◌, ◌/◌, ◌%◌, ◌^◌, leb, get_or}
use Rattle.grid.specs.Units.{order, side}
use Rattle.grid.specs.Places.{OnGrid}
use Rattle.grid.specs.declared.Cell.{Cell}

abbrev pub cell : ℕ → ℕ → Cell
cell u v = record { column = u; row = v }

-- the quadrants in the curve's order
pub data Quadrant : Type 0 where
  first : Quadrant
  second : Quadrant
  third : Quadrant
  fourth : Quadrant

-- by (right half, upper half): the order is (0,0), (0,1), (1,1), (1,0)
abbrev pub quadrant : Bool → Bool → Quadrant
quadrant false false = first
quadrant false true = second
quadrant true true = third
quadrant true false = fourth

-- the quadrants before it
abbrev pub before : Quadrant → ℕ
before first = 0
before second = 1
before third = 2
before fourth = 3

-- where the smaller square, of side s, is entered for the place (u, v) in the quadrant. Done twice, it gives back (u, v)
abbrev pub entered : Quadrant → ℕ → Cell → Cell
entered first s c = cell c.row c.column
entered second s c = c
entered third s c = c
entered fourth s c = cell (s - 1 - c.row) (s - 1 - c.column)

-- a column or a row counted from the start of its half
abbrev pub in_half : ℕ → ℕ → ℕ
in_half s u = cond (leb s u) (u - s) u

-- the number of a cell on the curve through a square of side 2 ^ k
unfoldable pub number_at : ℕ → Cell → ℕ
number_at zero c = 0
number_at (suc k) c =
    let s = 2 ^ k in
    let q = quadrant (leb s c.column) (leb s c.row) in
    before q * (s * s) + number_at k (entered q s (cell (in_half s c.column) (in_half s c.row)))

-- the quadrant with so many before it
abbrev pub after : ℕ → Quadrant
after zero = first
after (suc zero) = second
after (suc (suc zero)) = third
after (suc (suc (suc n))) = fourth

-- the place (u, v) in the quadrant, counted from the start of the whole square
abbrev pub in_whole : Quadrant → ℕ → Cell → Cell
in_whole first s c = c
in_whole second s c = cell c.column (s + c.row)
in_whole third s c = cell (s + c.column) (s + c.row)
in_whole fourth s c = cell (s + c.column) c.row

-- the cell with number n on that curve: the quadrant rule read backwards
unfoldable pub cell_at : ℕ → ℕ → Cell
cell_at zero n = cell 0 0
cell_at (suc k) n =
    let s = 2 ^ k in
    let q = after (n / (s * s)) in
    in_whole q s (entered q s (cell_at k (n % (s * s))))

-- the curve number of a cell of the grid, and the cell of a curve number
abbrev pub curve_number : Cell → ℕ
curve_number = number_at order

abbrev pub cell_of_number : ℕ → Cell
cell_of_number = cell_at order

-- a table of the curve numbers of the grid's cells, by 32 times the row and the column
pub record IsCurve (numbers : List ℕ) : Type 0 where
  pub numbered : (c : Cell) → OnGrid c → get_or numbers (c.row * side + c.column) 0 ≡ curve_number c

-- to look a cell's number up in it
pub record CanLookUp (numbers : List ℕ) (c : Cell) : Type 0 where
  pub curve : IsCurve numbers
  pub on_grid : OnGrid c

-- how many sides must be crossed from one cell to the other: 1 where they share a side
abbrev pub apart : Cell → Cell → ℕ
apart a b = (a.column - b.column) + (b.column - a.column) + ((a.row - b.row) + (b.row - a.row))
