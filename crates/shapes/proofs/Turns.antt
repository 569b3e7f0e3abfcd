-- The four turns of a square: a turn keeps the square, is undone by itself and keeps how many sides lie between two cells. How a quadrant's smaller square
-- is entered is one of them.
-- Assumes nothing.
use mathlib.Core.Path.{◌≡◌, refl, ap, ap₂, ◌∙◌}
use Prim.Native.Nat.{ℕ, ◌+◌, ◌-◌, ◌<◌}
use native.Mathlib.Omega.{arith}
use Rattle.grid.specs.Curve.{Quadrant, first, second, third, fourth, cell, entered, apart}
use Rattle.grid.specs.declared.Cell.{Cell}
use Rattle.grid.proofs.PlacesLaws.{one_cell}
use Rattle.shapes.specs.Shapes.{Shape, ShapeA, ShapeB, ShapeC, ShapeD}
use Rattle.shapes.specs.Claims.{OnSquare, turned}

pub turned_on : (f : Shape) (s : ℕ) {c : Cell} → OnSquare s c → OnSquare s (turned f s c)
turned_on ShapeA s o = o
turned_on ShapeB s o = record { column_on = o.row_on; row_on = o.column_on }
turned_on ShapeC s o = let x = o.column_on in record { column_on = omega arith; row_on = omega arith }
turned_on ShapeD s o = let x = o.column_on in record { column_on = omega arith; row_on = omega arith }

pub turned_back : (f : Shape) (s : ℕ) {c : Cell} → OnSquare s c → turned f s (turned f s c) ≡ c
turned_back ShapeA s o = refl
turned_back ShapeB s o = refl
turned_back ShapeC s o = let x = o.column_on in let y = o.row_on in one_cell (omega arith) (omega arith)
turned_back ShapeD s o = let x = o.column_on in let y = o.row_on in one_cell (omega arith) (omega arith)

-- ---- how many sides lie between two cells

pub sides : {a b c d a' b' c' d' : ℕ} → a ≡ a' → b ≡ b' → c ≡ c' → d ≡ d' → a + b + (c + d) ≡ a' + b' + (c' + d')
sides p q r s = λ i. p i + q i + (r i + s i)

exchanged : (a b : Cell) → apart (cell a.row a.column) (cell b.row b.column) ≡ apart a b
exchanged a b = swapped (a.column - b.column) (b.column - a.column) (a.row - b.row) (b.row - a.row)
  where
    swapped : (w x y z : ℕ) → y + z + (w + x) ≡ w + x + (y + z)
    swapped w x y z = omega arith

-- counted from the other end a difference changes sides
mirrored : (s : ℕ) {a b : Cell} → OnSquare s a → OnSquare s b → apart (cell (s - 1 - a.column) (s - 1 - a.row)) (cell (s - 1 - b.column) (s - 1 - b.row)) ≡ apart a b
mirrored s {a} {b} o p =
    sides (back a.column b.column o.column_on p.column_on) (back b.column a.column p.column_on o.column_on)
    (back a.row b.row o.row_on p.row_on) (back b.row a.row p.row_on o.row_on)
    ∙ swapped (a.column - b.column) (b.column - a.column) (a.row - b.row) (b.row - a.row)
  where
    back : (m n : ℕ) → m < s → n < s → (s - 1 - m) - (s - 1 - n) ≡ n - m
    back m n h l = omega arith

    swapped : (w x y z : ℕ) → x + w + (z + y) ≡ w + x + (y + z)
    swapped w x y z = omega arith

pub apart_turned : (f : Shape) (s : ℕ) {a b : Cell} → OnSquare s a → OnSquare s b → apart (turned f s a) (turned f s b) ≡ apart a b
apart_turned ShapeA s o p = refl
apart_turned ShapeB s {a} {b} o p = exchanged a b
apart_turned ShapeC s {a} {b} o p = exchanged (turned ShapeD s a) (turned ShapeD s b) ∙ mirrored s o p
apart_turned ShapeD s o p = mirrored s o p

-- ---- entering a quadrant's smaller square

-- the turn of shape A's part there
abbrev turn_in : Quadrant → Shape
turn_in first = ShapeB
turn_in second = ShapeA
turn_in third = ShapeA
turn_in fourth = ShapeC

enters : (q : Quadrant) (s : ℕ) (c : Cell) → entered q s c ≡ turned (turn_in q) s c
enters first s c = refl
enters second s c = refl
enters third s c = refl
enters fourth s c = refl

pub entered_on : (q : Quadrant) (s : ℕ) {c : Cell} → OnSquare s c → OnSquare s (entered q s c)
entered_on q s {c} o = rw (enters q s c) (turned_on (turn_in q) s o)

pub entered_back : (q : Quadrant) (s : ℕ) {c : Cell} → OnSquare s c → entered q s (entered q s c) ≡ c
entered_back q s {c} o = enters q s (entered q s c) ∙ ap (turned (turn_in q) s) (enters q s c) ∙ turned_back (turn_in q) s o

pub apart_entered : (q : Quadrant) (s : ℕ) {a b : Cell} → OnSquare s a → OnSquare s b → apart (entered q s a) (entered q s b) ≡ apart a b
apart_entered q s {a} {b} o p = ap₂ apart (enters q s a) (enters q s b) ∙ apart_turned (turn_in q) s o p
