-- The curve of document 01's quadrant rule, for every order: a number and its cell lead to one another, the curve starts at the low corner and ends at
-- the right one, and neighbours on it share a side. Each is by induction on the order, one quadrant at a time.
-- Assumes nothing.
use mathlib.Core.Path.{◌≡◌, refl, sym, ap, ap₂, ◌∙◌}
use mathlib.Core.Logic.{dite}
use Prim.Native.Nat.{ℕ, zero, suc, ◌+◌, ◌-◌, ◌*◌, ◌/◌, ◌%◌, ◌^◌, ◌<◌}
use native.Mathlib.Nat.{mod-lt, suc-mul, lt_of_mul-lt-mul_right}
use native.Mathlib.Decide.{dec_lt}
use native.Mathlib.Omega.{arith}
use lib.Pow.{pow_pos}
use borrow.Author.Tests.{le-leb, lt-leb}
use Rattle.grid.specs.Curve.{Quadrant, first, second, third, fourth, cell, before, after, entered, in_whole, number_at, cell_at, apart}
use Rattle.grid.specs.declared.Cell.{Cell}
use Rattle.grid.proofs.PlacesLaws.{one_cell}
use Rattle.shapes.specs.Claims.{OnSquare, cell_count}
use Rattle.shapes.proofs.Turns.{entered_on, entered_back, sides, apart_entered}
use Rattle.shapes.proofs.Squares.{square_above_0, twice, four_quarters, quarter_below, quarter_and_rest, quarter_is, rest_is}

whole_on : (q : Quadrant) (s : ℕ) {c : Cell} → OnSquare s c → OnSquare (s + s) (in_whole q s c)
whole_on first s o = let x = o.column_on in let y = o.row_on in record { column_on = omega arith; row_on = omega arith }
whole_on second s o = let x = o.column_on in let y = o.row_on in record { column_on = omega arith; row_on = omega arith }
whole_on third s o = let x = o.column_on in let y = o.row_on in record { column_on = omega arith; row_on = omega arith }
whole_on fourth s o = let x = o.column_on in let y = o.row_on in record { column_on = omega arith; row_on = omega arith }

-- each number's cell is in the square
pub cell_on : (k n : ℕ) → OnSquare (2 ^ k) (cell_at k n)
unfolding cell_at
cell_on zero n = record { column_on = omega arith; row_on = omega arith }
cell_on (suc k) n =
    let s = 2 ^ k in
    rw (twice k) (whole_on (after (n / (s * s))) s (entered_on (after (n / (s * s))) s (cell_on k (n % (s * s)))))

-- the number of a place of a quadrant
number_in : (q : Quadrant) (k : ℕ) (e : Cell) → OnSquare (2 ^ k) e → number_at (suc k) (in_whole q (2 ^ k) e) ≡ before q * cell_count k + number_at k (entered q (2 ^ k) e)
unfolding number_at
number_in first k e o = rw (lt-leb (2 ^ k) e.column o.column_on, lt-leb (2 ^ k) e.row o.row_on) refl
number_in second k e o =
    rw (lt-leb (2 ^ k) e.column o.column_on, le-leb (2 ^ k) (2 ^ k + e.row) (omega arith))
    (ap (λ (z : ℕ). 1 * cell_count k + number_at k (cell e.column z)) (omega arith))
number_in third k e o =
    rw (le-leb (2 ^ k) (2 ^ k + e.column) (omega arith), le-leb (2 ^ k) (2 ^ k + e.row) (omega arith))
    (ap₂ (λ (z w : ℕ). 2 * cell_count k + number_at k (cell z w)) (omega arith) (omega arith))
number_in fourth k e o =
    rw (le-leb (2 ^ k) (2 ^ k + e.column) (omega arith), lt-leb (2 ^ k) e.row o.row_on)
    (ap (λ (z : ℕ). 3 * cell_count k + number_at k (cell (2 ^ k - 1 - e.row) (2 ^ k - 1 - z))) (omega arith))

-- ---- a number and its quadrant

before_after : (j : ℕ) → j < 4 → before (after j) ≡ j
before_after zero h = refl
before_after (suc zero) h = refl
before_after (suc (suc zero)) h = refl
before_after (suc (suc (suc zero))) h = refl
before_after (suc (suc (suc (suc j)))) h = absurd (omega arith)

after_before : (q : Quadrant) → after (before q) ≡ q
after_before first = refl
after_before second = refl
after_before third = refl
after_before fourth = refl

-- each number is the number of its cell
pub number_of_its_cell : (k n : ℕ) → n < cell_count k → number_at k (cell_at k n) ≡ n
unfolding cell_at number_at
number_of_its_cell zero n h = omega arith
number_of_its_cell (suc k) n h =
    let s = 2 ^ k in
    let z = s * s in
    let q = after (n / z) in
    let e = cell_at k (n % z) in
    let on = cell_on k (n % z) in
    let p = square_above_0 k in
    let j = quarter_below n z (rw (four_quarters k) at h) in
    number_in q k (entered q s e) (entered_on q s on)
    ∙ ap (λ (c : Cell). before q * z + number_at k c) (entered_back q s on)
    ∙ ap₂ (λ (a b : ℕ). a * z + b) (before_after (n / z) j) (number_of_its_cell k (n % z) (mod-lt n p))
    ∙ sym (quarter_and_rest n z)

-- a place of the square lies in some quadrant
record InQuadrant (k : ℕ) (c : Cell) : Type 0 where
  of : Quadrant
  place : Cell
  on : OnSquare (2 ^ k) place
  is : c ≡ in_whole of (2 ^ k) place

in_quadrant : (k : ℕ) (c : Cell) → OnSquare (2 ^ suc k) c → InQuadrant k c
in_quadrant k c o =
    let s = 2 ^ k in
    let w : OnSquare (s + s) c = rw (twice k) at o in
    let x = w.column_on in
    let y = w.row_on in
    let u = c.column in
    let v = c.row in
    dite (dec_lt u s)
    (λ l. dite (dec_lt v s)
    (λ m. record { of = first; place = c; on = record { column_on = l; row_on = m }; is = refl })
    (λ m. record { of = second; place = cell u (v - s); on = record { column_on = l; row_on = omega arith }; is = one_cell refl (omega arith) }))
    (λ l. dite (dec_lt v s)
    (λ m. record { of = fourth; place = cell (u - s) v; on = record { column_on = omega arith; row_on = m }; is = one_cell (omega arith) refl })
    (λ m. record { of = third; place = cell (u - s) (v - s); on = record { column_on = omega arith; row_on = omega arith }; is = one_cell (omega arith) (omega arith) }))

before_few : (q : Quadrant) (z r : ℕ) → r < z → before q * z + r < 4 * z
before_few first z r h = omega arith
before_few second z r h = omega arith
before_few third z r h = omega arith
before_few fourth z r h = omega arith

-- each place has a number of the curve
pub number_below : (k : ℕ) (c : Cell) → OnSquare (2 ^ k) c → number_at k c < cell_count k
unfolding number_at
number_below zero c o = omega arith
number_below (suc k) c o =
    let t = in_quadrant k c o in
    let r = number_below k (entered t.of (2 ^ k) t.place) (entered_on t.of (2 ^ k) t.on) in
    let e = ap (number_at (suc k)) t.is ∙ number_in t.of k t.place t.on in
    rw (four_quarters k) (rw e (before_few t.of (cell_count k) _ r))

-- the cell of a number of a quadrant
cell_in : (k : ℕ) (q : Quadrant) (r : ℕ) → r < cell_count k → cell_at (suc k) (before q * cell_count k + r) ≡ in_whole q (2 ^ k) (entered q (2 ^ k) (cell_at k r))
unfolding cell_at
cell_in k q r h =
    let s = 2 ^ k in
    ap₂ (λ (i j : ℕ). in_whole (after i) s (entered (after i) s (cell_at k j))) (quarter_is (before q) (cell_count k) r h) (rest_is (before q) (cell_count k) r h)
    ∙ ap (λ (a : Quadrant). in_whole a s (entered a s (cell_at k r))) (after_before q)

-- each place is the cell of its number
pub cell_of_its_number : (k : ℕ) (c : Cell) → OnSquare (2 ^ k) c → cell_at k (number_at k c) ≡ c
unfolding cell_at
cell_of_its_number zero c o = let x = o.column_on in let y = o.row_on in one_cell (omega arith) (omega arith)
cell_of_its_number (suc k) c o =
    let s = 2 ^ k in
    let t = in_quadrant k c o in
    let i = entered t.of s t.place in
    let on = entered_on t.of s t.on in
    ap (cell_at (suc k)) (ap (number_at (suc k)) t.is ∙ number_in t.of k t.place t.on)
    ∙ cell_in k t.of (number_at k i) (number_below k i on)
    ∙ ap (λ (x : Cell). in_whole t.of s (entered t.of s x)) (cell_of_its_number k i on)
    ∙ ap (in_whole t.of s) (entered_back t.of s t.on)
    ∙ sym t.is

-- ---- the ends of the curve

pub starts : (k : ℕ) → cell_at k 0 ≡ cell 0 0
unfolding cell_at
starts zero = refl
starts (suc k) =
    let s = 2 ^ k in
    let here : 0 ≡ 0 * cell_count k + 0 = omega arith in
    ap (cell_at (suc k)) here ∙ cell_in k first 0 (square_above_0 k) ∙ ap (λ (c : Cell). in_whole first s (entered first s c)) (starts k)

pub ends : (k : ℕ) → cell_at k (cell_count k - 1) ≡ cell (2 ^ k - 1) 0
unfolding cell_at
ends zero = refl
ends (suc k) =
    let s = 2 ^ k in
    let z = s * s in
    let p = square_above_0 k in
    let o = pow_pos k in
    let t = twice k in
    let last : cell_count (suc k) - 1 ≡ 3 * z + (z - 1) = omega (arith, four_quarters k) in
    ap (cell_at (suc k)) last
    ∙ cell_in k fourth (z - 1) (omega arith)
    ∙ ap (λ (c : Cell). in_whole fourth s (entered fourth s c)) (ends k)
    ∙ one_cell (omega arith) (omega arith)

-- ---- neighbours

-- a difference is kept by a shift
shifted : (s a b : ℕ) → (s + a) - (s + b) ≡ a - b
shifted s a b = omega arith

apart_whole : (q : Quadrant) (s : ℕ) (a b : Cell) → apart (in_whole q s a) (in_whole q s b) ≡ apart a b
apart_whole first s a b = refl
apart_whole second s a b = sides refl refl (shifted s a.row b.row) (shifted s b.row a.row)
apart_whole third s a b =
    sides (shifted s a.column b.column) (shifted s b.column a.column) (shifted s a.row b.row) (shifted s b.row a.row)
apart_whole fourth s a b = sides (shifted s a.column b.column) (shifted s b.column a.column) refl refl

-- from the last cell of a quadrant to the first of the next
crossing :
    (k j : ℕ)
    → j < 3
    → apart (in_whole (after j) (2 ^ k) (entered (after j) (2 ^ k) (cell (2 ^ k - 1) 0))) (in_whole (after (suc j)) (2 ^ k) (entered (after (suc j)) (2 ^ k) (cell 0 0))) ≡ 1
crossing k zero h = let o = pow_pos k in omega arith
crossing k (suc zero) h = let o = pow_pos k in omega arith
crossing k (suc (suc zero)) h = let o = pow_pos k in omega arith
crossing k (suc (suc (suc j))) h = absurd (omega arith)

-- the same by numbers: the r-th cell of the j-th quadrant
cell_by : (k j r : ℕ) → j < 4 → r < cell_count k → cell_at (suc k) (j * cell_count k + r) ≡ in_whole (after j) (2 ^ k) (entered (after j) (2 ^ k) (cell_at k r))
cell_by k j r h l = ap (λ (i : ℕ). cell_at (suc k) (i * cell_count k + r)) (sym (before_after j h)) ∙ cell_in k (after j) r l

module _ (k j : ℕ) where
  -- within a quadrant, and across
  within : (r : ℕ) → j < 4 → r + 1 < cell_count k → apart (cell_at k r) (cell_at k (r + 1)) ≡ 1 → apart (cell_at (suc k) (j * cell_count k + r)) (cell_at (suc k) (j * cell_count k + (r + 1))) ≡ 1
  within r h l e =
      let s = 2 ^ k in
      let q = after j in
      let a = cell_at k r in
      let b = cell_at k (r + 1) in
      ap₂ apart (cell_by k j r h (omega arith)) (cell_by k j (r + 1) h l)
      ∙ apart_whole q s (entered q s a) (entered q s b)
      ∙ apart_entered q s (cell_on k r) (cell_on k (r + 1))
      ∙ e

  across : j < 3 → apart (cell_at (suc k) (j * cell_count k + (cell_count k - 1))) (cell_at (suc k) (suc j * cell_count k + 0)) ≡ 1
  across h =
      let s = 2 ^ k in
      let p = square_above_0 k in
      ap₂ apart
      (cell_by k j (cell_count k - 1) (omega arith) (omega arith) ∙ ap (λ (c : Cell). in_whole (after j) s (entered (after j) s c)) (ends k))
      (cell_by k (suc j) 0 (omega arith) p ∙ ap (λ (c : Cell). in_whole (after (suc j)) s (entered (after (suc j)) s c)) (starts k))
      ∙ crossing k j h

pub neighbours_share_a_side : (k n : ℕ) → n + 1 < cell_count k → apart (cell_at k n) (cell_at k (n + 1)) ≡ 1
neighbours_share_a_side zero n h = absurd (omega arith)
neighbours_share_a_side (suc k) n h =
    let z = cell_count k in
    let j = n / z in
    let r = n % z in
    let p = square_above_0 k in
    let few : n + 1 < 4 * z = rw (four_quarters k) at h in
    let d : n ≡ j * z + r = quarter_and_rest n z in
    let small : r < z = mod-lt n p in
    dite (dec_lt (r + 1) z)
    (λ l.
    let next : n + 1 ≡ j * z + (r + 1) = omega arith in
    ap₂ (λ (a b : ℕ). apart (cell_at (suc k) a) (cell_at (suc k) b)) d next
    ∙ within k j r (quarter_below n z (omega arith)) l (neighbours_share_a_side k r l))
    (λ l.
    let here : n ≡ j * z + (z - 1) = omega arith in
    let up = suc-mul j z in
    let next : n + 1 ≡ suc j * z + 0 = omega arith in
    ap₂ (λ (a b : ℕ). apart (cell_at (suc k) a) (cell_at (suc k) b)) here next
    ∙ across k j (let b : suc j < 4 = lt_of_mul-lt-mul_right z (let i : suc j * z < 4 * z = omega arith in i) in omega arith))
