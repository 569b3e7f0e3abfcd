-- The claims of specs/BoundsInOnePass.antt, proved: where each cell of a block stands in the order of the visit, what the bounds after some cells come to,
-- and the bounds of a block from those of its two parts, whose cells together are the block's.
-- Assumes nothing.
use mathlib.Core.Path.{◌≡◌, refl, sym, ap, ◌∙◌, subst}
use mathlib.Core.List.Memᴰ
use mathlib.Core.List.{List, [], ◌∷◌, ◌++◌, map, map-append, Memᴰ}
use mathlib.Core.Logic.{◌⊎◌, inl, inr, ⊎_elim, dite}
use Prim.Native.Nat.{ℕ, zero, suc, ◌+◌, ◌-◌, ◌*◌, ◌<◌}
use native.Mathlib.Decide.{dec_le}
use native.Mathlib.Nat.{zero-mul, suc-mul, mul-le-mul_right}
use native.Mathlib.Omega.{arith}
use lib.ListN.{length, get_or, take, length-append, get_or-append}
use lib.Seq.{take-suc, take_all, get_or-append-add}
use Rattle.ints.specs.Visits.{VisitedOnce}
use Rattle.grid.specs.Curve.{cell}
use Rattle.grid.specs.declared.Cell.{Cell}
use Rattle.grid.proofs.PlacesLaws.{one_cell}
use Rattle.rows.specs.Row.{empty_row, joined, bounds_of, Within}
use Rattle.rows.specs.declared.Row.{Row}
use Rattle.rows.proofs.RowLaws.{joined_comm, joined_within, joined_absorbs, within_trans, within_antisym, within_joined_left, within_joined_right}
use Rattle.rows.proofs.RowLaws.{empty_is, bounds_over_empty, bounds_within, bounds_more}
use Rattle.methods.specs.Reach.{columns_of, rows_of, cells_of_row, cells_of_rows, cells_of, InBlock}
use Rattle.methods.specs.Methods.{Rows, bounds_in}
use Rattle.methods.specs.BoundsInOnePass.{cell_count, visited, BlocksAreVisitedRowByRow, bounds_after, AfterAllCells}
use Rattle.methods.specs.BoundsInOnePass.{up_to_column, after_column, up_to_row, after_row, SmallestOfBoth, BoundsOfCutBlocksJoin}
use Rattle.methods.specs.declared.Block.{Block}
use Rattle.methods.proofs.Blocks.{cells_in, cells_have, BlockWithin, Once, none, one, cells_once}
use Rattle.methods.proofs.Nesting.{in_bounds, bounds_in_grow}

-- ---- lists in which each cell stands once

place_in : (d : Cell) (cs : List Cell) (n : ℕ) → n < length cs → Memᴰ (get_or cs n d) cs
place_in d [] n h = absurd (omega arith)
place_in d (c ∷ cs) zero h = Memᴰ.head refl
place_in d (c ∷ cs) (suc n) h = Memᴰ.tail (place_in d cs n (omega arith))

one_place : (d : Cell) {cs : List Cell} → Once cs → (m n : ℕ) → m < length cs → n < length cs → get_or cs m d ≡ get_or cs n d → m ≡ n
one_place d none m n h k e = absurd (omega arith)
one_place d (one new more) zero zero h k e = refl
one_place d (one {c} {cs} new more) zero (suc n) h k e = absurd (new (subst (λ (x : Cell). Memᴰ x cs) (sym e) (place_in d cs n (omega arith))))
one_place d (one {c} {cs} new more) (suc m) zero h k e = absurd (new (subst (λ (x : Cell). Memᴰ x cs) e (place_in d cs m (omega arith))))
one_place d (one new more) (suc m) (suc n) h k e = ap suc (one_place d more m n (omega arith) (omega arith) e)

-- ---- the order of the visit

length_row : (row column n : ℕ) → length (cells_of_row row column n) ≡ n
unfolding cells_of_row
length_row row column zero = refl
length_row row column (suc n) = ap suc (length_row row (suc column) n)

length-rows : (b : Block) (row n : ℕ) → length (cells_of_rows b row n) ≡ n * columns_of b
unfolding cells_of_rows
length-rows b row zero = sym (zero-mul (columns_of b))
length-rows b row (suc n) =
    let xs = cells_of_row row b.first_column (columns_of b) in
    omega (arith, length-append xs (cells_of_rows b (suc row) n), length_row row b.first_column (columns_of b), length-rows b (suc row) n, suc-mul n (columns_of b))

in_row : (d : Cell) (row column n j : ℕ) → j < n → get_or (cells_of_row row column n) j d ≡ cell (column + j) row
unfolding cells_of_row
in_row d row column zero j h = absurd (omega arith)
in_row d row column (suc n) zero h = ap (λ (k : ℕ). cell k row) (omega arith)
in_row d row column (suc n) (suc j) h = in_row d row (suc column) n j (omega arith) ∙ ap (λ (k : ℕ). cell k row) (omega arith)

in_rows : (d : Cell) (b : Block) (row n i j : ℕ) → i < n → j < columns_of b → get_or (cells_of_rows b row n) (i * columns_of b + j) d ≡ cell (b.first_column + j) (row + i)
unfolding cells_of_rows
in_rows d b row zero i j h k = absurd (omega arith)
in_rows d b row (suc n) zero j h k =
    let xs = cells_of_row row b.first_column (columns_of b) in
    ap (λ (m : ℕ). get_or (xs ++ cells_of_rows b (suc row) n) m d) (omega arith)
    ∙ get_or-append xs (cells_of_rows b (suc row) n) d j (omega (arith, length_row row b.first_column (columns_of b)))
    ∙ in_row d row b.first_column (columns_of b) j k
    ∙ ap (cell (b.first_column + j)) (omega arith)
in_rows d b row (suc n) (suc i) j h k =
    let xs = cells_of_row row b.first_column (columns_of b) in
    ap (λ (m : ℕ). get_or (xs ++ cells_of_rows b (suc row) n) m d) (omega (arith, length_row row b.first_column (columns_of b), suc-mul i (columns_of b)))
    ∙ get_or-append-add xs (cells_of_rows b (suc row) n) (i * columns_of b + j) d
    ∙ in_rows d b (suc row) n i j (omega arith) k
    ∙ ap (cell (b.first_column + j)) (omega arith)

as_many : (b : Block) → length (cells_of b) ≡ cell_count b
unfolding cells_of
as_many b = length-rows b b.first_row (rows_of b)

in_turn_lem : (b : Block) (i j : ℕ) → i < rows_of b → j < columns_of b → visited b (i * columns_of b + j) ≡ cell (b.first_column + j) (b.first_row + i)
unfolding cells_of
in_turn_lem b i j h k = in_rows (cell 0 0) b b.first_row (rows_of b) i j h k

visited_once : (b : Block) (c : Cell) → InBlock b c → VisitedOnce (cell_count b) (visited b) c
visited_once b c h =
    let i = c.row - b.first_row in
    let j = c.column - b.first_column in
    let on_row : i < rows_of b = omega arith in
    let on_column : j < columns_of b = omega arith in
    let below : i * columns_of b + j < cell_count b = omega (arith, suc-mul i (columns_of b), mul-le-mul_right (columns_of b) on_row) in
    let visits = in_turn_lem b i j on_row on_column ∙ one_cell {b = c} (omega arith) (omega arith) in
    record {
      number = i * columns_of b + j;
      below = below;
      visits = visits;
      only = λ n l e. one_place (cell 0 0) (cells_once b) n (i * columns_of b + j) (omega (arith, as_many b)) (omega (arith, as_many b)) (e ∙ sym visits);
    }

pub blocks_are_visited_row_by_row : BlocksAreVisitedRowByRow
blocks_are_visited_row_by_row b =
    record {
      as_many = as_many b;
      in_turn_lem = in_turn_lem b;
      in_block = λ n h. cells_in b (place_in (cell 0 0) (cells_of b) n (omega (arith, as_many b)));
      once = visited_once b;
    }

-- ---- the bounds after some cells

pub after_none : (rows : Rows) (b : Block) → bounds_after 0 rows b ≡ empty_row
unfolding bounds_after bounds_of
after_none rows b = refl

-- the next cell's row is joined to them
pub after_one_more : (rows : Rows) (b : Block) (k : ℕ) → k < cell_count b → bounds_after (suc k) rows b ≡ joined (bounds_after k rows b) (rows (visited b k))
unfolding bounds_after
after_one_more rows b k h =
    let before = take k (cells_of b) in
    ap (λ (cs : List Cell). bounds_of (map rows cs)) (take-suc (cells_of b) k (cell 0 0) (omega (arith, as_many b)))
    ∙ ap bounds_of (map-append rows before (visited b k ∷ []))
    ∙ bounds_more (map rows before) (rows (visited b k))

pub after_all_cells : AfterAllCells
unfolding bounds_after bounds_in
after_all_cells rows b = ap (λ (cs : List Cell). bounds_of (map rows cs)) (take_all (cell_count b) (cells_of b) (omega (arith, as_many b)))

-- ---- a block cut in two

-- bounds that are the join of others, where either may be missing
join_smallest : {first second whole : Row} → Within empty_row first → Within empty_row second → whole ≡ joined first second → SmallestOfBoth first second whole
join_smallest {first} {second} {whole} f s e =
    record {
      is_join = e;
      holds_first = rw e (within_joined_left first second);
      holds_second = rw e (within_joined_right first second);
      smallest = λ r h k. rw e (joined_within h k);
      first_adds_nothing = λ none. e ∙ ap (λ (r : Row). joined r second) (empty_is first none) ∙ joined_absorbs s;
      second_adds_nothing = λ none. e ∙ ap (joined first) (empty_is second none) ∙ joined_comm first empty_row ∙ joined_absorbs f;
    }

module _ (rows : Rows) {p q b : Block} (u : BlockWithin p b) (v : BlockWithin q b) (either : (c : Cell) → InBlock b c → InBlock p c ⊎ InBlock q c) where
  over_none : (a : Block) → Within empty_row (bounds_in rows a)
  unfolding bounds_in
  over_none a = bounds_over_empty (map rows (cells_of a))

  abbrev both : Row
  both = joined (bounds_in rows p) (bounds_in rows q)

  row_within : (c : Cell) → InBlock b c → Within (rows c) both
  row_within c h =
      ⊎_elim
      (λ i. within_trans (in_bounds rows p (cells_have p i)) (within_joined_left (bounds_in rows p) (bounds_in rows q)))
      (λ i. within_trans (in_bounds rows q (cells_have q i)) (within_joined_right (bounds_in rows p) (bounds_in rows q)))
      (either c h)

  whole_within : Within (bounds_in rows b) both
  unfolding bounds_in
  whole_within =
      bounds_within (map rows (cells_of b)) (within_trans (over_none p) (within_joined_left (bounds_in rows p) (bounds_in rows q)))
      (λ r m. let k = Memᴰ.of_map rows (cells_of b) m in subst (λ (x : Row). Within x both) k.2 (row_within k.0 (cells_in b k.1)))

  of_both : SmallestOfBoth (bounds_in rows p) (bounds_in rows q) (bounds_in rows b)
  of_both =
      join_smallest (over_none p) (over_none q)
      (within_antisym whole_within (joined_within (bounds_in_grow rows u) (bounds_in_grow rows v)))

pub bounds_of_cut_blocks_join : BoundsOfCutBlocksJoin
bounds_of_cut_blocks_join rows b =
    record {
      at_column = λ column h k. of_both rows {p = up_to_column column b} {q = after_column column b} {b = b} (omega arith) (omega arith)
          (λ c i. dite (dec_le c.column column) (λ l. inl (omega arith)) (λ l. inr (omega arith)));
      at_row = λ row h k. of_both rows {p = up_to_row row b} {q = after_row row b} {b = b} (omega arith) (omega arith)
          (λ c i. dite (dec_le c.row row) (λ l. inl (omega arith)) (λ l. inr (omega arith)));
    }
