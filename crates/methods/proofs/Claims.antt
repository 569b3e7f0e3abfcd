-- The claims of specs/Claims.antt, proved: for any fair aim the methods are nested, the rounds are few and no float is missed; for a timeslice the
-- optimal method is exact. Also: the bound on the rounds never cuts a search short.
-- Assumes nothing.
use mathlib.Core.Path.{◌≡◌, refl, sym, ◌∙◌, subst}
use mathlib.Core.Bool.{Bool, true, false}
use mathlib.Core.List.Memᴰ
use mathlib.Core.List.{Memᴰ}
use Prim.Native.Nat.{ℕ, zero, suc, ◌+◌, ◌-◌}
use native.Mathlib.Omega.{arith}
use Rattle.ints.proofs.Lists.{passing_in, passing_has}
use Rattle.grid.specs.Places.{OnGrid}
use Rattle.grid.specs.Reports.{cell_at_time, is_listed}
use Rattle.grid.specs.declared.Cell.{Cell}
use Rattle.grid.specs.declared.Query.{Query}
use Rattle.grid.specs.declared.Report.{Report}
use Rattle.grid.proofs.PlacesLaws.{cell_on}
use Rattle.rows.specs.Row.{empty_row, is_empty, same_row}
use Rattle.rows.specs.Phases.{reference_time}
use Rattle.rows.specs.declared.Row.{Row}
use Rattle.methods.specs.Reach.{whole_grid, cells_of}
use Rattle.methods.specs.Aims.{Aim, slice_aim, view_of, aim_in, placed_by, own_cell, held_by, in_view}
use Rattle.methods.specs.Fair.{InOrder, Fair}
use Rattle.methods.specs.Methods.{Rows, Found, missing, found, cells_found, bounds_in, phase_bounds}
use Rattle.methods.specs.Methods.{expanded_block, naive_block, semi_naive_block, iterated, most_rounds, iterative_search, is_reached, choice}
use Rattle.methods.specs.Claims.{ValidRows, Reads, Nested, MethodsAreNested, RoundsAreFew, NoFloatIsMissed, OptimalIsExact}
use Rattle.methods.specs.declared.Block.{Block}
use Rattle.methods.proofs.Blocks.{cells_have, grid_has, BlockWithin, cells_within}
use Rattle.methods.proofs.Exact.{own_reached, reached_is_exact}
use Rattle.methods.proofs.Nesting.{expand, size, in_bounds, next, Shrinking, naive_shrinking, next_shrinking, expand_holds, not_missing}
use Rattle.methods.proofs.Methods.{found_on, expanded_on}
use Rattle.methods.proofs.Timeslice.{timeslice_is_fair}
use Rattle.methods.proofs.Views.{query_is_fair, query_sees, listed_inside}
use Rattle.methods.proofs.Rounds.{Few, none_is, onward_is, search_within, search_keeps, search_few, search_ends}

-- ---- what an expansion comes to

missing_is : (w : Row) (aim : Aim) → is_empty w ≡ true → expanded_block w aim ≡ missing
unfolding expanded_block
missing_is w aim e = rw e

found_is : (w : Row) (aim : Aim) → is_empty w ≡ false → expanded_block w aim ≡ found (expand aim w)
unfolding expanded_block
found_is w aim e = rw e

data Expansion (w : Row) (aim : Aim) : Type 0 where
  none_found : is_empty w ≡ true → expanded_block w aim ≡ missing → Expansion w aim
  one_found : is_empty w ≡ false → expanded_block w aim ≡ found (expand aim w) → Expansion w aim

expansion : (w : Row) (aim : Aim) → Expansion w aim
expansion w aim = go (is_empty w) refl
  where
    go : (t : Bool) → is_empty w ≡ t → Expansion w aim
    go true e = none_found e (missing_is w aim e)
    go false e = one_found e (found_is w aim e)

-- the semi-naive method expands by the bounds of the naive block's rows
semi_naive_is : (rows : Rows) (aim : Aim) (b : Block) → naive_block rows aim ≡ found b → semi_naive_block rows aim ≡ expanded_block (bounds_in rows b) aim
semi_naive_is rows aim b p = rw p

found_same : {a b : Block} → found a ≡ found b → a ≡ b
found_same p = cc

never_found : {b : Block} → missing ≡ found b → ⊥
never_found p = let z : ◌≡◌ {A = ℕ} 0 1 = cc in omega arith

-- the first round has no bounds before it that it could repeat
first_differs : (w : Row) → is_empty w ≡ false → same_row w empty_row ≡ false
unfolding is_empty
first_differs w e = e

module _ (rows : Rows) (valid : ValidRows rows) (aim : Aim) (fair : Fair aim) where
  -- ---- the naive block

  grid : BlockWithin whole_grid whole_grid
  grid = omega arith

  naive_has : {c : Cell} → OnGrid c → is_reached rows aim c ≡ true → Memᴰ c (cells_found (naive_block rows aim))
  naive_has {c} on r = go (expansion (phase_bounds rows) aim)
    where
      go : Expansion (phase_bounds rows) aim → Memᴰ c (cells_found (naive_block rows aim))
      go (none_found e p) = absurd (not_missing rows valid aim r grid (grid_has c on) e)
      go (one_found e p) = rw p (cells_have (expand aim (phase_bounds rows)) (expand_holds rows valid aim fair on r (in_bounds rows whole_grid (grid_has c on))))

  naive_found : {b : Block} → naive_block rows aim ≡ found b → Shrinking rows aim b
  naive_found {b} p = go (expansion (phase_bounds rows) aim)
    where
      go : Expansion (phase_bounds rows) aim → Shrinking rows aim b
      go (none_found e h) = absurd (never_found (sym h ∙ p))
      go (one_found e h) = subst (Shrinking rows aim) (found_same (sym h ∙ p)) (naive_shrinking rows valid aim fair e)

  naive_on : {c : Cell} → Memᴰ c (cells_found (naive_block rows aim)) → OnGrid c
  naive_on m = found_on (naive_block rows aim) (expanded_on (phase_bounds rows) aim) m

  -- the optimal method reads the cells on the grid that are reached
  pub optimal_reached : {c : Cell} → Reads 3 rows aim c → OnGrid c × (is_reached rows aim c ≡ true)
  unfolding choice
  optimal_reached m =
      let k = passing_in (is_reached rows aim) (cells_found (naive_block rows aim)) m in
      (naive_on k.0, k.1)

  pub reached_optimal : {c : Cell} → OnGrid c → is_reached rows aim c ≡ true → Reads 3 rows aim c
  unfolding choice
  reached_optimal on r = passing_has (is_reached rows aim) (cells_found (naive_block rows aim)) (naive_has on r) r

  -- ---- nesting

  semi_naive_in_naive : (c : Cell) → Reads 1 rows aim c → Reads 0 rows aim c
  unfolding choice
  semi_naive_in_naive c m = go (naive_block rows aim) refl
    where
      go : (f : Found) → naive_block rows aim ≡ f → Memᴰ c (cells_found (naive_block rows aim))
      go missing p = absurd (Memᴰ.not-nil (rw p at m))
      go (found b) p = rw p (again (expansion (bounds_in rows b) aim) (rw (semi_naive_is rows aim b p) at m))
        where
          again : Expansion (bounds_in rows b) aim → Memᴰ c (cells_found (expanded_block (bounds_in rows b) aim)) → Memᴰ c (cells_of b)
          again (none_found e h) k = absurd (Memᴰ.not-nil (rw h at k))
          again (one_found e h) k = cells_within (naive_found p).inside (rw h at k)

  iterative_in_semi_naive : (c : Cell) → Reads 2 rows aim c → Reads 1 rows aim c
  unfolding choice
  iterative_in_semi_naive c m = go (naive_block rows aim) refl
    where
      go : (f : Found) → naive_block rows aim ≡ f → Memᴰ c (cells_found (semi_naive_block rows aim))
      go missing p = absurd (Memᴰ.not-nil (rw p at m))
      go (found b) p = rw (semi_naive_is rows aim b p) (again (expansion (bounds_in rows b) aim) (rw p at m))
        where
          again : Expansion (bounds_in rows b) aim → Memᴰ c (cells_found (iterated most_rounds rows aim empty_row b 0).block) → Memᴰ c (cells_found (expanded_block (bounds_in rows b) aim))
          again (none_found e h) k = absurd (Memᴰ.not-nil (rw (none_is rows aim (most_rounds - 1) empty_row b 0 e) at k))
          again (one_found e h) k =
              rw h
              (search_within rows valid aim fair (most_rounds - 1) (bounds_in rows b) (next rows aim b) 1 (next_shrinking rows valid aim fair (naive_found p) e)
              (rw (onward_is rows aim (most_rounds - 1) empty_row b 0 e (first_differs (bounds_in rows b) e)) at k))

  optimal_in_iterative : (c : Cell) → Reads 3 rows aim c → Reads 2 rows aim c
  unfolding choice
  optimal_in_iterative c m = let k = optimal_reached m in go k.0 k.1 (naive_block rows aim) refl
    where
      go : OnGrid c → is_reached rows aim c ≡ true → (f : Found) → naive_block rows aim ≡ f → Memᴰ c (cells_found (iterative_search rows aim (naive_block rows aim)).block)
      go on r missing p = absurd (Memᴰ.not-nil (rw p at (naive_has on r)))
      go on r (found b) p = rw p (search_keeps rows valid aim fair most_rounds empty_row b 0 (naive_found p) r (rw p at (naive_has on r)))

  -- ---- rounds

  none_yet : {b : Block} → Shrinking rows aim b → Few rows (size b) empty_row b 0
  none_yet s = let o = s.ordered in record { fewer = omega arith; one_more = λ c. omega arith }

  pub enough_rounds : (b : Block) → naive_block rows aim ≡ found b → (m : ℕ) → iterated (most_rounds + m) rows aim empty_row b 0 ≡ iterated most_rounds rows aim empty_row b 0
  enough_rounds b p m =
      let s = naive_found p in
      let on = s.on in
      search_ends rows valid aim fair most_rounds m (size b) empty_row b 0 s (none_yet s) (omega arith)

-- ---- the claims

pub methods_are_nested : MethodsAreNested
methods_are_nested rows valid aim fair =
    record {
      optimal_in_iterative = optimal_in_iterative rows valid aim fair;
      iterative_in_semi_naive = iterative_in_semi_naive rows valid aim fair;
      semi_naive_in_naive = semi_naive_in_naive rows valid aim fair;
    }

pub rounds_are_few : RoundsAreFew
unfolding choice
rounds_are_few rows valid aim fair b p =
    let s = naive_found rows valid aim fair p in
    rw p (search_few rows valid aim fair most_rounds (size b) empty_row b 0 s (none_yet rows valid aim fair s))

pub no_float_is_missed : NoFloatIsMissed
unfolding choice
no_float_is_missed rows valid aim fair inside sees f h k method = go method
  where
    n : Nested rows aim
    n = methods_are_nested rows valid aim fair

    optimal : Reads 3 rows aim (own_cell f)
    optimal = reached_optimal rows valid aim fair (cell_on f.x f.y) (own_reached rows aim sees f h k)

    iterative : Reads 2 rows aim (own_cell f)
    iterative = n.optimal_in_iterative (own_cell f) optimal

    semi_naive : Reads 1 rows aim (own_cell f)
    semi_naive = n.iterative_in_semi_naive (own_cell f) iterative

    go : (method : ℕ) → Reads method rows aim (own_cell f)
    go zero = n.semi_naive_in_naive (own_cell f) semi_naive
    go (suc zero) = semi_naive
    go (suc (suc zero)) = iterative
    go (suc (suc (suc m))) = optimal

-- a query lists no float whose cell a method leaves out in its phase
pub listed_is_read :
    (rows : Rows)
    → ValidRows rows
    → (p : ℕ) (query : Query)
    → InOrder query.rect
    → (r : Report)
    → held_by (rows (cell_at_time r (reference_time p))) (placed_by p r) ≡ true
    → is_listed query r ≡ true
    → (method : ℕ)
    → Reads method rows (aim_in p query) (cell_at_time r (reference_time p))
listed_is_read rows valid p query o r h k =
    no_float_is_missed rows valid (aim_in p query) (query_is_fair p query o) (in_view (view_of p query)) (query_sees p query) (placed_by p r) h
    (listed_inside p query o r k)

pub optimal_is_exact : OptimalIsExact
optimal_is_exact rows valid s is c on =
    let aim = slice_aim s in
    let fair = timeslice_is_fair s is.in_order in
    let exact = reached_is_exact rows valid s is c on in
    (λ m. exact.0 (optimal_reached rows valid aim fair m).1, λ r. reached_optimal rows valid aim fair on (exact.1 r))
