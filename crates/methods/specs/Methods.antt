-- The four ways to choose cells of a live phase: document 01, "The four ways to choose cells", methods 0 to 3. Each speaks of the phase's rows
-- by cell and of the ask's aim.
-- Assumes nothing.
use Rattle.std.specs.Prelude.{Bool, true, false, ◌&&◌, not, List, [], map, ℕ, zero, suc, ◌+◌}
use Rattle.ints.specs.Lists.{passing}
use Rattle.grid.specs.Units.{side}
use Rattle.grid.specs.declared.Cell.{Cell}
use Rattle.rows.specs.Row.{empty_row, is_empty, same_row, bounds_of}
use Rattle.rows.specs.declared.Row.{Row}
use Rattle.methods.specs.Reach.{block_of, whole_grid, cells_of}
use Rattle.methods.specs.Aims.{Aim}
use Rattle.methods.specs.declared.Block.{Block}

-- the rows of a phase, by cell
abbrev pub Rows : Type 0
Rows = Cell → Row

-- a block, or none where bounds are missing
pub data Found : Type 0 where
  missing : Found
  found : Block → Found

abbrev pub cells_found : Found → List Cell
cells_found missing = []
cells_found (found b) = cells_of b

-- the bounds of a block's rows, and of all the phase's rows
unfoldable pub bounds_in : Rows → Block → Row
bounds_in rows b = bounds_of (map rows (cells_of b))

abbrev pub phase_bounds : Rows → Row
phase_bounds rows = bounds_in rows whole_grid

abbrev pub unless_missing : Bool → Block → Found
unless_missing true b = missing
unless_missing false b = found b

-- the block of the rectangle expanded by bounds. Where bounds are missing, no cell is read
unfoldable pub expanded_block : Row → Aim → Found
expanded_block bounds aim = unless_missing (is_empty bounds) (block_of (aim.expanded bounds))

-- 0, naive: expanded by the phase's bounds
abbrev pub naive_block : Rows → Aim → Found
naive_block rows aim = expanded_block (phase_bounds rows) aim

-- 1, semi-naive: expanded by the bounds of the naive block's rows
abbrev pub narrowed_block : Rows → Aim → Found → Found
narrowed_block rows aim missing = missing
narrowed_block rows aim (found b) = expanded_block (bounds_in rows b) aim

abbrev pub semi_naive_block : Rows → Aim → Found
semi_naive_block rows aim = narrowed_block rows aim (naive_block rows aim)

-- what the iterative method comes to, and the rounds that it took
pub record Search : Type 0 where
  pub block : Found
  pub rounds : ℕ

-- 2, iterative, from a block found by the bounds `before` in so many rounds. A round finds the bounds of the block just found: missing, it
-- counts and no cell is read; the same as before, it is no round and the block stays; else the rectangle is expanded by them.
-- The first argument bounds the rounds, so that the recursion ends; `enough_rounds` says that it never cuts a search short
unfoldable pub iterated : ℕ → Rows → Aim → Row → Block → ℕ → Search
iterated zero rows aim before b rounds = record { block = found b; rounds = rounds }
iterated (suc most) rows aim before b rounds =
    let bounds = bounds_in rows b in
    elim (is_empty bounds) [
      | true ↦ record { block = missing; rounds = suc rounds }
      | false ↦ elim (same_row bounds before) [
        | true ↦ record { block = found b; rounds = rounds }
        | false ↦ iterated most rows aim bounds (block_of (aim.expanded bounds)) (suc rounds)
      ]
    ]

-- the rounds' bound: a search takes at most columns + rows - 1 rounds of the naive block
abbrev pub most_rounds : ℕ
most_rounds = side + side

-- before the first round there are no bounds to repeat. The naive expansion is no round
abbrev pub iterative_search : Rows → Aim → Found → Search
iterative_search rows aim missing = record { block = missing; rounds = 0 }
iterative_search rows aim (found b) = iterated most_rounds rows aim empty_row b 0

-- 3, optimal: every cell of the naive block whose row is nonempty and that, moved by its row's speeds, meets the rectangle
abbrev pub is_reached : Rows → Aim → Cell → Bool
is_reached rows aim c = not (is_empty (rows c)) && aim.meets c (rows c)

abbrev pub reached : Rows → Aim → List Cell → List Cell
reached rows aim = passing (is_reached rows aim)

-- a method's choice in a live phase: the cells to read, each once, and the rounds, which are 0 but for method 2
pub record Choice : Type 0 where
  pub cells : List Cell
  pub rounds : ℕ

-- the choice of a method by its number; every number from 3 on is the optimal method
unfoldable pub choice : ℕ → Rows → Aim → Choice
choice zero rows aim = record { cells = cells_found (naive_block rows aim); rounds = 0 }
choice (suc zero) rows aim = record { cells = cells_found (semi_naive_block rows aim); rounds = 0 }
choice (suc (suc zero)) rows aim =
    let search = iterative_search rows aim (naive_block rows aim) in
    record { cells = cells_found search.block; rounds = search.rounds }
choice (suc (suc (suc n))) rows aim = record { cells = reached rows aim (cells_found (naive_block rows aim)); rounds = 0 }
