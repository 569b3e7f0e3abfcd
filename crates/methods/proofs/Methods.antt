-- Three laws of every method's choice: each cell in it is on the grid and stands once, and it depends on the rows of the grid's cells alone.
-- Assumes nothing.
use mathlib.Core.Path.{◌≡◌, refl, sym, ap, ap₂, ◌∙◌}
use mathlib.Core.Bool.{Bool, true, false, ◌&&◌, not}
use mathlib.Core.List.Memᴰ
use mathlib.Core.List.{List, [], ◌∷◌, map, Memᴰ}
use Prim.Native.Nat.{ℕ, zero, suc}
use native.Mathlib.Omega.{arith}
use Rattle.ints.proofs.Lists.{passing_in, passing_same}
use Rattle.grid.specs.Places.{OnGrid}
use Rattle.grid.specs.declared.Cell.{Cell}
use Rattle.rows.specs.Row.{empty_row, is_empty, same_row, bounds_of}
use Rattle.rows.specs.declared.Row.{Row}
use Rattle.methods.specs.Reach.{block_of, whole_grid, cells_of}
use Rattle.methods.specs.Aims.{Aim}
use Rattle.methods.specs.Methods.{Rows, Found, missing, found, cells_found, bounds_in, phase_bounds, unless_missing}
use Rattle.methods.specs.Methods.{expanded_block, naive_block, narrowed_block, Search, iterated, semi_naive_block, most_rounds, iterative_search, is_reached, reached, Choice, choice}
use Rattle.methods.specs.declared.Block.{Block}
use Rattle.methods.proofs.Blocks.{BlockWithin, within_grid_on, Once, none, cells_once, passing_once}
use Rattle.methods.proofs.Nesting.{block_on, next}
use Rattle.methods.proofs.Rounds.{none_is, same_is, onward_is}

-- ---- on the grid

abbrev pub FoundOn : Found → Type 0
FoundOn missing = Unit {0}
FoundOn (found b) = BlockWithin b whole_grid

pub found_on : (f : Found) → FoundOn f → {c : Cell} → Memᴰ c (cells_found f) → OnGrid c
found_on missing on m = absurd (Memᴰ.not-nil m)
found_on (found b) on m = within_grid_on on m

pub expanded_on : (w : Row) (aim : Aim) → FoundOn (expanded_block w aim)
unfolding expanded_block
expanded_on w aim = go (is_empty w)
  where
    go : (t : Bool) → FoundOn (unless_missing t (block_of (aim.expanded w)))
    go true = tt
    go false = block_on (aim.expanded w)

narrowed_on : (rows : Rows) (aim : Aim) (f : Found) → FoundOn (narrowed_block rows aim f)
narrowed_on rows aim missing = tt
narrowed_on rows aim (found b) = expanded_on (bounds_in rows b) aim

iterated_on : (n : ℕ) (rows : Rows) (aim : Aim) (before : Row) (b : Block) (r : ℕ) → BlockWithin b whole_grid → FoundOn (iterated n rows aim before b r).block
unfolding iterated
iterated_on zero rows aim before b r on = on
iterated_on (suc n) rows aim before b r on =
    go (is_empty (bounds_in rows b)) refl (same_row (bounds_in rows b) before) refl
    (iterated_on n rows aim (bounds_in rows b) (next rows aim b) (suc r) (block_on (aim.expanded (bounds_in rows b))))
  where
    go :
        (s : Bool)
        → is_empty (bounds_in rows b) ≡ s
        → (t : Bool)
        → same_row (bounds_in rows b) before ≡ t
        → FoundOn (iterated n rows aim (bounds_in rows b) (next rows aim b) (suc r)).block
        → FoundOn (iterated (suc n) rows aim before b r).block
    go true e t h k = rw (none_is rows aim n before b r e) tt
    go false e true h k = rw (same_is rows aim n before b r e h) on
    go false e false h k = rw (onward_is rows aim n before b r e h) k

search_on : (rows : Rows) (aim : Aim) (f : Found) → FoundOn f → FoundOn (iterative_search rows aim f).block
search_on rows aim missing on = tt
search_on rows aim (found b) on = iterated_on most_rounds rows aim empty_row b 0 on

-- each cell of a choice is on the grid
pub choice_on : (method : ℕ) (rows : Rows) (aim : Aim) {c : Cell} → Memᴰ c (choice method rows aim).cells → OnGrid c
unfolding choice
choice_on zero rows aim m = found_on (naive_block rows aim) (expanded_on (phase_bounds rows) aim) m
choice_on (suc zero) rows aim m =
    found_on (narrowed_block rows aim (naive_block rows aim)) (narrowed_on rows aim (naive_block rows aim)) m
choice_on (suc (suc zero)) rows aim m =
    found_on (iterative_search rows aim (naive_block rows aim)).block
    (search_on rows aim (naive_block rows aim) (expanded_on (phase_bounds rows) aim)) m
choice_on (suc (suc (suc n))) rows aim m =
    found_on (naive_block rows aim) (expanded_on (phase_bounds rows) aim) (passing_in (is_reached rows aim) (cells_found (naive_block rows aim)) m).0

-- ---- each cell once

found_once : (f : Found) → Once (cells_found f)
found_once missing = none
found_once (found b) = cells_once b

-- no method's choice holds a cell twice
pub choice_once : (method : ℕ) (rows : Rows) (aim : Aim) → Once (choice method rows aim).cells
unfolding choice
choice_once zero rows aim = found_once (naive_block rows aim)
choice_once (suc zero) rows aim = found_once (semi_naive_block rows aim)
choice_once (suc (suc zero)) rows aim = found_once (iterative_search rows aim (naive_block rows aim)).block
choice_once (suc (suc (suc m))) rows aim = passing_once (is_reached rows aim) (found_once (naive_block rows aim))

-- ---- the same rows on the grid, the same choice

abbrev found_choice : Found → Choice
found_choice f = record { cells = cells_found f; rounds = 0 }

abbrev search_choice : Search → Choice
search_choice s = record { cells = cells_found s.block; rounds = s.rounds }

abbrev kept_choice : List Cell → Choice
kept_choice cs = record { cells = cs; rounds = 0 }

map_same : (rows rows' : Rows) (cs : List Cell) → ((c : Cell) → Memᴰ c cs → rows c ≡ rows' c) → map rows cs ≡ map rows' cs
map_same rows rows' [] h = refl
map_same rows rows' (c ∷ cs) h =
    ap₂ ◌∷◌ (h c (Memᴰ.head refl)) (map_same rows rows' cs (λ e m. h e (Memᴰ.tail m)))

module _ (rows rows' : Rows) (aim : Aim) (agree : (c : Cell) → OnGrid c → rows c ≡ rows' c) where
  bounds_same : (b : Block) → BlockWithin b whole_grid → bounds_in rows b ≡ bounds_in rows' b
  unfolding bounds_in
  bounds_same b on = ap bounds_of (map_same rows rows' (cells_of b) (λ c m. agree c (within_grid_on on m)))

  naive_same : naive_block rows aim ≡ naive_block rows' aim
  naive_same = ap (λ (w : Row). expanded_block w aim) (bounds_same whole_grid (omega arith))

  narrowed_same : (f : Found) → FoundOn f → narrowed_block rows aim f ≡ narrowed_block rows' aim f
  narrowed_same missing on = refl
  narrowed_same (found b) on = ap (λ (w : Row). expanded_block w aim) (bounds_same b on)

  iterated_same : (n : ℕ) (before : Row) (b : Block) (r : ℕ) → BlockWithin b whole_grid → iterated n rows aim before b r ≡ iterated n rows' aim before b r
  unfolding iterated
  iterated_same zero before b r on = refl
  iterated_same (suc n) before b r on =
      go (is_empty (bounds_in rows b)) refl (same_row (bounds_in rows b) before) refl
      (iterated_same n (bounds_in rows b) (next rows aim b) (suc r) (block_on (aim.expanded (bounds_in rows b))))
    where
      same : bounds_in rows b ≡ bounds_in rows' b
      same = bounds_same b on

      go :
          (s : Bool)
          → is_empty (bounds_in rows b) ≡ s
          → (t : Bool)
          → same_row (bounds_in rows b) before ≡ t
          → iterated n rows aim (bounds_in rows b) (next rows aim b) (suc r) ≡ iterated n rows' aim (bounds_in rows b) (next rows aim b) (suc r)
          → iterated (suc n) rows aim before b r ≡ iterated (suc n) rows' aim before b r
      go true e t h k = none_is rows aim n before b r e ∙ sym (none_is rows' aim n before b r (rw same at e))
      go false e true h k = same_is rows aim n before b r e h ∙ sym (same_is rows' aim n before b r (rw same at e) (rw same at h))
      go false e false h k =
          onward_is rows aim n before b r e h ∙ k
          ∙ ap (λ (w : Row). iterated n rows' aim w (block_of (aim.expanded w)) (suc r)) same
          ∙ sym (onward_is rows' aim n before b r (rw same at e) (rw same at h))

  search_same : (f : Found) → FoundOn f → iterative_search rows aim f ≡ iterative_search rows' aim f
  search_same missing on = refl
  search_same (found b) on = iterated_same most_rounds empty_row b 0 on

  reached_same : (cs : List Cell) → ((c : Cell) → Memᴰ c cs → OnGrid c) → reached rows aim cs ≡ reached rows' aim cs
  reached_same cs on =
      passing_same (is_reached rows aim) (is_reached rows' aim) cs
      (λ c m. ap (λ (w : Row). not (is_empty w) && aim.meets c w) (agree c (on c m)))

  -- rows that agree on the grid give the same choice
  pub choice_same : (method : ℕ) → choice method rows aim ≡ choice method rows' aim
  unfolding choice
  choice_same zero = ap found_choice naive_same
  choice_same (suc zero) =
      ap found_choice
      (narrowed_same (naive_block rows aim) (expanded_on (phase_bounds rows) aim) ∙ ap (narrowed_block rows' aim) naive_same)
  choice_same (suc (suc zero)) =
      ap search_choice
      (search_same (naive_block rows aim) (expanded_on (phase_bounds rows) aim) ∙ ap (iterative_search rows' aim) naive_same)
  choice_same (suc (suc (suc n))) =
      ap kept_choice
      (reached_same (cells_found (naive_block rows aim)) (λ c m. found_on (naive_block rows aim) (expanded_on (phase_bounds rows) aim) m)
      ∙ ap (λ (f : Found). reached rows' aim (cells_found f)) naive_same)
