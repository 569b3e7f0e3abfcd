-- What the code of choose relies on: what one round comes to, and which cells each method chooses where the naive block is found or is not.
-- Assumes nothing.
use mathlib.Core.Path.{◌≡◌, refl, sym, ap, ◌∙◌, subst}
use mathlib.Core.Bool.{Bool, true, false}
use mathlib.Core.List.{List, map}
use Prim.Native.Nat.{ℕ, zero, suc, ◌+◌, ◌-◌, ◌≤◌, ◌<◌}
use native.Mathlib.Numerals.{add-one}
use native.Mathlib.Omega.{arith}
use lib.IntN.{ℤ}
use Rattle.ints.specs.Lists.{passing}
use Rattle.grid.specs.declared.Rect.{Rect}
use Rattle.grid.proofs.PlacesLaws.{column_on}
use Rattle.rows.specs.Row.{empty_row, is_empty, same_row, valid_row}
use Rattle.rows.specs.declared.Row.{Row}
use Rattle.rows.proofs.RowLaws.{bounds_valid}
use Rattle.methods.specs.Reach.{block_of, cells_of}
use Rattle.methods.specs.Aims.{Aim}
use Rattle.methods.specs.Fair.{Fair}
use Rattle.methods.specs.Methods.{Rows, Found, missing, found, cells_found, unless_missing, bounds_in, expanded_block, naive_block, semi_naive_block}
use Rattle.methods.specs.Methods.{Search, iterated, iterative_search, most_rounds, Choice, choice}
use Rattle.methods.specs.Slots.{rows_of_slot}
use Rattle.methods.specs.Marks.{marks_of, with_cells}
use Rattle.choosing.specs.Bounds.{IsSlot, BlockOnGrid}
use Rattle.choosing.specs.Slot.{rows_in}
use Rattle.choosing.specs.declared.slot.SlotRows.{SlotRows}
use Rattle.choosing.proofs.BoundsLaws.{slot_valid}
use Rattle.methods.specs.Claims.{ValidRows}
use Rattle.choosing.specs.Choose.{ChosenBy, found_of, FoundIs, SearchIs}
use Rattle.std.specs.Prelude.{Option, None, Some, min}
use Rattle.choosing.specs.Mark.{no_marks, Marked}
use Rattle.choosing.specs.Reached.{places, nonempty, meeting}
use Rattle.methods.specs.declared.Block.{Block}
use Rattle.methods.proofs.Nesting.{all_valid}
use Rattle.choosing.proofs.ReachedLaws.{optimal_marks}
use Rattle.methods.proofs.Rounds.{none_is, same_is, onward_is}

pub block_on_grid : (r : Rect) → BlockOnGrid (block_of r)
unfolding block_of
block_on_grid r = record { columns_on = column_on r.x.high; rows_on = column_on r.y.high }

-- ---- one round: the bounds w are those of the block b

module _ (rows : Rows) (aim : Aim) (naive : Block) where
  abbrev whole : Search
  whole = iterated most_rounds rows aim empty_row naive 0

  -- the search goes on from a block found by the bounds `before`, after r rounds
  abbrev pub Onward : Row → Block → ℕ → Type 0
  Onward before b r = iterated (most_rounds - r) rows aim before b r ≡ whole

  module _ (before : Row) (b : Block) (r : ℕ) (on : BlockOnGrid b) (o : Onward before b r) where
    at_most : most_rounds ≤ r → whole ≡ record { block = found b; rounds = r }
    unfolding iterated
    at_most h = let e : most_rounds - r ≡ 0 = omega arith in sym o ∙ rw e

    one_less : r < most_rounds → most_rounds - r ≡ suc (most_rounds - (r + 1))
    one_less h = omega arith

    pub search_out_of_rounds : most_rounds ≤ r → SearchIs (record { found = Some b; rounds = r }) whole
    search_out_of_rounds h =
        rw (at_most h) (record { block_is = record { found_is = refl; block_on = on }; rounds_are = refl })

    module _ (few : r < most_rounds) (w : Row) (e : w ≡ bounds_in rows b) where
      one_round : whole ≡ iterated (suc (most_rounds - (r + 1))) rows aim before b r
      one_round = sym o ∙ ap (λ (n : ℕ). iterated n rows aim before b r) (one_less few)

      emptiness : {t : Bool} → is_empty w ≡ t → is_empty (bounds_in rows b) ≡ t
      emptiness h = sym (ap is_empty e) ∙ h

      sameness : {t : Bool} → same_row w before ≡ t → same_row (bounds_in rows b) before ≡ t
      sameness h = sym (ap (λ (x : Row). same_row x before) e) ∙ h

      pub search_missing : is_empty w ≡ true → SearchIs (record { found = None; rounds = r + 1 }) whole
      search_missing t =
          let p = one_round ∙ none_is rows aim (most_rounds - (r + 1)) before b r (emptiness t) in
          rw p (record { block_is = record { found_is = refl; block_on = tt }; rounds_are = add-one r })

      pub search_same : is_empty w ≡ false → same_row w before ≡ true → SearchIs (record { found = Some b; rounds = r }) whole
      search_same t s =
          let p = one_round ∙ same_is rows aim (most_rounds - (r + 1)) before b r (emptiness t) (sameness s) in
          rw p (record { block_is = record { found_is = refl; block_on = on }; rounds_are = refl })

      pub search_onward : is_empty w ≡ false → same_row w before ≡ false → Onward w (block_of (aim.expanded w)) (r + 1)
      search_onward t s =
          let p = one_round ∙ onward_is rows aim (most_rounds - (r + 1)) before b r (emptiness t) (sameness s) in
          let n : suc r ≡ r + 1 = sym (add-one r) in
          rw e (rw n at (sym p))

-- ---- bounds and blocks

-- bounds that a call gave back are valid
pub call_valid : (rows : Rows) → ValidRows rows → (w : Row) (b : Block) → w ≡ bounds_in rows b → BlockOnGrid b → valid_row w ≡ true
unfolding bounds_in
call_valid rows v w b e on = ap valid_row e ∙ bounds_valid (map rows (cells_of b)) (all_valid rows v {b = b} (omega arith))

-- the block of an expanded rectangle, or none
module _ (w : Row) (aim : Aim) where
  pub expanded_none : is_empty w ≡ true → FoundIs None (expanded_block w aim)
  unfolding expanded_block
  expanded_none e = record { found_is = ap (λ (t : Bool). unless_missing t (block_of (aim.expanded w))) (sym e); block_on = tt }

  pub expanded_some : {b : Block} → is_empty w ≡ false → b ≡ block_of (aim.expanded w) → FoundIs (Some b) (expanded_block w aim)
  unfolding expanded_block
  expanded_some {b} e p =
      record { found_is = ap found p ∙ ap (λ (t : Bool). unless_missing t (block_of (aim.expanded w))) (sym e); block_on = subst BlockOnGrid (sym p) (block_on_grid (aim.expanded w)) }

-- ---- what each method chooses, where no mark is set before

-- the rows of a slot that a struct holds are valid
pub valid_in : (s : SlotRows) {table : List ℤ} {slot : ℕ} → s.table.now ≡ table → s.slot ≡ slot → IsSlot table slot → ValidRows (rows_in s)
valid_in s p q i = let here : IsSlot s.table.now s.slot = rw (p, q) i in slot_valid here

pub marked_by : {before after : List ℕ} {r : Option Block} {f : Found} → FoundIs r f → Marked before (cells_found (found_of r)) after → Marked before (cells_found f) after
marked_by {before} {after} p k = subst (λ (g : Found). Marked before (cells_found g) after) p.found_is k

module _ {table : List ℤ} {slot : ℕ} {aim : Aim} {before : List ℕ} (clear : before ≡ no_marks) {marks : List ℕ} where
  pub naive_chosen : Marked before (cells_found (naive_block (rows_of_slot table slot) aim)) marks → ChosenBy 0 table slot aim marks 0
  unfolding choice no_marks
  naive_chosen m = record { marks_are = rw clear at m.marks_are; rounds_are = refl }

  pub semi_naive_chosen : Marked before (cells_found (semi_naive_block (rows_of_slot table slot) aim)) marks → ChosenBy 1 table slot aim marks 0
  unfolding choice no_marks
  semi_naive_chosen m = record { marks_are = rw clear at m.marks_are; rounds_are = refl }

  pub iterative_chosen :
      {rounds : ℕ}
      → Marked before (cells_found (iterative_search (rows_of_slot table slot) aim (naive_block (rows_of_slot table slot) aim)).block) marks
      → rounds ≡ (iterative_search (rows_of_slot table slot) aim (naive_block (rows_of_slot table slot) aim)).rounds
      → ChosenBy 2 table slot aim marks rounds
  unfolding choice no_marks
  iterative_chosen m r = record { marks_are = rw clear at m.marks_are; rounds_are = r }

  -- the cells that are reached, of all cells of the grid, by every number from 3 on
  pub optimal_chosen :
      {method : ℕ}
      → 3 ≤ method
      → ValidRows (rows_of_slot table slot)
      → Fair aim
      → Marked before (meeting (rows_of_slot table slot) aim (nonempty (rows_of_slot table slot) places)) marks
      → ChosenBy method table slot aim marks 0
  unfolding choice no_marks
  optimal_chosen {method} h valid fair m =
      let n : method ≡ suc (suc (suc (method - 3))) = omega arith in
      rw n (record { marks_are = rw clear at m.marks_are ∙ optimal_marks (rows_of_slot table slot) valid aim fair; rounds_are = refl })

-- where bounds are missing, no method chooses a cell
pub none_chosen : (method : ℕ) (table : List ℤ) (slot : ℕ) (aim : Aim) {marks : List ℕ} → naive_block (rows_of_slot table slot) aim ≡ missing → marks ≡ no_marks
    → ChosenBy method table slot aim marks 0
unfolding choice with_cells passing no_marks
none_chosen zero table slot aim naive e = record { marks_are = rw naive e; rounds_are = refl }
none_chosen (suc zero) table slot aim naive e = record { marks_are = rw naive e; rounds_are = refl }
none_chosen (suc (suc zero)) table slot aim naive e = record { marks_are = rw naive e; rounds_are = rw naive }
none_chosen (suc (suc (suc n))) table slot aim naive e = record { marks_are = rw naive e; rounds_are = refl }

-- ---- the method of a number

-- it chooses what the number does, whatever the number
pub method_chooses : (n : ℕ) (rows : Rows) (aim : Aim) → choice (min n 3) rows aim ≡ choice n rows aim
unfolding choice
method_chooses zero rows aim = refl
method_chooses (suc zero) rows aim = refl
method_chooses (suc (suc zero)) rows aim = refl
method_chooses (suc (suc (suc n))) rows aim = let e : min (suc (suc (suc n))) 3 ≡ 3 = omega arith in rw e refl

pub chosen_by_number :
    {n k : ℕ} {table : List ℤ} {slot : ℕ} {aim : Aim} {marks : List ℕ} {rounds : ℕ}
    → k ≡ min n 3
    → ChosenBy k table slot aim marks rounds
    → ChosenBy n table slot aim marks rounds
chosen_by_number {n} {k} {table} {slot} {aim} e h =
    let rows = rows_of_slot table slot in
    let same : choice k rows aim ≡ choice n rows aim = ap (λ (m : ℕ). choice m rows aim) e ∙ method_chooses n rows aim in
    record { marks_are = h.marks_are ∙ ap (λ (c : Choice). marks_of c.cells) same; rounds_are = h.rounds_are ∙ ap (λ (c : Choice). c.rounds) same }
