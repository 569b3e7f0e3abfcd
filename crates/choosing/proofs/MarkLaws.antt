-- What the code of mark relies on: marking goes list by list, and a loop that marks what is left of a list marks the whole list.
-- Assumes nothing.
use mathlib.Core.Path.{◌≡◌, refl, sym, ap, ◌∙◌}
use mathlib.Core.List.{List, [], ◌∷◌, ◌++◌}
use Prim.Native.Nat.{ℕ}
use lib.ListN.{length, set, length-replicate}
use Rattle.grid.specs.Units.{cells}
use Rattle.grid.specs.declared.Cell.{Cell}
use Rattle.methods.specs.Marks.{with_cells}
use Rattle.choosing.specs.Mark.{no_marks, Marked}

-- ---- no marks

pub no_marks-length : {marks : List ℕ} → marks ≡ no_marks → length marks ≡ cells
unfolding no_marks
no_marks-length e = ap length e ∙ length-replicate {A = ℕ} cells 0

-- ---- marking

pub with_append : (marks : List ℕ) (xs ys : List Cell) → with_cells marks (xs ++ ys) ≡ with_cells (with_cells marks xs) ys
unfolding with_cells
with_append marks [] ys = refl
with_append marks (x ∷ xs) ys = with_append (set marks _ 1) xs ys

pub with_none : (marks : List ℕ) → with_cells marks [] ≡ marks
unfolding with_cells
with_none marks = refl

pub marked_none : (marks : List ℕ) → Marked marks [] marks
marked_none marks = record { marks_are = sym (with_none marks) }

-- what is left of a list to mark
pub record Left (marks₀ : List ℕ) (all : List Cell) (marks : List ℕ) (rest : List Cell) : Type 0 where
  pub marks_left : with_cells marks rest ≡ with_cells marks₀ all

pub left_all : (marks : List ℕ) (all : List Cell) → Left marks all marks all
left_all marks all = record { marks_left = refl }

module _ {marks₀ : List ℕ} {all : List Cell} {marks : List ℕ} {rest : List Cell} (l : Left marks₀ all marks rest) where
  pub left_next : (xs rest' : List Cell) {after : List ℕ} → rest ≡ xs ++ rest' → Marked marks xs after → Left marks₀ all after rest'
  left_next xs rest' e m =
      record { marks_left = ap (λ (ys : List ℕ). with_cells ys rest') m.marks_are ∙ sym (with_append marks xs rest') ∙ sym (ap (with_cells marks) e) ∙ l.marks_left }

  pub left_none : rest ≡ [] → Marked marks₀ all marks
  left_none e = record { marks_are = sym (with_none marks) ∙ sym (ap (with_cells marks) e) ∙ l.marks_left }
