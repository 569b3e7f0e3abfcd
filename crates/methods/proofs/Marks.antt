-- The marks of a set of cells: a mark is set exactly where one of the cells has its number, and numbers are counted cell by cell.
-- Assumes nothing.
use mathlib.Core.Path.{◌≡◌, refl, sym, ap, ap₂, ◌∙◌}
use mathlib.Core.Bool.{Bool, true, false, not, cond}
use mathlib.Core.List.Memᴰ
use mathlib.Core.List.{List, [], ◌∷◌, map, Memᴰ}
use mathlib.Core.Logic.{⊎_elim}
use Prim.Native.Nat.{ℕ, ◌+◌, ◌<◌}
use native.Mathlib.Omega.{arith}
use lib.Dec.{eqb}
use lib.ListN.{length, get_or, set, replicate}
use Rattle.ints.proofs.Parts.{true_false}
use Rattle.ints.proofs.Truth.{and_left, false_of}
use Rattle.ints.specs.Lists.{passing}
use Rattle.ints.proofs.Lists.{map-has, map_in, passing_all}
use Rattle.ints.proofs.Marks.{marked, in_marked, marked_in, bit, counted, counted_none, counted_apart, without, without_other, without_same}
use Rattle.grid.specs.Units.{cells}
use Rattle.grid.specs.Places.{OnGrid}
use Rattle.grid.specs.Curve.{curve_number, cell_of_number}
use Rattle.grid.specs.declared.Cell.{Cell}
use Rattle.grid.proofs.CurveLaws.{number_of_its_cell, number_below, cell_of_its_number, visits_once}
use Rattle.methods.specs.Marks.{with_cells, marks_of}
use Rattle.methods.proofs.Blocks.{Once, none, one}

-- ---- marks

cells_marked : (marks : List ℕ) (cs : List Cell) → with_cells marks cs ≡ marked marks (map curve_number cs)
unfolding with_cells marked
cells_marked marks [] = refl
cells_marked marks (c ∷ cs) = cells_marked (set marks (curve_number c) 1) cs

-- whether the mark of a number is set by some cells
abbrev pub is_mark : List Cell → ℕ → Bool
is_mark cs n = not (eqb (get_or (marks_of cs) n 0) 0)

pub mark_of_cell : (cs : List Cell) (c : Cell) → OnGrid c → Memᴰ c cs → is_mark cs (curve_number c) ≡ true
mark_of_cell cs c on m =
    rw (cells_marked (replicate cells 0) cs) (in_marked cells (map curve_number cs) (curve_number c) (number_below c on) (map-has curve_number cs m))

pub cell_of_mark : (cs : List Cell) (n : ℕ) → is_mark cs n ≡ true → (c : Cell) × Memᴰ c cs × (n ≡ curve_number c)
cell_of_mark cs n h =
    map_in curve_number cs (marked_in cells (map curve_number cs) n (rw (cells_marked (replicate cells 0) cs) at h))

-- ---- counting

pub one_more : (g : Cell → Bool) (c : Cell) (cs : List Cell) → bit (g c) + length (passing g cs) ≡ length (passing g (c ∷ cs))
unfolding passing
one_more g c cs = go (g c)
  where
    go : (t : Bool) → bit t + length (passing g cs) ≡ length (cond t (c ∷ passing g cs) (passing g cs))
    go true = omega arith
    go false = omega arith

-- numbers counted by a test, and cells counted by a test that agrees with it, where the cells are each once and each number that passes is one's
pub cells_counted :
    (g : Cell → Bool) {cs : List Cell}
    → Once cs
    → ((c : Cell) → Memᴰ c cs → OnGrid c)
    → (f : ℕ → Bool)
    → ((c : Cell) → Memᴰ c cs → f (curve_number c) ≡ g c)
    → ((n : ℕ) → n < cells → f n ≡ true → Memᴰ (cell_of_number n) cs)
    → counted f 0 cells ≡ length (passing g cs)
unfolding passing
cells_counted g none on f agree all =
    counted_none f 0 cells (λ i l h. false_of (f i) (λ e. Memᴰ.not-nil (all i (omega arith) e)))
cells_counted g (one {c} {cs} new k) on f agree all =
    let head = Memᴰ.head refl in
    let here = on c head in
    let m = curve_number c in
    counted_apart f m 0 cells (omega arith) (omega (arith, number_below c here))
    ∙ ap₂ (λ (t : Bool) (more : ℕ). bit t + more) (agree c head)
    (cells_counted g k (λ e i. on e (Memᴰ.tail i)) (without f m)
    (λ e i.
    without_other f m (curve_number e) (λ p. new (Memᴰ.cast (visits_once c e here (on e (Memᴰ.tail i)) (sym p)) i))
    ∙ agree e (Memᴰ.tail i))
    (λ n h p.
    ⊎_elim
    (λ (q : cell_of_number n ≡ c).
    absurd (true_false (sym p ∙ without_same f m n (sym (number_of_its_cell n h) ∙ ap curve_number q))))
    (λ i. i)
    (Memᴰ.cases_cons (all n h (and_left (f n) (not (eqb n m)) p)))))
    ∙ one_more g c cs

-- as many marks as cells
pub marks_counted : {cs : List Cell} → Once cs → ((c : Cell) → Memᴰ c cs → OnGrid c) → counted (is_mark cs) 0 cells ≡ length cs
marks_counted {cs} once on =
    cells_counted (λ c. true) once on (is_mark cs) (λ c m. mark_of_cell cs c (on c m) m)
    (λ n h p. let r = cell_of_mark cs n p in Memᴰ.cast (ap cell_of_number r.2 ∙ cell_of_its_number r.0 (on r.0 r.1)) r.1)
    ∙ ap length (passing_all (λ c. true) cs (λ c m. refl))
