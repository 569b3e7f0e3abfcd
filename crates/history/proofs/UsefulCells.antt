-- Useful cells on the ledger: every listed float's cell is in every method's choice, so the useful ones among the chosen cells are the cells of the
-- listed floats, whatever the method.
-- Assumes nothing.
use mathlib.Core.Path.{◌≡◌, refl, sym, ap, ◌∙◌, subst}
use mathlib.Core.Bool.{Bool, true, ◌&&◌}
use mathlib.Core.List.Memᴰ
use mathlib.Core.List.{List, [], ◌∷◌, Memᴰ}
use Prim.Native.Nat.{ℕ, ◌+◌}
use lib.Dec.{eqb}
use lib.ListN.{length}
use borrow.Author.Tests.{eqb-true, eq-eqb}
use Rattle.ints.proofs.Truth.{and_true, and_left, and_right}
use Rattle.ints.proofs.Lists.{passing, passing_in, passing_has, some_passes, passes_some}
use Rattle.ints.proofs.Marks.{bit, counted}
use Rattle.grid.specs.Units.{cells}
use Rattle.grid.specs.Curve.{cell_of_number}
use Rattle.grid.specs.Places.{same_cell}
use Rattle.grid.specs.Reports.{is_listed}
use Rattle.grid.specs.declared.Cell.{Cell}
use Rattle.grid.specs.declared.Query.{Query}
use Rattle.grid.proofs.PlacesLaws.{same_cell_lem, cell_same}
use Rattle.grid.proofs.CurveLaws.{cell_of_its_number}
use Rattle.rows.specs.Row.{drift_of, holds}
use Rattle.rows.specs.Phases.{phase_of, is_live}
use Rattle.rows.proofs.RowLaws.{holds_within, holds_one, bounds_valid, bounds_hold}
use Rattle.methods.specs.Aims.{aim_in}
use Rattle.methods.specs.Fair.{InOrder}
use Rattle.methods.specs.Claims.{ValidRows}
use Rattle.methods.proofs.Claims.{listed_is_read}
use Rattle.methods.proofs.Methods.{choice_on, choice_once}
use Rattle.methods.proofs.Marks.{one_more, cells_counted}
use Rattle.ledger.specs.Machine.{Ledger, Held, place_in, speeds_placed, rows_in, choice_in, listed_held, is_useful, useful_cells}
use Rattle.ledger.proofs.MachineLaws.{speed_placed}
use Rattle.asking.proofs.AskingPhasesLaws.{FitAsk, fit_in_order}
use Rattle.history.proofs.Relation.{Good}
use Rattle.history.proofs.PlacedRows.{speeds_valid}

-- ---- listed held reports and useful cells, by membership

abbrev pub is_listed_held : Query → Held → Bool
is_listed_held query h = is_listed query h.report

abbrev is_there : ℕ → Cell → Held → Bool
is_there p c h = eqb h.phase p && same_cell (place_in p h.report) c

pub useful-cells_are : (p : ℕ) (hs : List Held) (cs : List Cell) → useful_cells p hs cs ≡ length (passing (λ c. is_useful p c hs) cs)
unfolding useful_cells passing
useful-cells_are p hs [] = refl
useful-cells_are p hs (c ∷ cs) =
    ap (λ (more : ℕ). bit (is_useful p c hs) + more) (useful-cells_are p hs cs) ∙ one_more (λ e. is_useful p e hs) c cs

-- a cell is useful exactly where a listed float is placed in it
pub useful_from : (query : Query) (p : ℕ) (c : Cell) (hs : List Held) → is_useful p c (listed_held query hs) ≡ true
    → (h : Held) × Memᴰ h hs × (is_listed_held query h ≡ true) × (h.phase ≡ p) × (place_in p h.report ≡ c)
useful_from query p c hs u =
    let a = some_passes (is_there p c) (listed_held query hs) u in
    let h = a.0 in
    let b = passing_in (is_listed_held query) hs a.1 in
    let place = same_cell (place_in p h.report) c in
    (h, b.0, b.1, eqb-true h.phase p (and_left (eqb h.phase p) place a.2), same_cell_lem _ c (and_right (eqb h.phase p) place a.2))

pub from_useful : (query : Query) (p : ℕ) (c : Cell) (hs : List Held) {h : Held} → Memᴰ h hs → is_listed_held query h ≡ true → h.phase ≡ p → place_in p h.report ≡ c
    → is_useful p c (listed_held query hs) ≡ true
from_useful query p c hs {h} m listed e place =
    passes_some (is_there p c) (listed_held query hs) {a = h}
    (passing_has (is_listed_held query) hs m listed)
    (and_true (eqb h.phase p) (same_cell (place_in p h.report) c) (eq-eqb h.phase p e) (cell_same place))

-- ---- choices by the ledger's rows

module _ (l : Ledger) (good : Good l) (query : Query) (fit : FitAsk l.now query) where
  pub valid_here : (p : ℕ) → ValidRows (rows_in l p)
  unfolding rows_in
  valid_here p c on = bounds_valid (speeds_placed p c l.placements) (speeds_valid l.now p c l.placements good.places)

  pub in_order_here : InOrder query.rect
  in_order_here = fit_in_order l.now query fit

  -- the cell of a listed float is chosen
  held_read : (method : ℕ) {h : Held} → Memᴰ h l.held → is_listed_held query h ≡ true → Memᴰ (place_in h.phase h.report) (choice_in l method query h.phase).cells
  unfolding rows_in
  held_read method {h} m listed =
      let g = good.holds h m in
      let float = h.report in
      let placed = place_in h.phase float in
      let row : holds (rows_in l h.phase placed) (drift_of float) ≡ true =
      holds_within (bounds_hold (speeds_placed h.phase placed l.placements) (speed_placed l.placements g.placed)) (drift_of float) (holds_one (drift_of float)) in
      listed_is_read (rows_in l h.phase) (valid_here h.phase) h.phase query in_order_here float row listed method

  -- the useful ones among the chosen cells are the cells of the listed floats
  pub useful_is : (method p : ℕ) → is_live (phase_of l.now) p ≡ true
      → useful_cells p (listed_held query l.held) (choice_in l method query p).cells ≡ counted (λ n. is_useful p (cell_of_number n) (listed_held query l.held)) 0 cells
  useful_is method p live =
      let listed = listed_held query l.held in
      let aim = aim_in p query in
      useful-cells_are p listed (choice_in l method query p).cells
      ∙ sym
      (cells_counted (λ c. is_useful p c listed) (choice_once method (rows_in l p) aim) (λ c m. choice_on method (rows_in l p) aim m)
      (λ n. is_useful p (cell_of_number n) listed)
      (λ c m. ap (λ (k : Cell). is_useful p k listed) (cell_of_its_number c (choice_on method (rows_in l p) aim m)))
      (λ n h u.
      let a = useful_from query p (cell_of_number n) l.held u in
      let float = a.0.report in
      Memᴰ.cast (sym a.4) (subst (λ (k : ℕ). Memᴰ (place_in k float) (choice_in l method query k).cells) a.3 (held_read method a.1 a.2))))
