-- What the clock step and a drop do to the held reports and the placements, and the speeds placed in a cell of a phase.
-- Assumes nothing.
use mathlib.Core.Path.{◌≡◌, refl, sym, ap, ◌∙◌}
use mathlib.Core.Bool.{Bool, true, false, cond, ◌&&◌, ◌||◌}
use mathlib.Core.List.Memᴰ
use mathlib.Core.List.{List, [], ◌∷◌, ◌++◌, map, Memᴰ}
use mathlib.Core.Logic.{⊎_elim}
use Prim.Native.Nat.{ℕ, suc, ◌≤◌}
use native.Mathlib.Omega.{arith}
use lib.Dec.{eqb}
use lib.IntN.{ℤ}
use lib.ListN.{length, length-map}
use borrow.Author.Tests.{eqb-true, eq-eqb}
use Rattle.ints.specs.Whole.{eq_z}
use Rattle.ints.specs.Lists.{passing, some}
use Rattle.ints.proofs.Parts.{true_false}
use Rattle.ints.proofs.Truth.{and_true, and_left, false_of}
use Rattle.ints.proofs.Lists.{map_in, map-has, map-append, passing_in, passing_has, passing_append, passing_none, passing_twice}
use Rattle.grid.specs.Places.{same_cell}
use Rattle.grid.specs.declared.Cell.{Cell}
use Rattle.grid.proofs.PlacesLaws.{cell_same}
use Rattle.rows.specs.Row.{row_of_drift}
use Rattle.rows.specs.Phases.{phase_of, is_live}
use Rattle.rows.specs.declared.Row.{Row}
use Rattle.ledger.specs.Machine.{Held, Placement, placement, lives_on, moves, moved_one, moved_held, new_placements, live_placements, is_held, without, speeds_placed}

-- ---- held reports after the clock step

pub same_report : (time : ℤ) (h : Held) → (moved_one time h).report ≡ h.report
same_report time h = go (lives_on time h)
  where
    go : (t : Bool) → (cond {A = Held} t h (record { report = h.report; phase = phase_of time })).report ≡ h.report
    go true = refl
    go false = refl

pub moved_length : (time : ℤ) (hs : List Held) → length (moved_held time hs) ≡ length hs
unfolding moved_held
moved_length time hs = length-map hs (moved_one time)

pub moved_held_lem : (time : ℤ) (id : ℤ) (hs : List Held) → is_held id (moved_held time hs) ≡ is_held id hs
unfolding moved_held some
moved_held_lem time id [] = refl
moved_held_lem time id (h ∷ hs) = rw (same_report time h, moved_held_lem time id hs)

-- each comes from one that was held
pub moved_from : {x : Held} (time : ℤ) (hs : List Held) → Memᴰ x (moved_held time hs) → (h : Held) × Memᴰ h hs × (x ≡ moved_one time h)
unfolding moved_held
moved_from time hs m = map_in (moved_one time) hs m

-- ---- held reports after a drop

pub without_member : {x : Held} (id : ℤ) (hs : List Held) → Memᴰ x (without id hs) → Memᴰ x hs
unfolding without
without_member id [] m = m
without_member {x} id (h ∷ hs) m = go (eq_z h.report.id id) (without_member id hs) m
  where
    go : (t : Bool) → (Memᴰ x (without id hs) → Memᴰ x hs) → Memᴰ x (cond t hs (h ∷ without id hs)) → Memᴰ x (h ∷ hs)
    go true f k = Memᴰ.tail k
    go false f k = ⊎_elim (λ e. Memᴰ.head e) (λ n. Memᴰ.tail (f n)) (Memᴰ.cases_cons k)

pub without_length : (id : ℤ) (hs : List Held) → is_held id hs ≡ true → suc (length (without id hs)) ≡ length hs
unfolding without some
without_length id [] h = absurd (true_false (sym h))
without_length id (g ∷ hs) h = go (eq_z g.report.id id) (without_length id hs) h
  where
    go : (t : Bool) → (is_held id hs ≡ true → suc (length (without id hs)) ≡ length hs) → t || is_held id hs ≡ true → suc (length (cond t hs (g ∷ without id hs))) ≡ suc (length hs)
    go true f k = refl
    go false f k = ap suc (f k)

pub without_few : (id : ℤ) (hs : List Held) → length (without id hs) ≤ length hs
unfolding without
without_few id [] = omega arith
without_few id (g ∷ hs) = go (eq_z g.report.id id) (without_few id hs)
  where
    go : (t : Bool) → length (without id hs) ≤ length hs → length (cond t hs (g ∷ without id hs)) ≤ suc (length hs)
    go true k = omega arith
    go false k = omega arith

pub without_held : (id other : ℤ) (hs : List Held) → is_held other hs ≡ false → is_held other (without id hs) ≡ false
unfolding without some
without_held id other [] n = n
without_held id other (g ∷ hs) n = go (eq_z g.report.id id) (without_held id other hs) (eq_z g.report.id other) n
  where
    rest : (t : Bool) → t || is_held other hs ≡ false → is_held other hs ≡ false
    rest true k = absurd (true_false k)
    rest false k = k

    go : (t : Bool) → (is_held other hs ≡ false → is_held other (without id hs) ≡ false) → (u : Bool) → eq_z g.report.id other || is_held other hs ≡ false
        → is_held other (cond t hs (g ∷ without id hs)) ≡ false
    go true f u k = rest (eq_z g.report.id other) k
    go false f u k = both (eq_z g.report.id other) k
      where
        both : (v : Bool) → v || is_held other hs ≡ false → v || is_held other (without id hs) ≡ false
        both true k₂ = k₂
        both false k₂ = f k₂

-- ---- placements after the clock step

pub live_from : {a : Placement} (time : ℤ) (ps : List Placement) → Memᴰ a (live_placements time ps) → Memᴰ a ps × (is_live (phase_of time) a.phase ≡ true)
unfolding live_placements
live_from time ps m = passing_in _ ps m

pub live_stays : {a : Placement} (time : ℤ) (ps : List Placement) → Memᴰ a ps → is_live (phase_of time) a.phase ≡ true → Memᴰ a (live_placements time ps)
unfolding live_placements
live_stays time ps m e = passing_has _ ps m e

pub new_from : {a : Placement} (time : ℤ) (hs : List Held) → Memᴰ a (new_placements time hs) → (h : Held) × Memᴰ h hs × (a ≡ placement (phase_of time) h.report)
unfolding new_placements
new_from time hs m =
    let from = map_in (λ h. placement (phase_of time) h.report) (passing (moves time) hs) m in
    (from.0, (passing_in (moves time) hs from.1).0, from.2)

pub new_placed : {h : Held} (time : ℤ) (hs : List Held) → Memᴰ h hs → moves time h ≡ true → Memᴰ (placement (phase_of time) h.report) (new_placements time hs)
unfolding new_placements
new_placed time hs m e =
    map-has (λ h. placement (phase_of time) h.report) (passing (moves time) hs) (passing_has (moves time) hs m e)

-- ---- the speeds placed in a cell of a phase

abbrev pub is_there : ℕ → Cell → Placement → Bool
is_there p c a = eqb a.phase p && same_cell a.cell c

abbrev pub own_row : Placement → Row
own_row a = row_of_drift a.drift

there_in : (p : ℕ) (c : Cell) (a : Placement) → is_there p c a ≡ true → a.phase ≡ p
there_in p c a h = eqb-true a.phase p (and_left (eqb a.phase p) (same_cell a.cell c) h)

pub speeds_append : (p : ℕ) (c : Cell) (xs ys : List Placement) → speeds_placed p c (xs ++ ys) ≡ speeds_placed p c xs ++ speeds_placed p c ys
unfolding speeds_placed
speeds_append p c xs ys =
    ap (map own_row) (passing_append (is_there p c) xs ys) ∙ map-append own_row (passing (is_there p c) xs) (passing (is_there p c) ys)

-- those of a phase that lives on stay
pub speeds_live : (time : ℤ) (p : ℕ) (c : Cell) (ps : List Placement) → is_live (phase_of time) p ≡ true → speeds_placed p c (live_placements time ps) ≡ speeds_placed p c ps
unfolding speeds_placed live_placements
speeds_live time p c ps live =
    ap (map own_row) (passing_twice (is_there p c) (λ a. is_live (phase_of time) a.phase) ps
    (λ a h. ap (is_live (phase_of time)) (there_in p c a h) ∙ live))

-- a phase in which nothing is placed has none
pub no_speeds : (p : ℕ) (c : Cell) (ps : List Placement) → ((a : Placement) → Memᴰ a ps → a.phase ≡ p → ⊥) → speeds_placed p c ps ≡ []
unfolding speeds_placed
no_speeds p c ps none =
    ap (map own_row) (passing_none (is_there p c) ps (λ a m. false_of (is_there p c a) (λ h. none a m (there_in p c a h))))

-- each is the row of a placement's speeds
pub speed_from : {r : Row} (p : ℕ) (c : Cell) (ps : List Placement) → Memᴰ r (speeds_placed p c ps) → (a : Placement) × Memᴰ a ps × (r ≡ own_row a)
unfolding speeds_placed
speed_from p c ps m =
    let from = map_in own_row (passing (is_there p c) ps) m in
    (from.0, (passing_in (is_there p c) ps from.1).0, from.2)

-- and the speeds of a placement there are among them
pub speed_placed : {a : Placement} (ps : List Placement) → Memᴰ a ps → Memᴰ (own_row a) (speeds_placed a.phase a.cell ps)
unfolding speeds_placed
speed_placed {a} ps m =
    map-has own_row (passing (is_there a.phase a.cell) ps) (passing_has (is_there a.phase a.cell) ps m
    (and_true _ _ (eq-eqb a.phase a.phase refl) (cell_same {a = a.cell} refl)))
