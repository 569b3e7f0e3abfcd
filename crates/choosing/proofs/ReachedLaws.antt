-- What the code of reached relies on: the places of all cells, a list that grows by those that pass, and that the cells marked are the optimal method's.
-- Assumes nothing.
use mathlib.Core.Path.{◌≡◌, refl, sym, ap, ◌∙◌, subst}
use mathlib.Core.Bool.{Bool, true, false, not, cond}
use mathlib.Core.List.Memᴰ
use mathlib.Core.List.{List, [], ◌∷◌, ◌++◌, map, append_assoc, append-nil, Memᴰ}
use mathlib.Core.Logic.{⊎_elim, dite}
use Prim.Native.Nat.{ℕ, zero, suc, ◌+◌, ◌-◌, ◌*◌, ◌/◌, ◌%◌, ◌≤◌, ◌<◌}
use native.Mathlib.Decide.{ℕ_discrete}
use native.Mathlib.Numerals.{add-one}
use native.Mathlib.Omega.{arith}
use borrow.Author.Tests.{ne_eqb}
use lib.Dec.{eqb}
use lib.ListN.{length, get_or, set, take, drop, replicate, length-set, length-replicate, get_or-replicate, drop_of_length-le}
use lib.Seq.{get_or-set_same, get_or-set_other, set-get_or, lt-length-set, ext_get_or, drop-cons, take-set-le, take-suc-set}
use mir.Val.{bool_byte}
use Rattle.ints.specs.Lists.{passing}
use Rattle.ints.proofs.Lists.{element_in, passing_in, passing_has, passing_append, map-has, map_in}
use Rattle.ints.proofs.Parts.{true_false}
use Rattle.ints.proofs.Truth.{and_true, and_left, and_right}
use Rattle.grid.specs.Units.{side, cells}
use Rattle.grid.specs.Places.{OnGrid}
use Rattle.grid.specs.Curve.{cell, curve_number}
use Rattle.grid.specs.declared.Cell.{Cell}
use Rattle.rows.specs.Row.{is_empty}
use Rattle.methods.specs.Aims.{Aim, aim_of}
use Rattle.methods.specs.Claims.{ValidRows}
use Rattle.methods.specs.Fair.{Fair}
use Rattle.methods.specs.Marks.{with_cells, marks_of}
use Rattle.methods.specs.Methods.{Rows, choice}
use Rattle.methods.specs.declared.View.{View}
use Rattle.reaching.proofs.ReachingLaws.{column_of_met}
use Rattle.methods.proofs.Claims.{optimal_reached, reached_optimal}
use Rattle.methods.proofs.Marks.{is_mark, mark_of_cell, cell_of_mark}
use Rattle.choosing.specs.Mark.{no_marks, Marked}
use Rattle.choosing.specs.Reached.{cell_at, places_from, places, has_row, nonempty, meeting, may_meet, Bits, ArePlaces, ListsNonempty, KeepsColumns}

pub byte_small : (b : Bool) → bool_byte b ≤ 1
byte_small true = omega arith
byte_small false = omega arith

-- ---- places

pub place_on : (place : ℕ) → place < cells → OnGrid (cell_at place)
place_on place h = record { column_on = omega arith; row_on = omega arith }

-- the place of a cell
abbrev place_of : Cell → ℕ
place_of c = side * c.row + c.column

pub cell_at_place : (c : Cell) → OnGrid c → cell_at (place_of c) ≡ c
cell_at_place c on =
    let x : place_of c % side ≡ c.column = omega (arith, on.column_on) in
    let y : place_of c / side ≡ c.row = omega (arith, on.column_on) in
    λ i. cell (x i) (y i)

place_within : (c : Cell) → OnGrid c → place_of c < cells
place_within c on = omega (arith, on.column_on, on.row_on)

places_have : (n place k : ℕ) → place ≤ k → k < place + n → Memᴰ k (places_from place n)
unfolding places_from
places_have zero place k h l = absurd (omega arith)
places_have (suc n) place k h l =
    dite (ℕ_discrete k place) (λ e. Memᴰ.head e) (λ e. Memᴰ.tail (places_have n (suc place) k (omega arith) (omega arith)))

places_in : (n place k : ℕ) → Memᴰ k (places_from place n) → k < place + n
unfolding places_from
places_in zero place k m = absurd (Memᴰ.not-nil m)
places_in (suc n) place k m = ⊎_elim (λ (e : k ≡ place). omega arith) (λ i. let h = places_in n (suc place) k i in omega arith) (Memᴰ.cases_cons m)

-- ---- a list that grows by the numbers that pass

module _ (f : ℕ → Bool) (all : List ℕ) where
  -- the list so far and what passes of the numbers that are left are all that pass
  pub record Growing (out : List ℕ) (m : ℕ) (rest : List ℕ) : Type 0 where
    pub room : m + length rest ≤ length out
    pub grown : take m out ++ passing f rest ≡ passing f all

  pub growing_start : (out : List ℕ) → length all ≤ length out → Growing out 0 all
  growing_start out h = record { room = omega arith; grown = refl }

  -- the list after a number that passes, or does not
  after_one : (out : List ℕ) (m n : ℕ) (rest : List ℕ) → m < length out → (b : Bool) → take (m + bool_byte b) (set out m n) ++ rest ≡ take m out ++ cond b (n ∷ rest) rest
  after_one out m n rest h true =
      ap (λ (i : ℕ). take i (set out m n) ++ rest) (add-one m)
      ∙ ap (λ (l : List ℕ). l ++ rest) (take-suc-set out m n h)
      ∙ append_assoc (take m out) (n ∷ []) rest
  after_one out m n rest h false =
      let e : m + 0 ≡ m = omega arith in
      ap (λ (i : ℕ). take i (set out m n) ++ rest) e ∙ ap (λ (l : List ℕ). l ++ rest) (take-set-le m out m n (omega arith))

  passed : (n : ℕ) (rest : List ℕ) (b : Bool) → b ≡ f n → cond b (n ∷ passing f rest) (passing f rest) ≡ passing f (n ∷ rest)
  unfolding passing
  passed n rest b e = ap (λ (t : Bool). cond t (n ∷ passing f rest) (passing f rest)) e

  pub growing_next :
      (out : List ℕ) (m n : ℕ) (rest rest' : List ℕ)
      → Growing out m rest
      → rest ≡ n ∷ rest'
      → (b : Bool)
      → b ≡ f n
      → Growing (set out m n) (m + bool_byte b) rest'
  growing_next out m n rest rest' g e b is =
      let long : length rest ≡ suc (length rest') = ap length e in
      let room = g.room in
      let small = byte_small b in
      record {
        room = omega (arith, length-set out m n);
        grown = after_one out m n (passing f rest') (omega arith) b ∙ ap (λ (x : List ℕ). take m out ++ x) (passed n rest' b is ∙ ap (passing f) (sym e)) ∙ g.grown;
      }

  pub growing_end : (out : List ℕ) (m : ℕ) (rest : List ℕ) → Growing out m rest → rest ≡ [] → (m ≤ length out) × (take m out ≡ passing f all)
  unfolding passing
  growing_end out m rest g e =
      (let room = g.room in omega arith, sym (append-nil (take m out)) ∙ ap (λ (x : List ℕ). take m out ++ passing f x) (sym e) ∙ g.grown)

-- ---- the places as the loop passes them

abbrev pub places_left : ℕ → List ℕ
places_left place = places_from place (cells - place)

pub next_place : (place : ℕ) → place < cells → places_left place ≡ place ∷ places_left (place + 1)
unfolding places_from
next_place place h =
    let e : cells - place ≡ suc (cells - (place + 1)) = omega arith in
    let n : suc place ≡ place + 1 = omega arith in
    rw (e, n)

pub no_place : (place : ℕ) → cells ≤ place → places_left place ≡ []
unfolding places_from
no_place place h = let none : cells - place ≡ 0 = omega arith in rw none

places_long : (n place : ℕ) → length (places_from place n) ≡ n
unfolding places_from
places_long zero place = refl
places_long (suc n) place = ap suc (places_long n (suc place))

pub left_long : (place : ℕ) → length (places_left place) ≡ cells - place
left_long place = places_long (cells - place) place

pub places_fit : (full : List ℕ) → length full ≡ cells → length places ≤ length full
places_fit full e = omega (arith, places_long cells 0)

pub lists_nonempty : (rows : Rows) (full : List ℕ) (k : ℕ) → (k ≤ length full) × (take k full ≡ nonempty rows places) → ListsNonempty rows full k
lists_nonempty rows full k h = record { room = h.0; places_are = h.1 }

-- ---- the numbers of a list, one by one

pub next_number : (ps : List ℕ) (i : ℕ) → i < length ps → drop i ps ≡ get_or ps i 0 ∷ drop (i + 1) ps
next_number ps i h = rw (add-one, drop-cons ps i 0)

pub no_number : (ps : List ℕ) (i : ℕ) → length ps ≤ i → drop i ps ≡ []
no_number ps i h = drop_of_length-le ps h

pub place_at : {ps : List ℕ} → ArePlaces ps → (i : ℕ) → i < length ps → get_or ps i 0 < cells
place_at {ps} are i h = are (get_or ps i 0) (element_in 0 ps i h)

pub listed_places : {rows : Rows} {full : List ℕ} {k : ℕ} → ListsNonempty rows full k → ArePlaces (take k full)
listed_places {rows} l place m =
    let there = subst (λ (xs : List ℕ). Memᴰ place xs) l.places_are m in
    let small = places_in cells 0 place (passing_in (has_row rows) places there).0 in
    omega arith

pub kept_places : {rows : Rows} {v : View} {ps kept : List ℕ} {m : ℕ} → KeepsColumns rows v ps kept m → ArePlaces ps → ArePlaces (take m kept)
kept_places {rows} {v} {ps} k are place m =
    let there = subst (λ (xs : List ℕ). Memᴰ place xs) k.kept_are m in
    are place (passing_in (may_meet rows v) ps there).0

pub keeps_columns : (rows : Rows) (v : View) (ps kept : List ℕ) (m : ℕ) → (m ≤ length kept) × (take m kept ≡ passing (may_meet rows v) ps) → KeepsColumns rows v ps kept m
keeps_columns rows v ps kept m h = record { room = h.0; kept_are = h.1 }

-- ---- marking

module _ (rows : Rows) (aim : Aim) where
  abbrev is_met : Cell → Bool
  is_met c = aim.meets c (rows c)

  pub met_one :
      (marks : List ℕ) (place n : ℕ) (met : Bool)
      → n ≡ curve_number (cell_at place)
      → met ≡ is_met (cell_at place)
      → Marked marks (meeting rows aim (place ∷ [])) (set marks n (cond met 1 (get_or marks n 0)))
  unfolding passing with_cells
  met_one marks place n met e m = record { marks_are = go met m }
    where
      go : (b : Bool) → b ≡ is_met (cell_at place) → set marks n (cond b 1 (get_or marks n 0)) ≡ with_cells marks (passing is_met (cell_at place ∷ []))
      go true h = rw (← h) (ap (λ (j : ℕ). set marks j 1) e)
      go false h = rw (← h) (set-get_or marks n 0)

  -- marking goes place by place
  pub met_more : (place : ℕ) (ps : List ℕ) → meeting rows aim (place ∷ ps) ≡ meeting rows aim (place ∷ []) ++ meeting rows aim ps
  met_more place ps = passing_append is_met (cell_at place ∷ []) (map cell_at ps)

  pub met_next : (ps : List ℕ) (i : ℕ) → i < length ps → meeting rows aim (drop i ps) ≡ meeting rows aim (get_or ps i 0 ∷ []) ++ meeting rows aim (drop (i + 1) ps)
  met_next ps i h = ap (meeting rows aim) (next_number ps i h) ∙ met_more (get_or ps i 0) (drop (i + 1) ps)

  pub met_none : (ps : List ℕ) (i : ℕ) → length ps ≤ i → meeting rows aim (drop i ps) ≡ []
  unfolding passing
  met_none ps i h = ap (meeting rows aim) (no_number ps i h)

-- a place whose column does not meet can be left out
module _ (rows : Rows) (v : View) where
  met_not : (p : ℕ) (ps : List ℕ) → may_meet rows v p ≡ false → meeting rows (aim_of v) (p ∷ ps) ≡ meeting rows (aim_of v) ps
  unfolding passing
  met_not p ps e = go (is_met rows (aim_of v) (cell_at p)) refl
    where
      go :
          (b : Bool)
          → is_met rows (aim_of v) (cell_at p) ≡ b
          → cond b (cell_at p ∷ meeting rows (aim_of v) ps) (meeting rows (aim_of v) ps) ≡ meeting rows (aim_of v) ps
      go true h = absurd (true_false (sym (column_of_met v (cell_at p) (rows (cell_at p)) h) ∙ e))
      go false h = refl

  kept_meeting : (ps : List ℕ) → meeting rows (aim_of v) (passing (may_meet rows v) ps) ≡ meeting rows (aim_of v) ps
  unfolding passing
  kept_meeting [] = refl
  kept_meeting (p ∷ ps) = go (may_meet rows v p) refl (kept_meeting ps)
    where
      go :
          (b : Bool)
          → may_meet rows v p ≡ b
          → meeting rows (aim_of v) (passing (may_meet rows v) ps) ≡ meeting rows (aim_of v) ps
          → meeting rows (aim_of v) (cond b (p ∷ passing (may_meet rows v) ps) (passing (may_meet rows v) ps)) ≡ meeting rows (aim_of v) (p ∷ ps)
      go true e ih =
          met_more rows (aim_of v) p (passing (may_meet rows v) ps)
          ∙ ap (λ (cs : List Cell). meeting rows (aim_of v) (p ∷ []) ++ cs) ih
          ∙ sym (met_more rows (aim_of v) p ps)
      go false e ih = ih ∙ sym (met_not p ps e)

  -- what is marked of the places kept of those listed is what meets of all with nonempty rows
  pub kept_marked :
      {before after full kept : List ℕ} {k m : ℕ}
      → ListsNonempty rows full k
      → KeepsColumns rows v (take k full) kept m
      → Marked before (meeting rows (aim_of v) (take m kept)) after
      → Marked before (meeting rows (aim_of v) (nonempty rows places)) after
  kept_marked {before} {after} {full} {kept} {k} l c marked =
      subst (λ (cs : List Cell). Marked before cs after)
      (ap (meeting rows (aim_of v)) c.kept_are ∙ (kept_meeting (take k full) ∙ ap (meeting rows (aim_of v)) l.places_are))
      marked

-- ---- two lists of the same cells have the same marks

with_length : (marks : List ℕ) (cs : List Cell) → length (with_cells marks cs) ≡ length marks
unfolding with_cells
with_length marks [] = refl
with_length marks (c ∷ cs) = with_length (set marks (curve_number c) 1) cs ∙ length-set marks (curve_number c) 1

bit_set : (marks : List ℕ) (m n : ℕ) → n < length marks → get_or marks n 0 ≤ 1 → get_or (set marks m 1) n 0 ≤ 1
bit_set marks m n h k =
    dite (ℕ_discrete n m)
    (λ (e : n ≡ m). let is : get_or (set marks m 1) n 0 ≡ 1 = rw (← e) (get_or-set_same marks n 1 0 h) in omega arith)
    (λ e. let is : get_or (set marks m 1) n 0 ≡ get_or marks n 0 = get_or-set_other marks m n 1 0 e in omega arith)

bit_after : (marks : List ℕ) (cs : List Cell) (n : ℕ) → n < length marks → get_or marks n 0 ≤ 1 → get_or (with_cells marks cs) n 0 ≤ 1
unfolding with_cells
bit_after marks [] n h k = k
bit_after marks (c ∷ cs) n h k =
    bit_after (set marks (curve_number c) 1) cs n (lt-length-set marks (curve_number c) 1 h) (bit_set marks (curve_number c) n h k)

pub bits_none : {marks : List ℕ} → marks ≡ no_marks → Bits marks
unfolding no_marks
bits_none e n h =
    let none = get_or-replicate {A = ℕ} cells n 0 0 (omega (arith, ap length e, length-replicate {A = ℕ} cells 0)) in
    rw e (omega (arith, none))

pub bits_kept : {marks after : List ℕ} {cs : List Cell} → Bits marks → Marked marks cs after → Bits after
bits_kept {marks} {after} {cs} b m n h =
    let l : n < length marks = omega (arith, ap length m.marks_are, with_length marks cs) in
    rw m.marks_are (bit_after marks cs n l (b n l))

marks_long : (cs : List Cell) → length (marks_of cs) ≡ cells
marks_long cs = with_length (replicate cells 0) cs ∙ length-replicate {A = ℕ} cells 0

bit_of : (cs : List Cell) (n : ℕ) → n < cells → get_or (marks_of cs) n 0 ≤ 1
bit_of cs n h =
    let none : ◌≡◌ {A = ℕ} (get_or (replicate cells 0) n 0) 0 = get_or-replicate {A = ℕ} cells n 0 0 h in
    bit_after (replicate cells 0) cs n (omega (arith, length-replicate {A = ℕ} cells 0)) (omega arith)

some : (n : ℕ) → not (eqb (suc n) 0) ≡ true
some n = ap not (ne_eqb (suc n) 0 (λ e. omega arith))

same_bit : (x y : ℕ) → x ≤ 1 → y ≤ 1 → (not (eqb x 0) ≡ true → not (eqb y 0) ≡ true) → (not (eqb y 0) ≡ true → not (eqb x 0) ≡ true) → x ≡ y
same_bit zero zero h k f g = refl
same_bit zero (suc y) h k f g = absurd (true_false (sym (g (some y))))
same_bit (suc x) zero h k f g = absurd (true_false (sym (f (some x))))
same_bit (suc x) (suc y) h k f g = omega arith

mark_kept : (cs ds : List Cell) → ((c : Cell) → Memᴰ c cs → OnGrid c) → ((c : Cell) → Memᴰ c cs → Memᴰ c ds) → (n : ℕ) → is_mark cs n ≡ true → is_mark ds n ≡ true
mark_kept cs ds on to n h =
    let k = cell_of_mark cs n h in
    ap (is_mark ds) k.2 ∙ mark_of_cell ds k.0 (on k.0 k.1) (to k.0 k.1)

same_marks :
    (cs ds : List Cell)
    → ((c : Cell) → Memᴰ c cs → OnGrid c)
    → ((c : Cell) → Memᴰ c cs → Memᴰ c ds)
    → ((c : Cell) → Memᴰ c ds → Memᴰ c cs)
    → marks_of cs ≡ marks_of ds
same_marks cs ds on to from =
    ext_get_or 0 (marks_of cs) (marks_of ds) (marks_long cs ∙ sym (marks_long ds))
    (λ n h.
    let small : n < cells = omega (arith, marks_long cs) in
    same_bit (get_or (marks_of cs) n 0) (get_or (marks_of ds) n 0) (bit_of cs n small) (bit_of ds n small)
    (mark_kept cs ds on to n)
    (mark_kept ds cs (λ c m. on c (from c m)) from n))

-- ---- what is marked is what the optimal method reads

module _ (rows : Rows) (valid : ValidRows rows) (aim : Aim) (fair : Fair aim) where
  abbrev marked : List Cell
  marked = meeting rows aim (nonempty rows places)

  abbrev chosen : List Cell
  chosen = (choice 3 rows aim).cells

  marked_chosen : {c : Cell} → Memᴰ c marked → Memᴰ c chosen
  marked_chosen {c} m =
      let a = passing_in (λ k. aim.meets k (rows k)) (map cell_at (nonempty rows places)) m in
      let b = map_in cell_at (nonempty rows places) a.0 in
      let d = passing_in (has_row rows) places b.1 in
      let on : OnGrid c = subst OnGrid (sym b.2) (place_on b.0 (places_in cells 0 b.0 d.0)) in
      let full : not (is_empty (rows c)) ≡ true = ap (λ (k : Cell). not (is_empty (rows k))) b.2 ∙ d.1 in
      reached_optimal rows valid aim fair on (and_true (not (is_empty (rows c))) (aim.meets c (rows c)) full a.1)

  chosen_marked : {c : Cell} → Memᴰ c chosen → Memᴰ c marked
  chosen_marked {c} m =
      let k = optimal_reached rows valid aim fair m in
      let on = k.0 in
      let same = cell_at_place c on in
      let full = and_left (not (is_empty (rows c))) (aim.meets c (rows c)) k.1 in
      let met = and_right (not (is_empty (rows c))) (aim.meets c (rows c)) k.1 in
      let there = places_have cells 0 (place_of c) (omega arith) (place_within c on) in
      let nonempty-there = passing_has (has_row rows) places there (ap (λ (x : Cell). not (is_empty (rows x))) same ∙ full) in
      passing_has (λ x. aim.meets x (rows x)) (map cell_at (nonempty rows places))
      (Memᴰ.cast (sym same) (map-has cell_at (nonempty rows places) nonempty-there))
      met

  pub optimal_marks : marks_of marked ≡ marks_of chosen
  optimal_marks = same_marks marked chosen (λ c m. (optimal_reached rows valid aim fair (marked_chosen m)).0) (λ c m. marked_chosen m) (λ c m. chosen_marked m)
