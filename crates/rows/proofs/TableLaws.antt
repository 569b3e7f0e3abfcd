-- The laws of the table: what a row is after another row is written, or a slot is emptied, and that the rows of the table are valid exactly
-- when the table is.
-- Assumes nothing.
use mathlib.Core.Path.{◌≡◌, refl, sym, ap, ◌∙◌, subst}
use mathlib.Core.Bool.{Bool, true, false, cond}
use mathlib.Core.List.Memᴰ
use mathlib.Core.List.{List, [], ◌∷◌, ◌++◌, Memᴰ}
use mathlib.Core.Logic.{◌⊎◌, ⊎_elim, ◌≢◌, dite}
use Prim.Native.Nat.{ℕ, zero, suc, ◌+◌, ◌*◌, ◌-◌, ◌/◌, ◌%◌, ◌≤◌, ◌<◌}
use native.Mathlib.Nat.{add-zero}
use native.Mathlib.Decide.{dec_lt, ℕ_discrete}
use native.Mathlib.Omega.{arith}
use borrow.Author.Tests.{ltb-true, lt-ltb}
use lib.Dec.{ltb}
use lib.IntN.{ℤ, pos}
use lib.ListN.{length, get_or, set, take, drop, length-set, length-append, length-take, length-drop, get_or-append}
use lib.Seq.{get_or-set_same, get_or-set_other, get_or-take, get_or-drop, get_or-append-add, length-take-le, ext_get_or, take_all}
use Rattle.ints.proofs.Truth.{and_true, and_left, and_right}
use Rattle.grid.specs.Units.{cells}
use Rattle.rows.specs.Row.{empty_row, valid_row}
use Rattle.rows.specs.Phases.{is_live, live_phases, slot_of, slots}
use Rattle.rows.specs.Table.{slot_words, table_words, row_from, row_place, row_at, with_row, empty_rows, with_slot_empty, with_later_empty, with_newly_live_empty, valid_rows, valid_table}
use Rattle.rows.specs.declared.Row.{Row}
use Rattle.rows.proofs.RowLaws.{same_numbers}
use Rattle.rows.proofs.PhasesLaws.{listed_live, live_listed, same_slot, slot_on}

-- two rows of words are the same where their four words are
rows_agree : (s table : List ℤ) (j k : ℕ) → ((m : ℕ) → m < 4 → get_or s (j + m) (pos 0) ≡ get_or table (k + m) (pos 0)) → row_from s j ≡ row_from table k
rows_agree s table j k h =
    same_numbers (simp add-zero at (h 0 (omega arith))) (h 1 (omega arith)) (h 2 (omega arith)) (h 3 (omega arith))

words_agree : (s table : List ℤ) (j k : ℕ) → row_from s j ≡ row_from table k → (m : ℕ) → m < 4 → get_or s (j + m) (pos 0) ≡ get_or table (k + m) (pos 0)
words_agree s table j k e zero h = simp add-zero (ap (λ (r : Row). r.least_vx) e)
words_agree s table j k e (suc zero) h = ap (λ (r : Row). r.greatest_vx) e
words_agree s table j k e (suc (suc zero)) h = ap (λ (r : Row). r.least_vy) e
words_agree s table j k e (suc (suc (suc zero))) h = ap (λ (r : Row). r.greatest_vy) e
words_agree s table j k e (suc (suc (suc (suc m)))) h = absurd (omega arith)

-- words of n rows are the same where their rows are
pub same_rows : (n : ℕ) (s table : List ℤ) → length s ≡ 4 * n → length table ≡ 4 * n → ((i : ℕ) → i < n → row_from s (4 * i) ≡ row_from table (4 * i)) → s ≡ table
same_rows n s table a b each =
    ext_get_or (pos 0) s table (omega arith)
    (λ i h.
    let e : 4 * (i / 4) + i % 4 ≡ i = omega arith in
    subst (λ (j : ℕ). get_or s j (pos 0) ≡ get_or table j (pos 0)) e
    (words_agree s table (4 * (i / 4)) (4 * (i / 4)) (each (i / 4) (omega arith)) (i % 4) (omega arith)))

-- ---- one row written

module _ (table : List ℤ) (k : ℕ) (r : Row) where
  abbrev put₁ : List ℤ
  put₁ = set table k r.least_vx

  abbrev put₂ : List ℤ
  put₂ = set put₁ (k + 1) r.greatest_vx

  abbrev put₃ : List ℤ
  put₃ = set put₂ (k + 2) r.least_vy

  abbrev pub put : List ℤ
  put = set put₃ (k + 3) r.greatest_vy

  kept₁ : (j : ℕ) → j ≢ k → get_or put₁ j (pos 0) ≡ get_or table j (pos 0)
  kept₁ j n = get_or-set_other table k j r.least_vx (pos 0) n

  kept₂ : (j : ℕ) → j ≢ k + 1 → get_or put₂ j (pos 0) ≡ get_or put₁ j (pos 0)
  kept₂ j n = get_or-set_other put₁ (k + 1) j r.greatest_vx (pos 0) n

  kept₃ : (j : ℕ) → j ≢ k + 2 → get_or put₃ j (pos 0) ≡ get_or put₂ j (pos 0)
  kept₃ j n = get_or-set_other put₂ (k + 2) j r.least_vy (pos 0) n

  kept₄ : (j : ℕ) → j ≢ k + 3 → get_or put j (pos 0) ≡ get_or put₃ j (pos 0)
  kept₄ j n = get_or-set_other put₃ (k + 3) j r.greatest_vy (pos 0) n

  pub put_same : k + 3 < length table → row_from put k ≡ r
  put_same h =
      same_numbers
      (kept₄ k (λ e. omega arith) ∙ kept₃ k (λ e. omega arith) ∙ kept₂ k (λ e. omega arith) ∙ get_or-set_same table k r.least_vx (pos 0) (omega arith))
      (kept₄ (k + 1) (λ e. omega arith) ∙ kept₃ (k + 1) (λ e. omega arith) ∙ get_or-set_same put₁ (k + 1) r.greatest_vx (pos 0) (simp length-set (omega arith)))
      (kept₄ (k + 2) (λ e. omega arith) ∙ get_or-set_same put₂ (k + 2) r.least_vy (pos 0) (simp length-set (omega arith)))
      (get_or-set_same put₃ (k + 3) r.greatest_vy (pos 0) (simp length-set (omega arith)))

  pub put_other : (j : ℕ) → ((m i : ℕ) → m < 4 → i < 4 → j + m ≢ k + i) → row_from put j ≡ row_from table j
  put_other j far =
      rows_agree put table j j
      (λ m h. kept₄ (j + m) (far m 3 h (omega arith)) ∙ kept₃ (j + m) (far m 2 h (omega arith)) ∙ kept₂ (j + m) (far m 1 h (omega arith)) ∙ kept₁ (j + m) (λ e. far m 0 h (omega arith) (omega arith)))

-- the row there is the one written
pub row_written : (table : List ℤ) (slot number : ℕ) (r : Row) → length table ≡ table_words → slot < slots → number < cells → row_at (with_row table slot number r) slot number ≡ r
unfolding row_at with_row
row_written table slot number r e h k = put_same table (row_place slot number) r (omega arith)

-- and every other row stays
pub row_other :
    (table : List ℤ) (slot number : ℕ) (r : Row) (slot' number' : ℕ)
    → number < cells
    → number' < cells
    → (slot' ≢ slot) ⊎ (number' ≢ number)
    → row_at (with_row table slot number r) slot' number' ≡ row_at table slot' number'
unfolding row_at with_row
row_other table slot number r slot' number' h k differ =
    put_other table (row_place slot number) r (row_place slot' number')
    (λ m i l g e. ⊎_elim (λ n. n (omega arith)) (λ n. n (omega arith)) differ)

pub length-with_row : (table : List ℤ) (slot number : ℕ) (r : Row) → length (with_row table slot number r) ≡ length table
unfolding with_row
length-with_row table slot number r = simp length-set

-- ---- a slot emptied

pub row_drop : (n : ℕ) (table : List ℤ) (k : ℕ) → row_from (drop n table) k ≡ row_from table (n + k)
row_drop n table k =
    rows_agree (drop n table) table k (n + k) (λ m h. get_or-drop n table (k + m) (pos 0) ∙ ap (λ (j : ℕ). get_or table j (pos 0)) (omega arith))

-- the row after the first four words
pub row_next : (table : List ℤ) (i : ℕ) → row_from table (4 * suc i) ≡ row_from (drop 4 table) (4 * i)
row_next table i = let e : 4 * suc i ≡ 4 + 4 * i = omega arith in ap (row_from table) e ∙ sym (row_drop 4 table (4 * i))

pub length-empty_rows : (n : ℕ) → length (empty_rows n) ≡ 4 * n
unfolding empty_rows
length-empty_rows zero = refl
length-empty_rows (suc n) = omega (arith, length-empty_rows n)

pub empty_rows_row : (n i : ℕ) → i < n → row_from (empty_rows n) (4 * i) ≡ empty_row
unfolding empty_rows
empty_rows_row zero i h = absurd (omega arith)
empty_rows_row (suc n) zero h = refl
empty_rows_row (suc n) (suc i) h = row_next (empty_rows (suc n)) i ∙ empty_rows_row n i (omega arith)

word_right : (xs ys : List ℤ) (n j : ℕ) → length xs ≡ n → get_or (xs ++ ys) (n + j) (pos 0) ≡ get_or ys j (pos 0)
word_right xs ys n j e =
    subst (λ (m : ℕ). get_or (xs ++ ys) (m + j) (pos 0) ≡ get_or ys j (pos 0)) e (get_or-append-add xs ys j (pos 0))

word_left : (xs ys : List ℤ) (n j : ℕ) → length xs ≡ n → j < n → get_or (xs ++ ys) j (pos 0) ≡ get_or xs j (pos 0)
word_left xs ys n j e h = get_or-append xs ys (pos 0) j (omega arith)

-- words with the part from a to a + length e replaced by e
module _ (table e : List ℤ) (a n : ℕ) (sized : length e ≡ n) (fits : a + n ≤ length table) where
  abbrev replaced : List ℤ
  replaced = take a table ++ (e ++ drop (a + n) table)

  length-replaced : length replaced ≡ length table
  length-replaced = simp (length-append, length-take, length-drop) (omega arith)

  replaced_in : (j : ℕ) → j < n → get_or replaced (a + j) (pos 0) ≡ get_or e j (pos 0)
  replaced_in j h =
      word_right (take a table) (e ++ drop (a + n) table) a j (length-take-le a table (omega arith)) ∙ word_left e (drop (a + n) table) n j sized h

  replaced_before : (j : ℕ) → j < a → get_or replaced j (pos 0) ≡ get_or table j (pos 0)
  replaced_before j h =
      word_left (take a table) (e ++ drop (a + n) table) a j (length-take-le a table (omega arith)) h ∙ get_or-take a table j (pos 0) h

  replaced_after : (j : ℕ) → a + n ≤ j → get_or replaced j (pos 0) ≡ get_or table j (pos 0)
  replaced_after j h =
      let i = j - (a + n) in
      let u : j ≡ a + (n + i) = omega arith in
      let v : a + n + i ≡ j = omega arith in
      ap (λ (x : ℕ). get_or replaced x (pos 0)) u
      ∙ word_right (take a table) (e ++ drop (a + n) table) a (n + i) (length-take-le a table (omega arith))
      ∙ word_right e (drop (a + n) table) n i sized
      ∙ get_or-drop (a + n) table i (pos 0)
      ∙ ap (λ (x : ℕ). get_or table x (pos 0)) v

module _ (table : List ℤ) (slot : ℕ) (sized : length table ≡ table_words) (on : slot < slots) where
  pub length_slot_empty : length (with_slot_empty table slot) ≡ length table
  unfolding with_slot_empty
  length_slot_empty = length-replaced table (empty_rows cells) (slot_words * slot) slot_words (length-empty_rows cells) (omega arith)

  -- every row of the slot is empty
  pub row_emptied : (number : ℕ) → number < cells → row_at (with_slot_empty table slot) slot number ≡ empty_row
  unfolding with_slot_empty row_at
  row_emptied number h =
      rows_agree (with_slot_empty table slot) (empty_rows cells) (row_place slot number) (4 * number)
      (λ m l.
      let e : row_place slot number + m ≡ slot_words * slot + (4 * number + m) = omega arith in
      ap (λ (j : ℕ). get_or (with_slot_empty table slot) j (pos 0)) e
      ∙ replaced_in table (empty_rows cells) (slot_words * slot) slot_words (length-empty_rows cells) (omega arith) (4 * number + m) (omega arith))
      ∙ empty_rows_row cells number h

  -- and every row of another slot stays
  pub row_kept : (slot' number : ℕ) → number < cells → slot' ≢ slot → row_at (with_slot_empty table slot) slot' number ≡ row_at table slot' number
  unfolding with_slot_empty row_at
  row_kept slot' number h n =
      rows_agree (with_slot_empty table slot) table (row_place slot' number) (row_place slot' number)
      (λ m l.
      dite (dec_lt slot' slot)
      (λ before.
      replaced_before table (empty_rows cells) (slot_words * slot) slot_words (length-empty_rows cells) (omega arith) (row_place slot' number + m) (omega arith))
      (λ after.
      let past : slot < slot' = omega arith in
      replaced_after table (empty_rows cells) (slot_words * slot) slot_words (length-empty_rows cells) (omega arith) (row_place slot' number + m) (omega arith)))

-- every row of every slot is empty once the three slots are emptied, one after another
module _ (table : List ℤ) (sized : length table ≡ table_words) where
  abbrev first : List ℤ
  first = with_slot_empty table 0

  abbrev second : List ℤ
  second = with_slot_empty first 1

  first_sized : length first ≡ table_words
  first_sized = length_slot_empty table 0 sized (omega arith) ∙ sized

  second_sized : length second ≡ table_words
  second_sized = length_slot_empty first 1 first_sized (omega arith) ∙ first_sized

  row_all_emptied : (slot number : ℕ) → slot < slots → number < cells → row_at (with_slot_empty second 2) slot number ≡ empty_row
  row_all_emptied zero number h k =
      row_kept second 2 second_sized (omega arith) 0 number k (λ e. omega arith)
      ∙ row_kept first 1 first_sized (omega arith) 0 number k (λ e. omega arith)
      ∙ row_emptied table 0 sized (omega arith) number k
  row_all_emptied (suc zero) number h k =
      row_kept second 2 second_sized (omega arith) 1 number k (λ e. omega arith) ∙ row_emptied first 1 first_sized (omega arith) number k
  row_all_emptied (suc (suc zero)) number h k = row_emptied second 2 second_sized (omega arith) number k
  row_all_emptied (suc (suc (suc slot))) number h k = absurd (omega arith)

  pub all_emptied : empty_rows (slots * cells) ≡ with_slot_empty second 2
  unfolding row_at
  all_emptied =
      same_rows (slots * cells) (empty_rows (slots * cells)) (with_slot_empty second 2) (length-empty_rows (slots * cells))
      (length_slot_empty second 2 second_sized (omega arith) ∙ second_sized)
      (λ i h.
      let place : 4 * i ≡ row_place (i / cells) (i % cells) = omega arith in
      empty_rows_row (slots * cells) i h
      ∙ sym (ap (row_from (with_slot_empty second 2)) place ∙ row_all_emptied (i / cells) (i % cells) (omega arith) (omega arith)))

-- ---- the slots of newly live phases emptied

-- the table with the slot of a phase emptied where it comes after the phase `earlier`
abbrev pub emptied_if_later : List ℤ → ℕ → ℕ → List ℤ
emptied_if_later table earlier p = cond (ltb earlier p) (with_slot_empty table (slot_of p)) table

length-step : (table : List ℤ) (earlier p : ℕ) → length table ≡ table_words → length (emptied_if_later table earlier p) ≡ table_words
length-step table earlier p e = go (ltb earlier p)
  where
    go : (later : Bool) → length (cond later (with_slot_empty table (slot_of p)) table) ≡ table_words
    go true = length_slot_empty table (slot_of p) e (slot_on p) ∙ e
    go false = e

-- a row of the slot of a later phase is empty
step_empties : (table : List ℤ) (earlier p number : ℕ) → length table ≡ table_words → number < cells → earlier < p → row_at (emptied_if_later table earlier p) (slot_of p) number ≡ empty_row
step_empties table earlier p number e h l = rw (lt-ltb earlier p l) (row_emptied table (slot_of p) e (slot_on p) number h)

-- any other stays, and an empty one stays empty in any case
step_keeps : (table : List ℤ) (earlier p slot number : ℕ) → length table ≡ table_words → number < cells
    → (slot ≡ slot_of p → p ≤ earlier) → row_at (emptied_if_later table earlier p) slot number ≡ row_at table slot number
step_keeps table earlier p slot number e h far = go (ltb earlier p) refl
  where
    go : (later : Bool) → ltb earlier p ≡ later → row_at (cond later (with_slot_empty table (slot_of p)) table) slot number ≡ row_at table slot number
    go true l =
        row_kept table (slot_of p) e (slot_on p) slot number h
        (λ same. let past = ltb-true earlier p l in let back = far same in omega arith)
    go false l = refl

step_stays : (table : List ℤ) (earlier p slot number : ℕ) → length table ≡ table_words → number < cells
    → row_at table slot number ≡ empty_row → row_at (emptied_if_later table earlier p) slot number ≡ empty_row
step_stays table earlier p slot number e h empty =
    dite (dec_lt earlier p)
    (λ l.
    dite (ℕ_discrete slot (slot_of p))
    (λ same. ap (λ (x : ℕ). row_at (emptied_if_later table earlier p) x number) same ∙ step_empties table earlier p number e h l)
    (λ other. step_keeps table earlier p slot number e h (λ same. absurd (other same)) ∙ empty))
    (λ l. step_keeps table earlier p slot number e h (λ same. omega arith) ∙ empty)

pub length_later_empty : (table : List ℤ) (earlier : ℕ) (ps : List ℕ) → length table ≡ table_words → length (with_later_empty table earlier ps) ≡ table_words
unfolding with_later_empty
length_later_empty table earlier [] e = e
length_later_empty table earlier (p ∷ ps) e =
    length_later_empty (emptied_if_later table earlier p) earlier ps (length-step table earlier p e)

later_stays :
    (table : List ℤ) (earlier : ℕ) (ps : List ℕ) (slot number : ℕ)
    → length table ≡ table_words
    → number < cells
    → row_at table slot number ≡ empty_row
    → row_at (with_later_empty table earlier ps) slot number ≡ empty_row
unfolding with_later_empty
later_stays table earlier [] slot number e h empty = empty
later_stays table earlier (p ∷ ps) slot number e h empty =
    later_stays (emptied_if_later table earlier p) earlier ps slot number (length-step table earlier p e) h
    (step_stays table earlier p slot number e h empty)

later_empties :
    (table : List ℤ) (earlier : ℕ) (ps : List ℕ) (p number : ℕ)
    → length table ≡ table_words
    → number < cells
    → Memᴰ p ps
    → earlier < p
    → row_at (with_later_empty table earlier ps) (slot_of p) number ≡ empty_row
unfolding with_later_empty
later_empties table earlier [] p number e h m l = absurd (Memᴰ.not-nil m)
later_empties table earlier (q ∷ ps) p number e h m l =
    ⊎_elim
    (λ same.
    later_stays (emptied_if_later table earlier q) earlier ps (slot_of p) number (length-step table earlier q e) h
    (subst (λ (x : ℕ). row_at (emptied_if_later table earlier x) (slot_of p) number ≡ empty_row) same (step_empties table earlier p number e h l)))
    (λ k. later_empties (emptied_if_later table earlier q) earlier ps p number (length-step table earlier q e) h k l)
    (Memᴰ.cases_cons m)

later_keeps :
    (table : List ℤ) (earlier : ℕ) (ps : List ℕ) (slot number : ℕ)
    → length table ≡ table_words
    → number < cells
    → ((p : ℕ) → Memᴰ p ps → slot ≡ slot_of p → p ≤ earlier)
    → row_at (with_later_empty table earlier ps) slot number ≡ row_at table slot number
unfolding with_later_empty
later_keeps table earlier [] slot number e h far = refl
later_keeps table earlier (p ∷ ps) slot number e h far =
    later_keeps (emptied_if_later table earlier p) earlier ps slot number (length-step table earlier p e) h (λ q m. far q (Memᴰ.tail m))
    ∙ step_keeps table earlier p slot number e h (far p (Memᴰ.head refl))

-- phase by phase: c, then c - 1 and c - 2 where not negative
abbrev pub with_first_empty : List ℤ → ℕ → ℕ → ℕ → List ℤ
with_first_empty table earlier c back = with_later_empty table earlier (take back (live_phases c))

live_few : (c : ℕ) → (length (live_phases c) ≤ slots) × (length (live_phases c) ≤ c + 1)
unfolding live_phases
live_few zero = omega arith
live_few (suc zero) = omega arith
live_few (suc (suc c)) = omega arith

module _ (table : List ℤ) (earlier : ℕ) where
  pub first_more : (c back p : ℕ) → back < slots → p + back ≡ c → emptied_if_later (with_first_empty table earlier c back) earlier p ≡ with_first_empty table earlier c (back + 1)
  unfolding with_later_empty live_phases
  first_more zero zero p h e = let is : p ≡ 0 = omega arith in rw is
  first_more (suc zero) zero p h e = let is : p ≡ 1 = omega arith in rw is
  first_more (suc (suc c)) zero p h e = let is : p ≡ suc (suc c) = omega arith in rw is
  first_more (suc zero) (suc zero) p h e = let is : p ≡ 0 = omega arith in rw is
  first_more (suc (suc c)) (suc zero) p h e = let is : p ≡ suc c = omega arith in rw is
  first_more (suc (suc c)) (suc (suc zero)) p h e = let is : p ≡ c = omega arith in rw is
  first_more zero (suc back) p h e = absurd (omega arith)
  first_more (suc zero) (suc (suc back)) p h e = absurd (omega arith)
  first_more (suc (suc c)) (suc (suc (suc back))) p h e = absurd (omega arith)

  pub first_rest : (c back : ℕ) → c < back → with_first_empty table earlier c back ≡ with_first_empty table earlier c (back + 1)
  first_rest c back h =
      let few = live_few c in
      ap (with_later_empty table earlier) (take_all back (live_phases c) (omega arith) ∙ sym (take_all (back + 1) (live_phases c) (omega arith)))

  pub first_all : (c : ℕ) → with_first_empty table earlier c slots ≡ with_newly_live_empty table earlier c
  first_all c = ap (with_later_empty table earlier) (take_all slots (live_phases c) (live_few c).0)

module _ (table : List ℤ) (earlier c : ℕ) (sized : length table ≡ table_words) where
  pub length_newly_live_empty : length (with_newly_live_empty table earlier c) ≡ table_words
  length_newly_live_empty = length_later_empty table earlier (live_phases c) sized

  -- a live phase's rows: empty if it comes after the phase `earlier`, else unchanged
  pub newly_live_emptied : (p number : ℕ) → is_live c p ≡ true → number < cells → earlier < p → row_at (with_newly_live_empty table earlier c) (slot_of p) number ≡ empty_row
  newly_live_emptied p number live h l =
      later_empties table earlier (live_phases c) p number sized h (live_listed c p live) l

  pub earlier_live_kept : (p number : ℕ) → is_live c p ≡ true → number < cells → p ≤ earlier → row_at (with_newly_live_empty table earlier c) (slot_of p) number ≡ row_at table (slot_of p) number
  earlier_live_kept p number live h l =
      later_keeps table earlier (live_phases c) (slot_of p) number sized h
      (λ q m same. let e = same_slot c p q live (listed_live c q m) same in omega arith)

-- ---- valid tables

valid_rows-at : (n : ℕ) (table : List ℤ) → valid_rows n table ≡ true → (k : ℕ) → k < n → valid_row (row_from table (4 * k)) ≡ true
unfolding valid_rows
valid_rows-at zero table v k h = absurd (omega arith)
valid_rows-at (suc n) table v zero h = and_left _ (valid_rows n (drop 4 table)) v
valid_rows-at (suc n) table v (suc k) h =
    ap valid_row (row_next table k) ∙ valid_rows-at n (drop 4 table) (and_right (valid_row (row_from table 0)) _ v) k (omega arith)

rows_at_valid : (n : ℕ) (table : List ℤ) → ((k : ℕ) → k < n → valid_row (row_from table (4 * k)) ≡ true) → valid_rows n table ≡ true
unfolding valid_rows
rows_at_valid zero table h = refl
rows_at_valid (suc n) table h =
    and_true _ _ (h 0 (omega arith))
    (rows_at_valid n (drop 4 table) (λ k l. sym (ap valid_row (row_next table k)) ∙ h (suc k) (omega arith)))

-- the table is valid exactly when each row of each slot is
pub valid_row-at : (table : List ℤ) → valid_table table ≡ true → (slot number : ℕ) → slot < slots → number < cells → valid_row (row_at table slot number) ≡ true
unfolding row_at
valid_row-at table v slot number h k =
    let e : row_place slot number ≡ 4 * (cells * slot + number) = omega arith in
    ap (λ (j : ℕ). valid_row (row_from table j)) e ∙ valid_rows-at (slots * cells) table v (cells * slot + number) (omega arith)

pub valid_of_rows : (table : List ℤ) → ((slot number : ℕ) → slot < slots → number < cells → valid_row (row_at table slot number) ≡ true) → valid_table table ≡ true
unfolding row_at
valid_of_rows table h =
    rows_at_valid (slots * cells) table
    (λ k l.
    let e : 4 * k ≡ row_place (k / cells) (k % cells) = omega arith in
    ap (λ (j : ℕ). valid_row (row_from table j)) e ∙ h (k / cells) (k % cells) (omega arith) (omega arith))
