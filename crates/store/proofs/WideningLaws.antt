-- What widening the rows of some records leaves in a row: it is joined with the bounds of the speeds of those records that lie there, in whatever
-- order they come. Then the rows widened one after the other, as the code does it.
-- Assumes nothing.
use mathlib.Core.Path.{◌≡◌, refl, sym, ap, ◌∙◌}
use mathlib.Core.Bool.{Bool, true, false, cond, ◌&&◌}
use mathlib.Core.List.{List, [], ◌∷◌, map, Memᴰ}
use mathlib.Core.Logic.{◌⊎◌, inl, inr, ◌≢◌}
use Prim.Native.Nat.{ℕ, ◌+◌, ◌-◌, ◌*◌, ◌≤◌, ◌<◌}
use native.Mathlib.Omega.{arith}
use lib.Dec.{eqb}
use lib.IntN.{ℤ}
use lib.ListN.{length, drop, length-set}
use borrow.Author.Tests.{eqb-true, eqb-false, ne_eqb}
use Rattle.ints.specs.Lists.{passing, every}
use Rattle.ints.proofs.Lists.{map-passing}
use Rattle.ints.proofs.Truth.{and_left, and_right}
use Rattle.grid.specs.Units.{cells}
use Rattle.rows.specs.Phases.{slots, slot_of}
use Rattle.rows.specs.Row.{drift_of, row_of_drift, joined, widened, valid_row, bounds_of}
use Rattle.rows.specs.Table.{table_words, row_at, with_drift, with_row}
use Rattle.rows.specs.declared.Row.{Row}
use Rattle.rows.proofs.RowLaws.{joined_comm, joined_assoc, joined_empty_right, widened_valid, DriftInRange}
use Rattle.rows.proofs.TableLaws.{row_written, row_other, length-with_row}
use Rattle.records.specs.Order.{key_in, slot_of_key, number_of_key, precedes}
use Rattle.records.specs.declared.Record.{Record}
use Rattle.records.specs.Records.{record_words, record_from, read_records, all_records}
use Rattle.records.specs.Soundness.{is_ranged, all_ranged}
use Rattle.records.proofs.OrderKeysLaws.{slot_of-key_in}
use Rattle.records.proofs.PlacesLaws.{rest_at}
use Rattle.store.specs.Inserting.{inserted}
use Rattle.store.specs.Widening.{widened_by, widened_by_all}
use Rattle.store.specs.Stepping.{placed_in, replaced}
use Rattle.store.proofs.SortingListsLaws.{no_records, all_none}

-- the row of a record's speeds alone
abbrev pub own_row : Record → Row
own_row r = row_of_drift (drift_of r.report)

-- whether a record lies in a row of the table
abbrev pub lies_at : ℕ → ℕ → Record → Bool
lies_at slot number r = eqb (slot_of_key r.key) slot && eqb (number_of_key r.key) number

-- the speeds of the records that lie there
unfoldable pub speeds_at : ℕ → ℕ → List Record → List Row
speeds_at slot number rs = map own_row (passing (lies_at slot number) rs)

speeds_first : (slot number : ℕ) (r : Record) (rs : List Record)
    → speeds_at slot number (r ∷ rs) ≡ cond (lies_at slot number r) (own_row r ∷ speeds_at slot number rs) (speeds_at slot number rs)
unfolding speeds_at
speeds_first slot number r rs = map-passing own_row (lies_at slot number) r rs

-- a key of the three slots, speeds in range
pub record Placeable (r : Record) : Type 0 where
  pub slot_on : slot_of_key r.key < slots
  pub in_range_lem : DriftInRange (drift_of r.report)

pub with_speeds_length : (table : List ℤ) (rs : List Record) → length (widened_by_all table rs) ≡ length table
unfolding widened_by_all
with_speeds_length table [] = refl
with_speeds_length table (r ∷ rs) =
    let slot = slot_of_key r.key in
    let number = number_of_key r.key in
    with_speeds_length (with_drift table slot number (drift_of r.report)) rs
    ∙ length-with_row table slot number (widened (row_at table slot number) (drift_of r.report))

-- ---- one record

module _ (table : List ℤ) (r : Record) (slot number : ℕ) (sized : length table ≡ table_words) (placeable : Placeable r) (here : number < cells) where
  after_one : List ℤ
  after_one = widened_by table r

  row_after : (b : Bool) → lies_at slot number r ≡ b → row_at after_one slot number ≡ cond b (widened (row_at table slot number) (drift_of r.report)) (row_at table slot number)
  unfolding after_one
  row_after true e =
      let s = eqb-true (slot_of_key r.key) slot (and_left _ (eqb (number_of_key r.key) number) e) in
      let n = eqb-true (number_of_key r.key) number (and_right (eqb (slot_of_key r.key) slot) _ e) in
      let new = widened (row_at table (slot_of_key r.key) (number_of_key r.key)) (drift_of r.report) in
      ap (row_at after_one slot) (sym n)
      ∙ ap (λ (x : ℕ). row_at after_one x (number_of_key r.key)) (sym s)
      ∙ row_written table (slot_of_key r.key) (number_of_key r.key) new sized placeable.slot_on (omega arith)
      ∙ (λ i. widened (row_at table (s i) (n i)) (drift_of r.report))
  row_after false e =
      row_other table (slot_of_key r.key) (number_of_key r.key) (widened (row_at table (slot_of_key r.key) (number_of_key r.key)) (drift_of r.report)) slot number (omega arith) here
      (apart (eqb (slot_of_key r.key) slot) refl e)
    where
      apart : (b : Bool) → eqb (slot_of_key r.key) slot ≡ b → b && eqb (number_of_key r.key) number ≡ false → (slot ≢ slot_of_key r.key) ⊎ (number ≢ number_of_key r.key)
      apart true f g = inr (λ same. eqb-false (number_of_key r.key) number g (sym same))
      apart false f g = inl (λ same. eqb-false (slot_of_key r.key) slot f (sym same))

  valid_after : valid_row (row_at table slot number) ≡ true → valid_row (row_at after_one slot number) ≡ true
  valid_after v = go (lies_at slot number r) refl
    where
      go : (b : Bool) → lies_at slot number r ≡ b → valid_row (row_at after_one slot number) ≡ true
      go true e =
          ap valid_row (row_after true e) ∙ (widened_valid (row_at table slot number) (drift_of r.report) v placeable.in_range_lem).0
      go false e = ap valid_row (row_after false e) ∙ v

-- ---- some records

pub row_with_speeds :
    (table : List ℤ) (rs : List Record) (slot number : ℕ)
    → length table ≡ table_words
    → ((r : Record) → Memᴰ r rs → Placeable r)
    → number < cells
    → valid_row (row_at table slot number) ≡ true
    → row_at (widened_by_all table rs) slot number ≡ joined (row_at table slot number) (bounds_of (speeds_at slot number rs))
unfolding widened_by_all speeds_at passing bounds_of after_one
row_with_speeds table [] slot number sized each h v = sym (joined_empty_right (row_at table slot number) v)
row_with_speeds table (r ∷ rs) slot number sized each h v =
    row_with_speeds (after_one table r slot number sized p h) rs slot number
    (length-with_row table (slot_of_key r.key) (number_of_key r.key) (widened (row_at table (slot_of_key r.key) (number_of_key r.key)) (drift_of r.report)) ∙ sized)
    (λ q m. each q (Memᴰ.tail m))
    h
    (valid_after table r slot number sized p h v)
    ∙ go (lies_at slot number r) refl
    ∙ ap (λ (rows : List Row). joined (row_at table slot number) (bounds_of rows)) (sym (speeds_first slot number r rs))
  where
    p : Placeable r
    p = each r (Memᴰ.head refl)

    rest : List Row
    rest = speeds_at slot number rs

    go :
        (b : Bool)
        → lies_at slot number r ≡ b
        → joined (row_at (after_one table r slot number sized p h) slot number) (bounds_of rest) ≡ joined (row_at table slot number) (bounds_of (cond b (own_row r ∷ rest) rest))
    go true e =
        ap (λ (x : Row). joined x (bounds_of rest)) (row_after table r slot number sized p h true e)
        ∙ joined_assoc (row_at table slot number) (own_row r) (bounds_of rest)
    go false e = ap (λ (x : Row). joined x (bounds_of rest)) (row_after table r slot number sized p h false e)

-- ---- the records that a clock step places anew

module _ (p : ℕ) (moving : Record → Bool) (slot number : ℕ) where
  -- the bounds of their speeds in a row
  abbrev pub new_bounds : List Record → Row
  new_bounds rs = bounds_of (speeds_at slot number (replaced p moving rs))

  -- with one record more
  abbrev pub with_one : Record → Row → Row
  with_one r row =
      cond (moving r) (cond (lies_at slot number (placed_in p r.report)) (joined (own_row r) row) row) row

  pub bounds_first : (r : Record) (rs : List Record) → new_bounds (r ∷ rs) ≡ with_one r (new_bounds rs)
  unfolding speeds_at passing bounds_of
  bounds_first r rs = go (moving r)
    where
      new : Record
      new = placed_in p r.report

      rest : List Row
      rest = speeds_at slot number (replaced p moving rs)

      inner : (b : Bool) → bounds_of (cond b (own_row new ∷ rest) rest) ≡ cond b (joined (own_row new) (bounds_of rest)) (bounds_of rest)
      inner true = refl
      inner false = refl

      anew : Bool → List Record
      anew a = map (λ x. placed_in p x.report) (cond a (r ∷ passing moving rs) (passing moving rs))

      go : (a : Bool) → bounds_of (speeds_at slot number (anew a)) ≡ cond a (cond (lies_at slot number new) (joined (own_row r) (new_bounds rs)) (new_bounds rs)) (new_bounds rs)
      go true = ap bounds_of (speeds_first slot number new (replaced p moving rs)) ∙ inner (lies_at slot number new)
      go false = refl

  with_swap : (r a : Record) (row : Row) → with_one r (with_one a row) ≡ with_one a (with_one r row)
  with_swap r a row =
      go (moving r) (moving a) (lies_at slot number (placed_in p r.report)) (lies_at slot number (placed_in p a.report))
    where
      one : Record → Bool → Bool → Row → Row
      one x moved lies to = cond moved (cond lies (joined (own_row x) to) to) to

      go : (u v m n : Bool) → one r u m (one a v n row) ≡ one a v n (one r u m row)
      go true true true true =
          sym (joined_assoc (own_row r) (own_row a) row)
          ∙ ap (λ (x : Row). joined x row) (joined_comm (own_row r) (own_row a))
          ∙ joined_assoc (own_row a) (own_row r) row
      go true true true false = refl
      go true true false n = refl
      go true false m n = refl
      go false v m n = refl

  -- wherever the record is put in
  pub bounds_inserted : (r : Record) (rs : List Record) → new_bounds (inserted r rs) ≡ with_one r (new_bounds rs)
  unfolding inserted
  bounds_inserted r [] = bounds_first r []
  bounds_inserted r (a ∷ rs) = go (precedes r a) (bounds_inserted r rs)
    where
      go : (t : Bool) → new_bounds (inserted r rs) ≡ with_one r (new_bounds rs) → new_bounds (cond t (r ∷ a ∷ rs) (a ∷ inserted r rs)) ≡ with_one r (new_bounds (a ∷ rs))
      go true k = bounds_first r (a ∷ rs)
      go false k =
          bounds_first a (inserted r rs)
          ∙ ap (with_one a) k
          ∙ with_swap a r (new_bounds rs)
          ∙ ap (with_one r) (sym (bounds_first a rs))

  -- none of them lies in another slot
  pub none_elsewhere : (rs : List Record) → slot_of p ≢ slot → speeds_at slot number (replaced p moving rs) ≡ []
  unfolding speeds_at passing
  none_elsewhere rs n = go (passing moving rs)
    where
      far : (r : Record) → eqb (slot_of_key (key_in p r.report)) slot ≡ false
      far r = ne_eqb (slot_of_key (key_in p r.report)) slot (λ e. n (sym (slot_of-key_in p r.report) ∙ e))

      go : (ms : List Record) → speeds_at slot number (map (λ r. placed_in p r.report) ms) ≡ []
      go [] = refl
      go (r ∷ ms) = speeds_first slot number (placed_in p r.report) (map (λ q. placed_in p q.report) ms) ∙ rw (far r) (go ms)

-- ---- one after the other, as the code widens them

table_length : (table : List ℤ) (r : Record) → length (widened_by table r) ≡ length table
unfolding with_row
table_length table r = simp length-set

-- after j records
pub record Widen (table₀ dead : List ℤ) (m : ℕ) (table : List ℤ) (j : ℕ) : Type 0 where
  pub table_long : length table ≡ table_words
  pub table_is : widened_by_all table₀ (read_records m dead) ≡ widened_by_all table (read_records (m - j) (drop (record_words * j) dead))
  pub ranged : all_ranged (read_records (m - j) (drop (record_words * j) dead)) ≡ true

module _ (table₀ dead : List ℤ) (m : ℕ) (table : List ℤ) (j : ℕ) (p : Widen table₀ dead m table j) (h : j < m) (r : Record) (er : r ≡ record_from dead (record_words * j)) where
  rest_here : read_records (m - j) (drop (record_words * j) dead) ≡ r ∷ read_records (m - (j + 1)) (drop (record_words * (j + 1)) dead)
  rest_here = rest_at m j dead h ∙ ap (λ (a : Record). a ∷ read_records (m - (j + 1)) (drop (record_words * (j + 1)) dead)) (sym er)

  rest_ranged : all_ranged (r ∷ read_records (m - (j + 1)) (drop (record_words * (j + 1)) dead)) ≡ true
  rest_ranged = rw rest_here at p.ranged

  pub widen_in_range : is_ranged r ≡ true
  unfolding every
  widen_in_range = and_left (is_ranged r) (all_ranged (read_records (m - (j + 1)) (drop (record_words * (j + 1)) dead))) rest_ranged

  pub widen_more : (table' : List ℤ) → table' ≡ widened_by table r → Widen table₀ dead m table' (j + 1)
  unfolding widened_by_all every
  widen_more table' et =
      let rest = read_records (m - (j + 1)) (drop (record_words * (j + 1)) dead) in
      record {
        table_long = ap length et ∙ table_length table r ∙ p.table_long;
        table_is = p.table_is ∙ ap (widened_by_all table) rest_here ∙ ap (λ (q : List ℤ). widened_by_all q rest) (sym et);
        ranged = and_right (is_ranged r) (all_ranged rest) rest_ranged;
      }

speeds_none : (table : List ℤ) → widened_by_all table [] ≡ table
unfolding widened_by_all
speeds_none table = refl

pub widen_end : (table₀ dead : List ℤ) (m : ℕ) (table : List ℤ) (j : ℕ) → Widen table₀ dead m table j → m ≤ j → table ≡ widened_by_all table₀ (read_records m dead)
widen_end table₀ dead m table j p h =
    let none : read_records (m - j) (drop (record_words * j) dead) ≡ [] = no_records (m - j) (drop (record_words * j) dead) (omega arith) in
    sym (p.table_is ∙ ap (widened_by_all table) none ∙ speeds_none table)

-- nothing to widen
pub none_widened : (table dead : List ℤ) → length dead ≡ 0 → table ≡ widened_by_all table (all_records dead)
none_widened table dead e = sym (ap (widened_by_all table) (all_none dead e) ∙ speeds_none table)
