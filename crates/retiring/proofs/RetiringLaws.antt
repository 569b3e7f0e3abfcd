-- The laws of records that stay: how many there are and whether an id is among them, found in one walk; and what holds of those that stay of a sorted list.
-- Which test says who stays makes no difference (document 02, A12, changes the test alone).
-- Assumes nothing.
use mathlib.Core.Path.{◌≡◌, refl, sym, ap, ◌∙◌}
use mathlib.Core.Bool.{Bool, true, false, cond, not, ◌||◌}
use mathlib.Core.List.{List, [], ◌∷◌}
use Prim.Native.Nat.{ℕ, suc, ◌+◌, ◌*◌, ◌≤◌, ◌<◌}
use native.Mathlib.Omega.{arith}
use lib.IntN.{ℤ, pos, ◌+ℤ◌}
use lib.Signed.{le_z, lt_z}
use lib.ListN.{length, get_or, drop}
use lib.Seq.{drop-length}
use mir.Syntax.{w32, w64}
use mir.Val.{bool_byte, SFits}
use Rattle.ints.proofs.Parts.{signed, add}
use Rattle.ints.proofs.Machine.{fits, of_fits}
use Rattle.ints.specs.Whole.{eq_z}
use Rattle.ints.specs.Lists.{passing, some, every}
use Rattle.ints.proofs.Same.{same_is}
use Rattle.ints.proofs.Lists.{passing_in, passing_few, passing_some, every_each, each_every}
use Rattle.grid.specs.declared.Report.{Report}
use Rattle.records.specs.Records.{record_words, record_from, held_of, records_of}
use Rattle.records.specs.Order.{has_id}
use Rattle.records.specs.declared.Record.{Record}
use Rattle.records.specs.Soundness.{ids_distinct}
use Rattle.records.specs.Places.{first_of}
use Rattle.records.proofs.RecordsLaws.{held_records}
use Rattle.records.proofs.OrderLaws.{first_alone, rest_distinct}
use Rattle.records.proofs.PlacesLaws.{drop-record}
use Rattle.store.specs.Finding.{index_of}
use Rattle.store.proofs.FindingLaws.{first_same}
use Rattle.retiring.specs.Retiring.{kept}

-- ---- whether a float stays, in 64 bits

-- below is not at most the other way round
pub below : (a b : ℤ) → lt_z a b ≡ not (le_z b a)
below a b = go (le_z b a) refl
  where
    go : (t : Bool) → le_z b a ≡ t → lt_z a b ≡ not t
    go true e = omega (arith, signed)
    go false e = omega (arith, signed)

pub silent_from : (t : ℤ) → SFits w32 t → SFits w64 (t +ℤ pos 2592000)
silent_from t f = let g = of_fits w32 t f in fits (omega (arith, add t (pos 2592000)))

-- ---- a truth value counted

pub byte_is : (b : Bool) → bool_byte b ≡ cond b 1 0
byte_is true = refl
byte_is false = refl

-- ---- those that stay

module _ (stays : Report → Bool) where
  -- what all have those have that stay
  pub kept_every : (test : Record → Bool) (rs : List Record) → every test rs ≡ true → every test (kept stays rs) ≡ true
  kept_every test rs h = each_every test (kept stays rs) (λ x m. every_each test rs h (passing_in (λ r. stays r.report) rs m).0)

  -- nobody goes where as many stay as there are
  pub none_goes : (rs : List Record) → length (kept stays rs) ≡ length rs → kept stays rs ≡ rs
  unfolding passing
  none_goes [] e = refl
  none_goes (a ∷ rs) e = go (stays a.report) (none_goes rs) e
    where
      ks : List Record
      ks = kept stays rs

      go : (t : Bool) → (length ks ≡ length rs → ks ≡ rs) → length (cond t (a ∷ ks) ks) ≡ suc (length rs) → cond t (a ∷ ks) ks ≡ a ∷ rs
      go true f k = ap (λ (l : List Record). a ∷ l) (f (omega arith))
      go false f k = absurd (omega (arith, passing_few (λ r. stays r.report) rs))

-- ---- one walk over the records of a store

-- the time of a record's report, where it stands among the words
pub time_word : (s : List ℤ) (i : ℕ) → (record_from s (record_words * i + record_words)).report.t ≡ get_or s (record_words * i + 9) (pos 0)
time_word s i = ap (λ (j : ℕ). get_or s j (pos 0)) (omega arith)

-- the records left at record i, and none when all were seen
module _ (s : List ℤ) (n i : ℕ) (e : n ≡ held_of s) where
  abbrev at : Record
  at = record_from s (record_words * i + record_words)

  one_less : i < n → drop i (records_of s) ≡ at ∷ drop (i + 1) (records_of s)
  one_less h = drop-record s i (omega arith)

  none_left : i ≡ n → drop i (records_of s) ≡ []
  none_left h = ap (λ (j : ℕ). drop j (records_of s)) (h ∙ e ∙ sym (held_records s)) ∙ drop-length (records_of s)

-- how many stay: `left` among the first i records, and those from there on
pub record Counting (stays : Report → Bool) (s : List ℤ) (n i left : ℕ) : Type 0 where
  pub held : n ≡ held_of s
  pub inside : i ≤ n
  pub fewer : left ≤ i
  pub total : left + length (kept stays (drop i (records_of s))) ≡ length (kept stays (records_of s))

pub counting_start : (stays : Report → Bool) (s : List ℤ) (n : ℕ) → n ≡ held_of s → Counting stays s n 0 0
counting_start stays s n e = record { held = e; inside = omega arith; fewer = omega arith; total = omega arith }

module _ (stays : Report → Bool) (s : List ℤ) (n i left : ℕ) (c : Counting stays s n i left) where
  pub counting_next : i < n → Counting stays s n (i + 1) (left + cond (stays (at s n i c.held).report) 1 0)
  unfolding passing
  counting_next h = go (stays r.report) (rw (one_less s n i c.held h) at c.total)
    where
      r : Record
      r = at s n i c.held

      rest : List Record
      rest = kept stays (drop (i + 1) (records_of s))

      go : (t : Bool) → left + length (cond t (r ∷ rest) rest) ≡ length (kept stays (records_of s)) → Counting stays s n (i + 1) (left + cond t 1 0)
      go true k = let f = c.fewer in record { held = c.held; inside = omega arith; fewer = omega arith; total = omega arith }
      go false k = let f = c.fewer in record { held = c.held; inside = omega arith; fewer = omega arith; total = omega arith }

  pub counting_end : n ≤ i → left ≡ length (kept stays (records_of s))
  unfolding passing
  counting_end h =
      let same : i ≡ n = omega (arith, c.inside) in
      let k : left + 0 ≡ length (kept stays (records_of s)) = rw (none_left s n i c.held same) at c.total in
      omega arith

-- ---- whether an id is among those that stay, by the one record that has it

module _ (stays : Report → Bool) (id : ℤ) where
  abbrev is : Record → Bool
  is r = eq_z r.report.id id

  -- where the walk for it ends behind the last record, none has it
  none_found : (rs : List Record) → length rs ≤ index_of id rs → has_id id rs ≡ false
  unfolding some first_of
  none_found [] h = refl
  none_found (a ∷ rs) h = go (is a) (none_found rs) h
    where
      go : (t : Bool) → (length rs ≤ index_of id rs → has_id id rs ≡ false) → suc (length rs) ≤ cond t 0 (suc (index_of id rs)) → t || has_id id rs ≡ false
      go true f k = absurd (omega arith)
      go false f k = f (omega arith)

  pub none_has : (rs : List Record) → length rs ≤ index_of id rs → false ≡ has_id id (kept stays rs)
  none_has rs h = sym (passing_some is (λ r. stays r.report) rs (none_found rs h))

  -- the first that has it is the only one
  pub one_has : (r : Record) (rs more : List Record) → drop (index_of id rs) rs ≡ r ∷ more → ids_distinct rs ≡ true → stays r.report ≡ has_id id (kept stays rs)
  unfolding passing some first_of
  one_has r [] more d o = let k = ap length d in absurd (omega arith)
  one_has r (a ∷ rs) more d o = go (is a) refl d (λ e. one_has r rs more e (rest_distinct a rs o))
    where
      ks : List Record
      ks = kept stays rs

      here : (t : Bool) → is a ≡ true → t ≡ has_id id (cond t (a ∷ ks) ks)
      here true e = rw e
      here false e = sym (passing_some is (λ x. stays x.report) rs (ap (λ (z : ℤ). has_id z rs) (sym (same_is a.report.id id e)) ∙ first_alone a rs o))

      later : (t : Bool) → is a ≡ false → has_id id ks ≡ has_id id (cond t (a ∷ ks) ks)
      later true e = rw e
      later false e = refl

      go : (t : Bool) → is a ≡ t → drop (cond t 0 (suc (index_of id rs))) (a ∷ rs) ≡ r ∷ more → (drop (index_of id rs) rs ≡ r ∷ more → stays r.report ≡ has_id id ks)
          → stays r.report ≡ has_id id (cond (stays a.report) (a ∷ ks) ks)
      go true e q f = ap (λ (x : Record). stays x.report) (sym (first_same a r rs more q)) ∙ here (stays a.report) e
      go false e q f = f q ∙ later (stays a.report) e
