-- An input: how long a line is, the ranges of a fleet, and that a fleet is said by its line alone. Of the bytes, 10 is the newline.
-- Assumes nothing.
use mathlib.Core.Path.{◌≡◌, refl, sym, ap, ap₂, ◌∙◌, subst}
use mathlib.Core.Bool.{Bool, true, false, cond, ◌&&◌, ◌||◌}
use mathlib.Core.List.{List, [], ◌∷◌, ◌++◌, append-nil}
use mathlib.Core.Logic.{◌⊎◌, inl, inr}
use Prim.Native.Nat.{ℕ, zero, suc, ◌+◌, ◌*◌, ◌^◌, ◌<◌, ◌≤◌}
use Prim.Native.Char.{code}
use native.Mathlib.Omega.{arith}
use borrow.Author.Tests.{leb-true, eqb-true, ltb-true}
use lib.Dec.{eqb, leb, ltb, lit<}
use lib.ListN.{length, get_or, take, drop, length-append}
use lib.Seq.{take-add, take_all, take-suc, drop-drop, get_or-append-add}
use Rattle.std.specs.Prelude.{Option, Some, None}
use Rattle.ints.proofs.Truth.{and_left, and_right}
use Rattle.grid.specs.Units.{capacity}
use Rattle.fields.specs.Fields.{width}
use Rattle.fields.specs.Numbers.{in_columns}
use Rattle.fields.specs.Reading.{unsigned_at}
use Rattle.fields.proofs.FieldsLaws.{written_unsigned, read_unsigned_is}
use Rattle.fields.proofs.NumbersLaws.{length-all-unsigned, part_of-columns}
use Rattle.generator.specs.Generator.{states}
use Rattle.fleets.specs.Inputs.{line_columns, is_line, is_fleet, fleet_of, three_say, numbers_say, read_fleet, input_line}
use Rattle.fleets.specs.declared.Fleet.{Fleet}

pub line_long : (input : List ℕ) → is_line input ≡ true → line_columns ≤ length input
unfolding is_line
line_long input h = go (eqb (length input) line_columns) refl h
  where
    go : (t : Bool) → eqb (length input) line_columns ≡ t → (t || (eqb (length input) (line_columns + 1) && eqb (get_or input line_columns 0) (code "\n"))) ≡ true → line_columns ≤ length input
    go true e g = omega (arith, eqb-true (length input) line_columns e)
    go false e g = omega (arith, eqb-true (length input) (line_columns + 1) (and_left (eqb (length input) (line_columns + 1)) (eqb (get_or input line_columns 0) (code "\n")) g))

pub record Ranges (f : Fleet) : Type 0 where
  pub start_of : f.start < states
  pub some : 1 ≤ f.floats
  pub most : f.floats ≤ capacity
  pub skipped : f.skip ≤ f.floats

pub ranges : (f : Fleet) → is_fleet f ≡ true → Ranges f
unfolding is_fleet
ranges f h =
    let start = ltb f.start states in
    let some = leb 1 f.floats in
    let most = leb f.floats capacity in
    let skip = leb f.skip f.floats in
    let front = and_left (start && (some && most)) skip h in
    let both = and_right start (some && most) front in
    record {
      start_of = ltb-true f.start states (and_left start (some && most) front);
      some = leb-true 1 f.floats (and_left some most both);
      most = leb-true f.floats capacity (and_right some most both);
      skipped = leb-true f.skip f.floats (and_right (start && (some && most)) skip h);
    }

-- ---- what is read as a fleet

-- past a test that leads to no fleet
passed : (t : Bool) (x : Option Fleet) (f : Fleet) → cond t x None ≡ Some f → (t ≡ true) × (x ≡ Some f)
passed true x f e = (refl, e)
passed false x f e = cc

-- its three numbers
record Three (start floats skip : Option ℕ) (f : Fleet) : Type 0 where
  start_is : start ≡ Some f.start
  floats_are : floats ≡ Some f.floats
  skip_is : skip ≡ Some f.skip
  in_range_lem : is_fleet f ≡ true

said_by_three : (start floats skip : Option ℕ) (f : Fleet) → three_say start floats skip ≡ Some f → Three start floats skip f
unfolding three_say fleet_of
said_by_three (Some start) (Some floats) (Some skip) f e =
    let fleet : Fleet = record { start = start; floats = floats; skip = skip } in
    let range = passed (is_fleet fleet) (Some fleet) f e in
    let same : fleet ≡ f = some_same range.1 in
    subst (Three (Some start) (Some floats) (Some skip)) same (record { start_is = refl; floats_are = refl; skip_is = refl; in_range_lem = range.0 })
  where
    some_same : {a b : Fleet} → Some a ≡ Some b → a ≡ b
    some_same h = cc
said_by_three (Some start) (Some floats) None f e = cc
said_by_three (Some start) None skip f e = cc
said_by_three None floats skip f e = cc

pub record ReadAs (input : List ℕ) (f : Fleet) : Type 0 where
  pub is_line_lem : is_line input ≡ true
  pub start_at : unsigned_at input 0 ≡ Some f.start
  pub floats_at : unsigned_at input width ≡ Some f.floats
  pub skip_at : unsigned_at input (2 * width) ≡ Some f.skip
  pub in_range_lem : is_fleet f ≡ true

pub read_as : (input : List ℕ) (f : Fleet) → read_fleet input ≡ Some f → ReadAs input f
unfolding read_fleet numbers_say
read_as input f e =
    let line = passed (is_line input) (numbers_say input) f e in
    let three = said_by_three (unsigned_at input 0) (unsigned_at input width) (unsigned_at input (2 * width)) f line.1 in
    record {
      is_line_lem = line.0;
      start_at = three.start_is;
      floats_at = three.floats_are;
      skip_at = three.skip_is;
      in_range_lem = three.in_range_lem;
    }

-- the columns of its numbers
columns_are : (input : List ℕ) (f : Fleet) → line_columns ≤ length input → ReadAs input f → take line_columns input ≡ input_line f
unfolding in_columns
columns_are input f long r =
    take-add 10 20 input
    ∙ ap₂ ◌++◌ (read_unsigned_is input 0 f.start (omega arith) r.start_at)
    (take-add 10 10 (drop 10 input)
    ∙ ap₂ ◌++◌ (read_unsigned_is input 10 f.floats (omega arith) r.floats_at)
    (ap (take 10) (drop-drop 10 10 input) ∙ read_unsigned_is input 20 f.skip (omega arith) r.skip_at ∙ sym (append-nil _)))

-- with a newline or without
pub only_its_line : (input : List ℕ) (f : Fleet) → ReadAs input f → (input ≡ input_line f) ⊎ (input ≡ input_line f ++ 10 ∷ [])
unfolding is_line
only_its_line input f r = go (eqb (length input) line_columns) refl r.is_line_lem
  where
    go :
        (t : Bool)
        → eqb (length input) line_columns ≡ t
        → (t || (eqb (length input) (line_columns + 1) && eqb (get_or input line_columns 0) 10)) ≡ true
        → (input ≡ input_line f) ⊎ (input ≡ input_line f ++ 10 ∷ [])
    go true e g =
        let long = eqb-true (length input) line_columns e in
        inl (sym (take_all line_columns input (omega arith)) ∙ columns_are input f (omega arith) r)
    go false e g =
        let long = eqb-true (length input) (line_columns + 1) (and_left (eqb (length input) (line_columns + 1)) (eqb (get_or input line_columns 0) 10) g) in
        let last = eqb-true (get_or input line_columns 0) 10 (and_right (eqb (length input) (line_columns + 1)) (eqb (get_or input line_columns 0) 10) g) in
        inr (sym (take_all (line_columns + 1) input (omega arith)) ∙ take-suc input line_columns 0 (omega arith)
        ∙ ap₂ (λ (t : List ℕ) (b : ℕ). t ++ b ∷ []) (columns_are input f (omega arith) r) last)

-- ---- what is said by its line

module _ (f : Fleet) (h : is_fleet f ≡ true) (rest : List ℕ) where
  abbrev said : List ℕ
  said = input_line f ++ rest

  abbrev numbers : List ℕ
  numbers = f.start ∷ f.floats ∷ f.skip ∷ []

  small : (j : ℕ) → get_or numbers j 0 < 10 ^ 10
  small zero = omega (arith, (ranges f h).start_of)
  small (suc zero) = omega (arith, (ranges f h).most)
  small (suc (suc zero)) = omega (arith, (ranges f h).skipped, (ranges f h).most)
  small (suc (suc (suc j))) = lit< tt

  pub said_length : length said ≡ line_columns + length rest
  said_length = length-append (input_line f) rest ∙ omega (arith, length-all-unsigned numbers small)

  number_said : (i : ℕ) → i < 3 → unsigned_at said (10 * i) ≡ Some (get_or numbers i 0)
  number_said i l =
      written_unsigned said (10 * i) (get_or numbers i 0) (omega (arith, said_length)) (small i) (part_of-columns rest numbers i small l)

  numbers_said : numbers_say said ≡ Some f
  unfolding numbers_say three_say fleet_of
  numbers_said =
      rw (number_said 0 (lit< tt), number_said 1 (lit< tt), number_said 2 (lit< tt)) (ap (λ (t : Bool). cond t (Some f) None) h)

  pub line_says : is_line said ≡ true → read_fleet said ≡ Some f
  unfolding read_fleet
  line_says line = ap (λ (t : Bool). cond t (numbers_say said) None) line ∙ numbers_said

-- the byte behind it
pub said_behind : (f : Fleet) → is_fleet f ≡ true → (b : ℕ) → get_or (input_line f ++ b ∷ []) line_columns 0 ≡ b
said_behind f h b =
    let e : line_columns ≡ length (input_line f) + 0 = omega (arith, said_length f h [], length-append (input_line f) []) in
    ap (λ (i : ℕ). get_or (input_line f ++ b ∷ []) i 0) e ∙ get_or-append-add (input_line f) (b ∷ []) 0 0
