-- Several numbers: which a line may have, where each written field stands, and numbers put one after the other, each in as many columns.
-- Assumes nothing.
use mathlib.Core.Path.{◌≡◌, refl, sym, ap, ap₂, ◌∙◌}
use mathlib.Core.Bool.{true}
use mathlib.Core.List.{List, [], ◌∷◌, ◌++◌, append_assoc, map}
use Prim.Native.Nat.{ℕ, zero, suc, ◌+◌, ◌*◌, ◌^◌, ◌≤◌, ◌<◌}
use native.Mathlib.Nat.{mul-zero, mul-suc, mul-add, pow-le-pow_right}
use native.Mathlib.Numerals.{add-one}
use native.Mathlib.Omega.{arith}
use borrow.Author.Tests.{le-leb, leb-true}
use lib.Dec.{lit<}
use lib.IntN.{ℤ, pos}
use lib.ListN.{length, get_or, take, drop, length-append, drop_of_length-le}
use lib.Seq.{take_at, drop-append-add, drop-cons}
use mir.Syntax.{w32}
use mir.Facts.{to_z-of_z}
use Rattle.ints.specs.Lists.{every}
use Rattle.ints.proofs.Machine.{back, fits}
use Rattle.ints.proofs.Truth.{and_true, and_left, and_right}
use Rattle.fields.specs.Fields.{width, digits, written, justified, field_of, is_writable, greatest}
use Rattle.fields.specs.Numbers.{fields, are_writable, nth, in_columns, short_digits}
use Rattle.fields.specs.Put.{put}
use Rattle.fields.specs.Writing.{number_in}
use Rattle.fields.proofs.WritingLaws.{in_range_lem, length_field, length-number, number_above}
use Rattle.fields.proofs.FieldsLaws.{part}
use Rattle.fields.proofs.PutLaws.{put_put, put_none}

-- ---- numbers in range

pub pos-writable : (n : ℕ) → n ≤ greatest → is_writable (pos n) ≡ true
pos-writable n h = le-leb n greatest h

-- a number that a line may have is read back from a word as it is
pub writable_back : (z : ℤ) → is_writable z ≡ true → back w32 z ≡ z
writable_back z h = to_z-of_z {w = w32} (fits (omega (arith, in_range_lem z h)))

module _ (z : ℤ) (zs : List ℤ) where
  pub first_writable : are_writable (z ∷ zs) ≡ true → is_writable z ≡ true
  unfolding every
  first_writable h = and_left (is_writable z) (are_writable zs) h

  pub rest_writable : are_writable (z ∷ zs) ≡ true → are_writable zs ≡ true
  unfolding every
  rest_writable h = and_right (is_writable z) (are_writable zs) h

  pub more_writable : is_writable z ≡ true → are_writable zs ≡ true → are_writable (z ∷ zs) ≡ true
  unfolding every
  more_writable h k = and_true _ _ h k

pub none_writable : are_writable [] ≡ true
unfolding every
none_writable = refl

pub writable_at : (zs : List ℤ) (i : ℕ) → are_writable zs ≡ true → i < length zs → is_writable (nth zs i) ≡ true
writable_at [] i h l = absurd (omega arith)
writable_at (z ∷ zs) zero h l = first_writable z zs h
writable_at (z ∷ zs) (suc i) h l = writable_at zs i (rest_writable z zs h) (omega arith)

-- the i-th of some numbers above 0
pub small_at : (ns : List ℕ) (i n : ℕ) → are_writable (map pos ns) ≡ true → i < length (map pos ns) → nth (map pos ns) i ≡ pos n → n ≤ greatest
small_at ns i n h l e = leb-true n greatest (ap is_writable (sym e) ∙ writable_at (map pos ns) i h l)

pub ids_writable : (ids : List ℕ) → ((i : ℕ) → get_or ids i 0 < 65536) → are_writable (map pos ids) ≡ true
ids_writable [] f = none_writable
ids_writable (id ∷ ids) f = more_writable (pos id) (map pos ids) (pos-writable id (omega (arith, f 0))) (ids_writable ids (λ i. f (suc i)))

-- ---- texts of so many columns each, one after the other

-- the text of some things is that of each in turn
pub record InTurn {A : Type 0} (text : A → List ℕ) (texts : List A → List ℕ) : Type 0 where
  pub none : texts [] ≡ []
  pub more : (x : A) (xs : List A) → texts (x ∷ xs) ≡ text x ++ texts xs

-- what is left to put from the i-th on
abbrev pub left : {A : Type 0} → (List A → List ℕ) → ℕ → ℕ → List A → List ℕ → ℕ → List ℕ
left texts columns at xs out i = put out (at + columns * i) (texts (drop i xs))

pub left_all : {A : Type 0} (texts : List A → List ℕ) (columns at : ℕ) (xs : List A) (out : List ℕ) → put out at (texts xs) ≡ left texts columns at xs out 0
left_all texts columns at xs out =
    let e : at ≡ at + columns * 0 = omega (arith, mul-zero columns) in
    ap (λ (i : ℕ). put out i (texts xs)) e

module _ {A : Type 0} {text : A → List ℕ} {texts : List A → List ℕ} (turn : InTurn text texts) (columns : ℕ) where
  pub length-texts : (d : A) (xs : List A) → ((i : ℕ) → i < length xs → length (text (get_or xs i d)) ≡ columns) → length (texts xs) ≡ columns * length xs
  length-texts d [] f = ap length turn.none ∙ sym (mul-zero columns)
  length-texts d (x ∷ xs) f =
      ap length (turn.more x xs)
      ∙ length-append (text x) (texts xs)
      ∙ omega (arith, f 0 (omega arith), length-texts d xs (λ i l. f (suc i) (omega arith)), mul-suc columns (length xs))

  pub left_none : (at : ℕ) (xs : List A) (out : List ℕ) (i : ℕ) → length xs ≤ i → left texts columns at xs out i ≡ out
  left_none at xs out i h =
      ap (put out (at + columns * i)) (ap texts (drop_of_length-le xs h) ∙ turn.none) ∙ put_none out (at + columns * i)

  pub left_next :
      (d : A) (at : ℕ) (xs : List A) (out out' : List ℕ) (i : ℕ)
      → at + columns * i ≤ length out
      → i < length xs
      → length (text (get_or xs i d)) ≡ columns
      → out' ≡ put out (at + columns * i) (text (get_or xs i d))
      → left texts columns at xs out i ≡ left texts columns at xs out' (i + 1)
  left_next d at xs out out' i h l w e =
      let x = get_or xs i d in
      let rest = texts (drop (suc i) xs) in
      let next : at + columns * i + columns ≡ at + columns * (i + 1) = omega (arith, mul-add columns i 1) in
      ap (put out (at + columns * i)) (ap texts (drop-cons xs i d l) ∙ turn.more x (drop (suc i) xs))
      ∙ sym (put_put out (at + columns * i) (text x) rest h)
      ∙ ap₂ (λ (t : List ℕ) (k : ℕ). put t (at + columns * i + k) rest) (sym e) w
      ∙ ap₂ (λ (p j : ℕ). put out' p (texts (drop j xs))) next (sym (add-one i))

-- ---- fields

pub fields-in_turn : InTurn field_of fields
unfolding fields
fields-in_turn = record { none = refl; more = λ z zs. refl }

pub length_fields : (zs : List ℤ) → are_writable zs ≡ true → length (fields zs) ≡ 10 * length zs
length_fields zs h = length-texts fields-in_turn 10 (pos 0) zs (λ i l. length_field (nth zs i) (writable_at zs i h l))

pub fields_append : (xs ys : List ℤ) → fields (xs ++ ys) ≡ fields xs ++ fields ys
unfolding fields
fields_append [] ys = refl
fields_append (x ∷ xs) ys =
    ap (λ (t : List ℕ). field_of x ++ t) (fields_append xs ys) ∙ sym (append_assoc (field_of x) (fields xs) (fields ys))

pub part_of-fields : (zs : List ℤ) (i : ℕ) → are_writable zs ≡ true → i < length zs → part (fields zs) (10 * i) 10 ≡ field_of (nth zs i)
unfolding fields
part_of-fields [] i h l = absurd (omega arith)
part_of-fields (z ∷ zs) zero h l = take_at (field_of z) (fields zs) 10 (length_field z (first_writable z zs h))
part_of-fields (z ∷ zs) (suc i) h l =
    let e : 10 * suc i ≡ length (field_of z) + 10 * i = omega (arith, length_field z (first_writable z zs h)) in
    ap (take 10) (ap (λ (j : ℕ). drop j (field_of z ++ fields zs)) e ∙ drop-append-add (field_of z) (fields zs) (10 * i))
    ∙ part_of-fields zs i (rest_writable z zs h) (omega arith)

-- ---- numbers from 0 on

pub columns-in_turn : (columns : ℕ) → InTurn (λ (n : ℕ). justified columns (digits columns n)) (in_columns columns)
unfolding in_columns
columns-in_turn columns = record { none = refl; more = λ n ns. refl }

-- ids in the columns of a line are fields
pub fields_columns : (ns : List ℕ) → fields (map pos ns) ≡ in_columns width ns
unfolding fields field_of written in_columns
fields_columns [] = refl
fields_columns (n ∷ ns) = ap (λ (t : List ℕ). justified width (digits width n) ++ t) (fields_columns ns)

module _ (columns : ℕ) (wide : short_digits ≤ columns) where
  -- a 16-bit number
  pub short_columns : (n : ℕ) → n < 65536 → justified columns (digits columns n) ≡ number_in columns 32 n
  short_columns n h =
      number_above columns n (omega arith) (omega (arith, pow-le-pow_right {n = 10} (lit< tt) {i = short_digits} {j = columns} wide))

  pub length_short : (n : ℕ) → n < 65536 → length (justified columns (digits columns n)) ≡ columns
  length_short n h = ap length (short_columns n h) ∙ length-number columns 32 n (omega arith)

  pub length-in_columns : (ns : List ℕ) → ((i : ℕ) → get_or ns i 0 < 65536) → length (in_columns columns ns) ≡ columns * length ns
  length-in_columns ns f = length-texts (columns-in_turn columns) columns 0 ns (λ i l. length_short (get_or ns i 0) (f i))

-- numbers of up to ten digits in ten columns each, whatever follows
length-unsigned : (n : ℕ) → n < 10 ^ 10 → length (justified 10 (digits 10 n)) ≡ 10
length-unsigned n h = ap length (number_above 10 n (lit< tt) h) ∙ length-number 10 32 n (lit< tt)

pub length-all-unsigned : (ns : List ℕ) → ((j : ℕ) → get_or ns j 0 < 10 ^ 10) → length (in_columns 10 ns) ≡ 10 * length ns
length-all-unsigned ns f = length-texts (columns-in_turn 10) 10 0 ns (λ i l. length-unsigned (get_or ns i 0) (f i))

module _ (rest : List ℕ) where
  pub part_of-columns :
      (ns : List ℕ) (i : ℕ)
      → ((j : ℕ) → get_or ns j 0 < 10 ^ 10)
      → i < length ns
      → part (in_columns 10 ns ++ rest) (10 * i) 10 ≡ justified 10 (digits 10 (get_or ns i 0))
  unfolding in_columns
  part_of-columns [] i f l = absurd (omega arith)
  part_of-columns (n ∷ ns) zero f l =
      ap (take 10) (append_assoc (justified 10 (digits 10 n)) (in_columns 10 ns) rest)
      ∙ take_at (justified 10 (digits 10 n)) (in_columns 10 ns ++ rest) 10 (length-unsigned n (f 0))
  part_of-columns (n ∷ ns) (suc i) f l =
      let first = justified 10 (digits 10 n) in
      let e : 10 * suc i ≡ length first + 10 * i = omega (arith, length-unsigned n (f 0)) in
      ap (take 10)
      (ap₂ drop e (append_assoc first (in_columns 10 ns) rest) ∙ drop-append-add first (in_columns 10 ns ++ rest) (10 * i))
      ∙ part_of-columns ns i (λ j. f (suc j)) (omega arith)
