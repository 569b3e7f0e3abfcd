-- The numbers of a line: a letter and fields put into bytes, what a written line is read to, and what the fields of a line are that is read.
-- Assumes nothing.
use mathlib.Core.Path.{◌≡◌, refl, sym, ap, ap₂, ◌∙◌}
use mathlib.Core.Bool.{true}
use mathlib.Core.List.{List, [], ◌∷◌, ◌++◌, append-nil}
use Prim.Native.Nat.{ℕ, zero, suc, ◌+◌, ◌*◌, ◌≤◌, ◌<◌}
use native.Mathlib.Omega.{arith}
use lib.IntN.{ℤ, pos}
use lib.ListN.{length, get_or, take, drop, length-append, set}
use lib.Seq.{drop-drop, take-add, take_all, take_at, take-suc}
use Rattle.std.specs.Prelude.{Option, Some, None, is_some, unwrap_or}
use Rattle.ints.proofs.Truth.{and_left, and_right}
use mir.Syntax.{w32, w64}
use mir.Val.{SFits}
use mir.Facts.{to_z-of_z}
use Rattle.ints.proofs.Machine.{back, fits}
use Rattle.grid.specs.declared.Rect.{Rect}
use Rattle.grid.specs.declared.When.{When}
use Rattle.grid.specs.declared.When.TheVariants.{At, During}
use Rattle.ledger.specs.declared.Ask.{Ask}
use Rattle.fields.specs.Fields.{is_writable}
use Rattle.fields.specs.Numbers.{fields, are_writable, nth}
use Rattle.fields.proofs.WritingLaws.{in_range_lem}
use Rattle.fields.proofs.NumbersLaws.{writable_at, writable_back, rest_writable, length_fields, fields_append, part_of-fields}
use Rattle.lines.specs.Lines.{line_of, line_length, rect_numbers, when_numbers, ask_numbers, Written}
use Rattle.lines.specs.Reading.{nth_field, numbers_in, are_numbers}
use Rattle.fields.specs.Put.{put}
use Rattle.fields.proofs.FieldsLaws.{part, written_field, read_field_is}
use Rattle.fields.proofs.PutLaws.{put_put, put_none, put_front, put_last}

-- ---- a written line

-- a letter, and the fields after it
pub put_line : (out : List ℕ) (letter : ℕ) (zs : List ℤ) → 0 < length out → put (set out 0 letter) 1 (fields zs) ≡ line_of letter zs ++ drop (length (line_of letter zs)) out
put_line out letter zs h =
    ap (λ (t : List ℕ). put t 1 (fields zs)) (sym (put_last out 0 [] letter h ∙ put_none (set out 0 letter) 0))
    ∙ put_put out 0 (letter ∷ []) (fields zs) (omega arith)
    ∙ put_front out (line_of letter zs)

module _ (letter : ℕ) (zs : List ℤ) (h : are_writable zs ≡ true) where
  -- each field of a written line is read to its number
  field_of-line : (i : ℕ) → i < length zs → nth_field (line_of letter zs) i ≡ Some (nth zs i)
  field_of-line i l =
      let e : line_length i ≡ suc (10 * i) = omega arith in
      written_field (line_of letter zs) (line_length i) (nth zs i) (omega (arith, length_fields zs h)) (writable_at zs i h l)
      (ap (λ (j : ℕ). part (line_of letter zs) j 10) e ∙ part_of-fields zs i h l)

  -- so its numbers are read, as many as are wanted
  pub numbers_written : (k : ℕ) → k ≤ length zs → numbers_in (line_of letter zs) k ≡ take k zs
  unfolding numbers_in
  numbers_written zero l = refl
  numbers_written (suc k) l =
      simp (field_of-line k (omega arith), numbers_written k (omega arith)) (sym (take-suc zs k (pos 0) (omega arith)))

  pub good_written : (k : ℕ) → k ≤ length zs → are_numbers (line_of letter zs) k ≡ true
  unfolding are_numbers
  good_written zero l = refl
  good_written (suc k) l = simp (field_of-line k (omega arith), good_written k (omega arith))

-- ---- a line that is read

some_is : (o : Option ℤ) → is_some o ≡ true → o ≡ Some (unwrap_or o (pos 0))
some_is (Some z) h = refl
some_is None h = cc

fields_read : (line : List ℕ) (k : ℕ) → line_length k ≤ length line → are_numbers line k ≡ true → take (10 * k) (drop 1 line) ≡ fields (numbers_in line k)
unfolding fields numbers_in are_numbers
fields_read line zero h g = refl
fields_read line (suc k) h g =
    let e : 10 * suc k ≡ 10 * k + 10 = omega arith in
    let fine = and_left (are_numbers line k) (is_some (nth_field line k)) g in
    let last = and_right (are_numbers line k) (is_some (nth_field line k)) g in
    let z = unwrap_or (nth_field line k) (pos 0) in
    let one = read_field_is line (line_length k) z (omega arith) (some_is (nth_field line k) last) in
    ap (λ (n : ℕ). take n (drop 1 line)) e
    ∙ take-add (10 * k) 10 (drop 1 line)
    ∙ ap₂ ◌++◌ (fields_read line k (omega arith) fine) (ap (take 10) (drop-drop (10 * k) 1 line) ∙ one ∙ sym (append-nil _))
    ∙ sym (fields_append (numbers_in line k) (z ∷ []))

pub line_read : (line : List ℕ) (k : ℕ) → length line ≡ line_length k → are_numbers line k ≡ true → line ≡ line_of (get_or line 0 0) (numbers_in line k)
line_read [] k h g = absurd (omega arith)
line_read (b ∷ bs) k h g =
    ap (λ (t : List ℕ). b ∷ t) (sym (take_all (10 * k) bs (omega arith)) ∙ fields_read (b ∷ bs) k (omega arith) g)

-- a line, and further fields behind it
pub line_more :
    (letter : ℕ) (xs ys : List ℤ) (out first second : List ℕ) (n m : ℕ)
    → are_writable xs ≡ true
    → are_writable ys ≡ true
    → Written (line_of letter xs) out first n
    → second ≡ put first n (fields ys)
    → m ≡ n + 10 * length ys
    → Written (line_of letter (xs ++ ys)) out second m
line_more letter xs ys out first second n m h k w e l =
    let line : List ℕ = line_of letter xs in
    let end : n ≡ 0 + length line = w.count ∙ omega arith in
    record {
      bytes =
          e
          ∙ ap₂ (λ (t : List ℕ) (i : ℕ). put t i (fields ys)) (w.bytes ∙ sym (put_front out line)) end
          ∙ put_put out 0 line (fields ys) (omega arith)
          ∙ put_front out (line ++ fields ys)
          ∙ ap (λ (t : List ℕ). (letter ∷ t) ++ drop (length (letter ∷ t)) out) (sym (fields_append xs ys));
      count = l ∙ omega (arith, w.count, ap length (fields_append xs ys), length-append (fields xs) (fields ys), length_fields ys k);
    }

-- ---- a text written in front

module _ {text before after : List ℕ} {n : ℕ} (w : Written text before after n) where
  pub written_fits : n ≤ length after
  written_fits = omega (arith, ap length w.bytes, length-append text (drop (length text) before), w.count)

  pub written_front : take n after ≡ text
  written_front = ap (take n) w.bytes ∙ take_at text (drop (length text) before) n (sym w.count)

-- ---- a rectangle's numbers

-- those of an ask
pub rect_writable : (ask : Ask) → are_writable (ask_numbers ask) ≡ true → are_writable (rect_numbers ask.query.rect) ≡ true
rect_writable ask h = go ask.query.when (rest_writable ask.method _ h)
  where
    go : (when : When) → are_writable (when_numbers when ++ rect_numbers ask.query.rect) ≡ true → are_writable (rect_numbers ask.query.rect) ≡ true
    go (At time) h = rest_writable time _ h
    go (During first last) h = rest_writable last _ (rest_writable first _ h)

module _ (q : Rect) (h : are_writable (rect_numbers q) ≡ true) where
  rect_number : (i : ℕ) → i < 4 → is_writable (nth (rect_numbers q) i) ≡ true
  rect_number i l = writable_at (rect_numbers q) i h l

  wide_back : (i : ℕ) → i < 4 → back w64 (nth (rect_numbers q) i) ≡ nth (rect_numbers q) i
  wide_back i l = to_z-of_z {w = w64} (fits (omega (arith, in_range_lem (nth (rect_numbers q) i) (rect_number i l))))

  -- each fits 32 bits
  pub narrow : (i : ℕ) → i < 4 → SFits w32 (back w64 (nth (rect_numbers q) i))
  narrow i l = rw (wide_back i l) (fits (omega (arith, in_range_lem (nth (rect_numbers q) i) (rect_number i l))))

  narrowed : (i : ℕ) → i < 4 → back w32 (back w64 (nth (rect_numbers q) i)) ≡ nth (rect_numbers q) i
  narrowed i l = ap (back w32) (wide_back i l) ∙ writable_back (nth (rect_numbers q) i) (rect_number i l)

  pub corners_back : back w32 (back w64 q.x.low) ∷ back w32 (back w64 q.y.low) ∷ back w32 (back w64 q.x.high) ∷ back w32 (back w64 q.y.high) ∷ [] ≡ rect_numbers q
  corners_back = four (narrowed 0 (omega arith)) (narrowed 1 (omega arith)) (narrowed 2 (omega arith)) (narrowed 3 (omega arith))
    where
      four : {a b c d a' b' c' d' : ℤ} → a ≡ a' → b ≡ b' → c ≡ c' → d ≡ d' → a ∷ b ∷ c ∷ d ∷ [] ≡ a' ∷ b' ∷ c' ∷ d' ∷ []
      four e f g h = cc
