-- The claims of specs/Claims.antt, proved.
-- Assumes nothing.
use mathlib.Core.Path.{◌≡◌, refl, sym, ap, ap₂, ◌∙◌, subst}
use mathlib.Core.Bool.{Bool, true, false, cond}
use mathlib.Core.List.{List, []}
use mathlib.Core.Logic.{dite}
use Prim.Native.Nat.{ℕ, ◌<◌}
use Prim.Native.Char.{code}
use native.Mathlib.Decide.{ℕ_discrete}
use native.Mathlib.Omega.{arith}
use borrow.Author.Tests.{eq-eqb, eqb-true, ne_eqb}
use lib.Dec.{eqb}
use lib.IntN.{ℤ}
use lib.ListN.{length, get_or}
use lib.Seq.{take-length}
use Rattle.ints.proofs.Truth.{and_true, and_left, and_right}
use Rattle.grid.specs.declared.Rect.{Rect}
use Rattle.grid.specs.declared.When.{When}
use Rattle.grid.specs.declared.When.TheVariants.{At, During}
use Rattle.ledger.specs.declared.Change.TheVariants as Change
use Rattle.ledger.specs.declared.Call.TheVariants as Call
use Rattle.lines.specs.declared.Line.{Line}
use Rattle.fields.specs.Numbers.{are_writable}
use Rattle.lines.specs.Lines.{line_of, line_length, letter_of, change_numbers, numbers_of, call_line}
use Rattle.lines.specs.Reading.{numbers_in, are_numbers, has_numbers, call_of, count_of, read_line}
use Rattle.lines.specs.Claims.{ReadWritten, WrittenRead}
use Rattle.fields.proofs.NumbersLaws.{length_fields}
use Rattle.lines.proofs.LinesLaws.{numbers_written, good_written, line_read}

-- ---- a written line is read

-- by its letter, where it has as many numbers as that
line_written : (letter : ℕ) (zs : List ℤ) → are_writable zs ≡ true → length zs ≡ count_of letter → read_line (line_of letter zs) ≡ call_of letter zs
unfolding read_line
line_written letter zs h e =
    let long : length (line_of letter zs) ≡ line_length (count_of letter) = omega (arith, length_fields zs h) in
    let good : are_numbers (line_of letter zs) (count_of letter) ≡ true = good_written letter zs h (count_of letter) (omega arith) in
    ap₂ (λ (b : Bool) (ns : List ℤ). cond b (call_of letter ns) Line.NoCall) (and_true _ _ (eq-eqb _ _ long) good)
    (ap (numbers_in (line_of letter zs)) (sym e) ∙ numbers_written letter zs h (length zs) (omega arith) ∙ take-length zs)

none_read : read_line [] ≡ Line.NoCall
unfolding read_line call_of count_of numbers_of
none_read = refl

abbrev ask_line : ℤ → Rect → When → Line
ask_line method rect when = Line.Call (Call.Ask (record { method = method; query = record { rect = rect; when = when } }))

read_asked : (method : ℤ) (rect : Rect) (when : When) → are_writable (numbers_of (ask_line method rect when)) ≡ true → read_line (call_line (ask_line method rect when)) ≡ ask_line method rect when
unfolding letter_of numbers_of call_line call_of count_of
read_asked method rect (At t) h = line_written (code "Q") _ h refl
read_asked method rect (During first last) h = line_written (code "W") _ h refl

pub read_written : ReadWritten
unfolding letter_of numbers_of change_numbers call_line call_of count_of
read_written (Line.Open t) h = line_written (code "O") _ h refl
read_written (Line.Call (Call.Clock t)) h = line_written (code "C") _ h refl
read_written (Line.Call (Call.Change (Change.Add r))) h = line_written (code "A") _ h refl
read_written (Line.Call (Call.Change (Change.Report r))) h = line_written (code "U") _ h refl
read_written (Line.Call (Call.Change (Change.Drop id t))) h = line_written (code "D") _ h refl
read_written (Line.Call (Call.Ask ask)) h = read_asked ask.method ask.query.rect ask.query.when h
read_written Line.NoCall h = none_read

-- ---- a line that is read is written by its call

-- what holds of a letter holds of one that equals it; else it is another
if_letter : (P : ℕ → Type 0) (x y : ℕ) → P y → ((x ≡ y → ⊥) → P x) → P x
if_letter P x y p f = dite (ℕ_discrete x y) (λ e. subst P (sym e) p) f

module _ (line : List ℕ) where
  -- a letter's call writes the letter and the numbers
  abbrev Says : ℕ → Type 0
  Says x =
      let ns = numbers_in line (count_of x) in
      (call_of x ns ≡ Line.NoCall → ⊥) → call_line (call_of x ns) ≡ line_of x ns

  says : (x : ℕ) → Says x
  unfolding call_of count_of call_line letter_of numbers_of change_numbers numbers_in
  says x =
      if_letter Says x (code "O") (λ _. refl)
      (λ o. if_letter Says x (code "C") (λ _. refl)
      (λ c. if_letter Says x (code "A") (λ _. refl)
      (λ a. if_letter Says x (code "U") (λ _. refl)
      (λ u. if_letter Says x (code "D") (λ _. refl)
      (λ d. if_letter Says x (code "Q") (λ _. refl)
      (λ q. if_letter Says x (code "W") (λ _. refl)
      (λ w n. absurd (n (simp (ne_eqb _ _ o, ne_eqb _ _ c, ne_eqb _ _ a, ne_eqb _ _ u, ne_eqb _ _ d, ne_eqb _ _ q, ne_eqb _ _ w))))))))))

  abbrev letter : ℕ
  letter = get_or line 0 0

  abbrev count : ℕ
  count = count_of letter

  read_wrote : (b : Bool) → has_numbers line count ≡ b → (read_line line ≡ Line.NoCall → ⊥) → line ≡ call_line (read_line line)
  unfolding read_line
  read_wrote true e =
      let long = eqb-true _ _ (and_left (eqb (length line) (line_length count)) (are_numbers line count) e) in
      let good = and_right (eqb (length line) (line_length count)) (are_numbers line count) e in
      rw e (λ n. line_read line count long good ∙ sym (says letter n))
  read_wrote false e = rw e (λ n. absurd (n refl))

pub written_read : WrittenRead
written_read line call e =
    subst (λ (c : Line). (c ≡ Line.NoCall → ⊥) → line ≡ call_line c) e (read_wrote line _ refl)

-- so a call has the letter of its line
call_letter : (line : Line) → (line ≡ Line.NoCall → ⊥) → (0 < length (call_line line)) × (get_or (call_line line) 0 0 ≡ letter_of line)
unfolding call_line
call_letter (Line.Open t) n = (omega arith, refl)
call_letter (Line.Call call) n = (omega arith, refl)
call_letter Line.NoCall n = absurd (n refl)

pub letter_read : (line : List ℕ) → (read_line line ≡ Line.NoCall → ⊥) → (0 < length line) × (get_or line 0 0 ≡ letter_of (read_line line))
letter_read line n =
    subst (λ (x : List ℕ). (0 < length x) × (get_or x 0 0 ≡ letter_of (read_line line))) (sym (written_read line (read_line line) refl n))
    (call_letter (read_line line) n)
