-- No byte of a call line is a newline: its numbers have blanks, digits and "-". So where an input begins with a call line and a newline, that call
-- line is its first.
-- Assumes nothing.
use mathlib.Core.Path.{◌≡◌, sym, ap, ◌∙◌}
use mathlib.Core.Bool.{Bool, true, false, cond}
use mathlib.Core.List.{List, [], ◌∷◌, ◌++◌, append_assoc, append-nil}
use Prim.Native.Nat.{ℕ, zero, suc, ◌-◌, ◌/◌, ◌%◌}
use Prim.Native.Char.{code}
use native.Mathlib.Omega.{arith}
use lib.Dec.{ltb}
use lib.IntN.{ℤ, pos, negsuc}
use lib.ListN.{length, replicate}
use borrow.Author.Tests.{ne_eqb}
use Rattle.fields.specs.Fields.{width, digit, digits, written, field_of}
use Rattle.fields.specs.Numbers.{fields}
use Rattle.lines.specs.Lines.{line_of}
use Rattle.answering.specs.Replay.{newline, lines_from}

-- a text that ends no line: a line begun before it goes on behind it
abbrev pub InLine : List ℕ → Type 0
InLine text = (line rest : List ℕ) → lines_from line (text ++ rest) ≡ lines_from (line ++ text) rest

nothing_in_line : InLine []
nothing_in_line line rest = ap (λ (x : List ℕ). lines_from x rest) (sym (append-nil line))

byte_in_line : (b : ℕ) → (b ≡ newline → ⊥) → InLine (b ∷ [])
unfolding lines_from
byte_in_line b h line rest = simp (ne_eqb b newline h)

both_in_line : (a b : List ℕ) → InLine a → InLine b → InLine (a ++ b)
both_in_line a b f g line rest =
    ap (lines_from line) (append_assoc a b rest)
    ∙ f line (b ++ rest)
    ∙ g (line ++ a) rest
    ∙ ap (λ (x : List ℕ). lines_from x rest) (append_assoc line a b)

-- ---- numbers

digit_in_line : (d : ℕ) → InLine (digit d ∷ [])
digit_in_line d = byte_in_line (digit d) (λ e. omega arith)

digits_in_line : (k n : ℕ) → InLine (digits k n)
unfolding digits
digits_in_line zero n = nothing_in_line
digits_in_line (suc k) n = go (ltb n 10) (digits_in_line k (n / 10))
  where
    go : (t : Bool) → InLine (digits k (n / 10)) → InLine (cond t (digit n ∷ []) (digits k (n / 10) ++ digit (n % 10) ∷ []))
    go true f = digit_in_line n
    go false f = both_in_line (digits k (n / 10)) (digit (n % 10) ∷ []) f (digit_in_line (n % 10))

blanks_in_line : (n : ℕ) → InLine (replicate n (code " "))
blanks_in_line zero = nothing_in_line
blanks_in_line (suc n) = both_in_line (code " " ∷ []) (replicate n (code " ")) (byte_in_line (code " ") (λ e. omega arith)) (blanks_in_line n)

written_in_line : (z : ℤ) → InLine (written z)
unfolding written
written_in_line (pos n) = digits_in_line width n
written_in_line (negsuc n) =
    both_in_line (code "-" ∷ []) (digits width (suc n)) (byte_in_line (code "-") (λ e. omega arith)) (digits_in_line width (suc n))

field_in_line : (z : ℤ) → InLine (field_of z)
unfolding field_of
field_in_line z =
    let blanks = width - length (written z) in
    both_in_line (replicate blanks (code " ")) (written z) (blanks_in_line blanks) (written_in_line z)

fields_in_line : (zs : List ℤ) → InLine (fields zs)
unfolding fields
fields_in_line [] = nothing_in_line
fields_in_line (z ∷ zs) = both_in_line (field_of z) (fields zs) (field_in_line z) (fields_in_line zs)

-- ---- lines

pub call_in_line : (letter : ℕ) (zs : List ℤ) → (letter ≡ newline → ⊥) → InLine (line_of letter zs)
call_in_line letter zs h = both_in_line (letter ∷ []) (fields zs) (byte_in_line letter h) (fields_in_line zs)

pub first_line : (text rest : List ℕ) → InLine text → lines_from [] (text ++ newline ∷ rest) ≡ text ∷ lines_from [] rest
unfolding lines_from
first_line text rest f = f [] (newline ∷ rest)
