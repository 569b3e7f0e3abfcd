-- The laws of reading: what is seen after k bytes is a number of at most k digits, and a line is read by its letter where it has its letter's
-- numbers. Of the bytes, 32 is a blank, 45 is "-", 48 to 57 are the digits.
-- Assumes nothing.
use mathlib.Core.Path.{◌≡◌, refl, sym, ap, ◌∙◌}
use mathlib.Core.Bool.{Bool, true, false, cond, ◌&&◌}
use mathlib.Core.Logic.{dite}
use native.Mathlib.Decide.{ℕ_discrete}
use Rattle.std.specs.Prelude.{Option, Some, None, unwrap_or}
use lib.Dec.{eqb}
use mathlib.Core.List.{List, [], ◌∷◌, ◌++◌, append_assoc}
use Prim.Native.Nat.{ℕ, zero, suc, ◌+◌, ◌-◌, ◌≤◌, ◌<◌}
use native.Mathlib.Numerals.{add-one}
use native.Mathlib.Omega.{arith}
use borrow.Author.Tests.{ne_eqb}
use lib.Dec.{lit≤}
use lib.IntN.{ℤ, pos}
use lib.ListN.{length, get_or, set, replicate, length-append}
use lib.Seq.{set_at}
use Rattle.grid.specs.declared.Rect.{Rect}
use Rattle.grid.specs.declared.When.{When}
use Rattle.grid.specs.declared.When.TheVariants.{At, During}
use Rattle.ledger.specs.declared.Change.TheVariants as Change
use Rattle.ledger.specs.declared.Call.TheVariants as Call
use Rattle.lines.specs.declared.Line.{Line}
use Rattle.lines.specs.Lines.{line_length, most_numbers, change_numbers, rect_numbers, when_numbers, numbers_of}
use Rattle.fields.specs.Numbers.{nth}
use Rattle.lines.specs.Reading.{nth_field, numbers_in, are_numbers, has_numbers, call_of, count_of, read_line, numbers_read, BeginsNone}

few_asked : (method : ℤ) (when : When) (rect : Rect) → length (method ∷ when_numbers when ++ rect_numbers rect) ≤ most_numbers
few_asked method (At t) rect = lit≤ tt
few_asked method (During first last) rect = lit≤ tt

few_numbers : (line : Line) → length (numbers_of line) ≤ most_numbers
unfolding numbers_of change_numbers
few_numbers (Line.Open t) = lit≤ tt
few_numbers (Line.Call (Call.Clock t)) = lit≤ tt
few_numbers (Line.Call (Call.Change (Change.Add r))) = lit≤ tt
few_numbers (Line.Call (Call.Change (Change.Report r))) = lit≤ tt
few_numbers (Line.Call (Call.Change (Change.Drop id t))) = lit≤ tt
few_numbers (Line.Call (Call.Ask ask)) = few_asked ask.method ask.query.when ask.query.rect
few_numbers Line.NoCall = lit≤ tt

pub few_follow : (letter : ℕ) → count_of letter ≤ most_numbers
unfolding count_of
few_follow letter = few_numbers (call_of letter [])

pub length-numbers : (line : List ℕ) (k : ℕ) → length (numbers_in line k) ≡ k
unfolding numbers_in
length-numbers line zero = refl
length-numbers line (suc k) =
    length-append (numbers_in line k) (unwrap_or (nth_field line k) (pos 0) ∷ []) ∙ omega (arith, length-numbers line k)

-- the first k numbers, and 0 past them
pub record ReadSoFar (line : List ℕ) (k : ℕ) (ns : List ℤ) : Type 0 where
  pub all_read : are_numbers line k ≡ true
  pub numbers_are : ns ≡ numbers_in line k ++ replicate (most_numbers - k) (pos 0)

pub none_so_far : (line : List ℕ) → ReadSoFar line 0 (replicate most_numbers (pos 0))
unfolding are_numbers numbers_in
none_so_far line = record { all_read = refl; numbers_are = refl }

-- one number more, in the place of a 0
pub next_read :
    (line : List ℕ) (k : ℕ) (ns : List ℤ) (z : ℤ)
    → k < most_numbers
    → ReadSoFar line k ns
    → nth_field line k ≡ Some z
    → ReadSoFar line (k + 1) (set ns k z)
unfolding are_numbers numbers_in
next_read line k ns z h so is =
    let left : most_numbers - k ≡ suc (most_numbers - (k + 1)) = omega arith in
    let zeros : List ℤ = replicate (most_numbers - (k + 1)) (pos 0) in
    record {
      all_read = ap (are_numbers line) (add-one k) ∙ simp (so.all_read, is);
      numbers_are =
          ap (λ (x : List ℤ). set x k z) (so.numbers_are ∙ ap (λ (n : ℕ). numbers_in line k ++ replicate n (pos 0)) left)
          ∙ set_at (numbers_in line k) (pos 0) zeros z k (length-numbers line k)
          ∙ sym (append_assoc (numbers_in line k) (z ∷ []) zeros)
          ∙ ap (λ (xs : List ℤ). xs ++ zeros)
          (ap (λ (x : Option ℤ). numbers_in line k ++ unwrap_or x (pos 0) ∷ []) (sym is) ∙ sym (ap (numbers_in line) (add-one k)));
    }

-- a field without a number
missing : (line : List ℕ) (k count : ℕ) → k < count → nth_field line k ≡ None → are_numbers line count ≡ false
unfolding are_numbers
missing line k zero h is = absurd (omega arith)
missing line k (suc n) h is =
    dite (ℕ_discrete k n)
    (λ e. simp (sym e, is) (and_none (are_numbers line k)))
    (λ other. rw (missing line k n (omega arith) is) refl)
  where
    and_none : (b : Bool) → b && false ≡ false
    and_none true = refl
    and_none false = refl

module _ (line : List ℕ) (count : ℕ) where
  pub one_missing : (k : ℕ) → k < count → nth_field line k ≡ None → None ≡ numbers_read line count
  one_missing k h is = go (eqb (length line) (line_length count)) (missing line k count h is)
    where
      go : (b : Bool) → are_numbers line count ≡ false → None ≡ cond (b && are_numbers line count) (Some (numbers_in line count ++ replicate (most_numbers - count) (pos 0))) None
      go true e = rw e refl
      go false e = refl

-- numbers, and 0 past them: the same call
padded : (ns : List ℤ) (k i : ℕ) → nth (ns ++ replicate k (pos 0)) i ≡ nth ns i
padded [] zero i = refl
padded [] (suc k) zero = refl
padded [] (suc k) (suc i) = padded [] k i
padded (n ∷ ns) k zero = refl
padded (n ∷ ns) k (suc i) = padded ns k i

call_padded : (letter : ℕ) (ns : List ℤ) (k : ℕ) → call_of letter (ns ++ replicate k (pos 0)) ≡ call_of letter ns
unfolding call_of
call_padded letter ns k = simp padded

module _ (line : List ℕ) where
  abbrev letter : ℕ
  letter = get_or line 0 0

  pub empty_read : length line ≡ 0 → Line.NoCall ≡ read_line line
  unfolding read_line count_of call_of numbers_of
  empty_read h = simp (ne_eqb _ _ (λ (e : length line ≡ line_length (count_of letter)). omega arith))

  pub other_letter : BeginsNone letter → Line.NoCall ≡ read_line line
  unfolding read_line
  other_letter none = go (has_numbers line (count_of letter))
    where
      go : (b : Bool) → Line.NoCall ≡ cond b (call_of letter (numbers_in line (count_of letter))) Line.NoCall
      go true = sym (none (numbers_in line (count_of letter)))
      go false = refl

  abbrev count : ℕ
  count = count_of letter

  pub some_read : (ns : List ℤ) → Some ns ≡ numbers_read line count → call_of letter ns ≡ read_line line
  unfolding read_line
  some_read ns = go (has_numbers line count)
    where
      go :
          (b : Bool)
          → Some ns ≡ cond b (Some (numbers_in line count ++ replicate (most_numbers - count) (pos 0))) None
          → call_of letter ns ≡ cond b (call_of letter (numbers_in line count)) Line.NoCall
      go true e =
          let is : ns ≡ numbers_in line count ++ replicate (most_numbers - count) (pos 0) = cc in
          ap (call_of letter) is ∙ call_padded letter (numbers_in line count) (most_numbers - count)
      go false e = cc

  pub none_read : None ≡ numbers_read line count → Line.NoCall ≡ read_line line
  unfolding read_line
  none_read = go (has_numbers line count)
    where
      go :
          (b : Bool)
          → None ≡ cond b (Some (numbers_in line count ++ replicate (most_numbers - count) (pos 0))) None
          → Line.NoCall ≡ cond b (call_of letter (numbers_in line count)) Line.NoCall
      go true e = cc
      go false e = refl

-- what `read_call` goes by
pub ruleset read_call_laws = (few_follow, empty_read, other_letter, some_read, none_read)
