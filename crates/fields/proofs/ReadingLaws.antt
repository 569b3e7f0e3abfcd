-- What is seen after k bytes is a number of at most k digits. Of the bytes, 32 is a blank, 45 is "-", 48 to 57 are the digits.
-- Assumes nothing.
use mathlib.Core.Path.{◌≡◌, refl}
use mathlib.Core.Bool.{Bool, true, false, cond, ◌&&◌}
use mathlib.Core.List.{List}
use Prim.Native.Nat.{ℕ, zero, suc, ◌+◌, ◌-◌, ◌*◌, ◌^◌, ◌≤◌, ◌<◌}
use native.Mathlib.Nat.{pow-succ', pow-le-pow_right}
use native.Mathlib.Omega.{arith}
use borrow.Author.Tests.{leb-true}
use lib.Dec.{eqb, leb, lit<}
use lib.ListN.{get_or, take, drop}
use lib.Seq.{get_or-drop}
use native.Mathlib.Numerals.{add-one}
use Rattle.std.proofs.lemmas.List.{get_or-take}
use Rattle.ints.proofs.Truth.{and_right}
use Rattle.fields.specs.declared.reading.Seen.{Seen}
use Rattle.fields.specs.declared.reading.Seen.TheVariants.{Blanks, Minus, Zero, Digits, Other}
use Rattle.fields.specs.Reading.{size_seen, with_digit, after, seen_at}

with_digit_size : (negative : Bool) (n b : ℕ) → size_seen (with_digit negative n b) ≤ 10 * n + 9
unfolding with_digit
with_digit_size negative n b = go (leb 48 b && leb b 57) refl
  where
    go : (t : Bool) → leb 48 b && leb b 57 ≡ t → size_seen (cond (leb 48 b && leb b 57) (Digits negative (10 * n + (b - 48))) Other) ≤ 10 * n + 9
    go true e = rw e (omega (arith, leb-true b 57 (and_right (leb 48 b) (leb b 57) e)))
    go false e = rw e (omega arith)

-- of two things seen, one is picked by a test
either_size : (t : Bool) (a b : Seen) (m : ℕ) → size_seen a ≤ m → size_seen b ≤ m → size_seen (cond t a b) ≤ m
either_size true a b m h k = h
either_size false a b m h k = k

after_size : (s : Seen) (b : ℕ) → size_seen (after s b) ≤ 10 * size_seen s + 9
unfolding after
after_size Blanks b =
    either_size (eqb b 32) _ _ 9 (omega arith) (either_size (eqb b 45) _ _ 9 (omega arith) (either_size (eqb b 48) _ _ 9 (omega arith) (with_digit_size false 0 b)))
after_size Minus b = either_size (eqb b 48) _ _ 9 (omega arith) (with_digit_size true 0 b)
after_size Zero b = omega arith
after_size (Digits negative n) b = with_digit_size negative n b
after_size Other b = omega arith

pub seen_size : (line : List ℕ) (at k : ℕ) → size_seen (seen_at line at k) < 10 ^ k
unfolding seen_at
seen_size line at zero = omega arith
seen_size line at (suc k) =
    omega (arith, pow-succ' 10 k, after_size (seen_at line at k) (get_or line (at + k) 0), seen_size line at k)

pub seen_small : (line : List ℕ) (at k : ℕ) → k < 10 → size_seen (seen_at line at k) < 10 ^ 10
seen_small line at k h =
    omega (arith, seen_size line at k, pow-le-pow_right {n = 10} (lit< tt) {i = k} {j = 10} (omega arith))

-- one byte more, of the part of the line that has the field
pub next_seen :
    (line : List ℕ) (at n k : ℕ) (s : Seen)
    → k < n
    → s ≡ seen_at line at k
    → after s (get_or (take n (drop at line)) k 0) ≡ seen_at line at (k + 1)
unfolding seen_at
next_seen line at n k s h e = rw (get_or-take n (drop at line) k 0 h, get_or-drop at line k 0, e, add-one k) refl
