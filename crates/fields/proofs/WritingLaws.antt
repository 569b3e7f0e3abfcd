-- The columns of a number, as the code writes them, are its text at their end; a field is the case of ten. Of the bytes, 32 is a blank and 45 is "-".
-- Assumes nothing.
use mathlib.Core.Path.{◌≡◌, refl, sym, ap, ap₂, ◌∙◌}
use mathlib.Core.Bool.{true}
use mathlib.Core.List.{List, [], ◌∷◌, ◌++◌, append_assoc, append-nil}
use mathlib.Core.Logic.{dite}
use Prim.Native.Nat.{ℕ, zero, suc, ◌+◌, ◌-◌, ◌/◌, ◌%◌, ◌^◌, ◌≤◌, ◌<◌}
use native.Mathlib.Nat.{pow-succ'}
use native.Mathlib.Decide.{dec_le, dec_lt}
use native.Mathlib.Omega.{arith}
use borrow.Author.Tests.{lt-ltb, le-ltb, ne_eqb}
use lib.Dec.{lit<}
use lib.IntN.{ℤ, pos, negsuc, nat_abs, neg_ℤ}
use lib.ListN.{length, replicate, set, length-append, replicate-append-replicate}
use lib.Signed.{le_z}
use Rattle.ints.proofs.Parts.{up, down, le_true}
use Rattle.ints.proofs.Truth.{and_left, and_right}
use Rattle.fields.specs.Fields.{digit, digits, written, justified, field_of, is_writable, greatest, least_size}
use Rattle.fields.specs.Put.{put}
use Rattle.fields.specs.Writing.{byte_of, lead_after, columns_of, number_in, lead_of}
use Rattle.fields.proofs.PutLaws.{put_none, put_last}

pub length-columns : (k lead n : ℕ) → length (columns_of k lead n) ≡ k
unfolding columns_of
length-columns zero lead n = refl
length-columns (suc k) lead n =
    length-append (columns_of k (lead_after lead n) (n / 10)) _ ∙ omega (arith, length-columns k (lead_after lead n) (n / 10))

justified_more : (k : ℕ) (text : List ℕ) (b : ℕ) → justified k text ++ b ∷ [] ≡ justified (suc k) (text ++ b ∷ [])
justified_more k text b =
    let e : suc k - length (text ++ b ∷ []) ≡ k - length text = omega (arith, length-append text (b ∷ [])) in
    rw e (append_assoc (replicate (k - length text) 32) text (b ∷ []))

blanks : (k : ℕ) → columns_of k 32 0 ≡ replicate k 32
unfolding columns_of
blanks zero = refl
blanks (suc k) =
    let e : k + 1 ≡ suc k = omega arith in
    rw (blanks k) (replicate-append-replicate k 1 32 ∙ ap (λ (i : ℕ). replicate i 32) e)

-- one more digit
pub columns_more : (k lead n : ℕ) → 0 < n → columns_of (suc k) lead n ≡ columns_of k lead (n / 10) ++ digit (n % 10) ∷ []
unfolding columns_of
columns_more k lead n h = simp (ne_eqb n 0 (λ e. omega arith))

digits_one : (k n : ℕ) → n < 10 → digits (suc k) n ≡ digit n ∷ []
unfolding digits
digits_one k n h = simp (lt-ltb n 10 h)

digits_more : (k n : ℕ) → 10 ≤ n → digits (suc k) n ≡ digits k (n / 10) ++ digit (n % 10) ∷ []
unfolding digits
digits_more k n h = simp (le-ltb n 10 h)

-- a text stands before the digits: none, or "-"
module _ (lead : ℕ) (before : List ℕ) (alone : (k : ℕ) → length before ≤ k → columns_of k lead 0 ≡ justified k before) where
  one_digit : (k n : ℕ) → length before ≤ k → n < 10 → columns_of k lead (n / 10) ++ digit (n % 10) ∷ [] ≡ justified (suc k) (before ++ digits (suc k) n)
  one_digit k n h l =
      let e : n / 10 ≡ 0 = omega arith in
      let m : n % 10 ≡ n = omega arith in
      rw (e, m, digits_one k n l, alone k h) (justified_more k before (digit n))

  more_digits :
      (k n : ℕ)
      → 10 ≤ n
      → columns_of k lead (n / 10 / 10) ++ digit (n / 10 % 10) ∷ [] ≡ justified (suc k) (before ++ digits (suc k) (n / 10))
      → columns_of (suc k) lead (n / 10) ++ digit (n % 10) ∷ [] ≡ justified (suc (suc k)) (before ++ digits (suc (suc k)) n)
  more_digits k n h e =
      ap (λ (t : List ℕ). t ++ digit (n % 10) ∷ []) (columns_more k lead (n / 10) (omega arith) ∙ e)
      ∙ justified_more (suc k) (before ++ digits (suc k) (n / 10)) (digit (n % 10))
      ∙ ap (justified (suc (suc k)))
      (append_assoc before (digits (suc k) (n / 10)) (digit (n % 10) ∷ []) ∙ ap (λ (t : List ℕ). before ++ t) (sym (digits_more (suc k) n h)))

  columns_text : (k n : ℕ) → length before ≤ k → n < 10 ^ (suc k - length before) → columns_of k lead (n / 10) ++ digit (n % 10) ∷ [] ≡ justified (suc k) (before ++ digits (suc k) n)
  columns_text zero n h l =
      let e : suc zero - length before ≡ 1 = omega arith in
      one_digit zero n h (rw e at l)
  columns_text (suc k) n h l =
      dite (dec_lt n 10) (one_digit (suc k) n h)
      (λ more.
      let room : length before ≤ k = room_left k n h l more in
      let e : suc (suc k) - length before ≡ suc (suc k - length before) = omega arith in
      let small : n / 10 < 10 ^ (suc k - length before) = omega (arith, rw (e, pow-succ') at l) in
      more_digits k n (omega arith) (columns_text k (n / 10) room small))
    where
      room_left : (k n : ℕ) → length before ≤ suc k → n < 10 ^ (suc (suc k) - length before) → (n < 10 → ⊥) → length before ≤ k
      room_left k n h l more =
          dite (dec_le (length before) k) (λ r. r)
          (λ r.
          let e : suc (suc k) - length before ≡ 1 = omega arith in
          absurd (more (rw e at l)))

  number_text : (columns n : ℕ) → length before < columns → n < 10 ^ (columns - length before) → number_in columns lead n ≡ justified columns (before ++ digits columns n)
  number_text zero n h l = absurd (omega arith)
  number_text (suc k) n h l = let e : suc k - 1 ≡ k = omega arith in rw e (columns_text k n (omega arith) l)

minus_alone : (k : ℕ) → 1 ≤ k → columns_of k 45 0 ≡ justified k (45 ∷ [])
unfolding columns_of
minus_alone zero h = absurd (omega arith)
minus_alone (suc k) h =
    let e : suc k - 1 ≡ k = omega arith in
    rw (e, blanks k)

blank_alone : (k : ℕ) → 0 ≤ k → columns_of k 32 0 ≡ justified k []
blank_alone k h = let e : k - 0 ≡ k = omega arith in rw (e, append-nil, blanks k)

-- a number from 0 on
pub number_above : (columns n : ℕ) → 0 < columns → n < 10 ^ columns → justified columns (digits columns n) ≡ number_in columns 32 n
number_above columns n h l = let e : columns - 0 ≡ columns = omega arith in sym (number_text 32 [] blank_alone columns n h (rw e l))

pub field_above : (n : ℕ) → n ≤ greatest → field_of (pos n) ≡ number_in 10 32 n
unfolding field_of written
field_above n h = number_above 10 n (lit< tt) (omega arith)

pub field_below : (n : ℕ) → n < least_size → field_of (negsuc n) ≡ number_in 10 45 (suc n)
unfolding field_of written
field_below n h = sym (number_text 45 (45 ∷ []) minus_alone 10 (suc n) (lit< tt) (omega arith))

-- what a number in range is at most, by its two parts
pub in_range_lem : (z : ℤ) → is_writable z ≡ true → (up z ≤ greatest + down z) × (down z ≤ least_size + up z)
in_range_lem z h =
    let low = le_z (neg_ℤ (pos least_size)) z in
    let high = le_z z (pos greatest) in
    (omega (arith, le_true z (pos greatest) (and_right low high h)), omega (arith, le_true (neg_ℤ (pos least_size)) z (and_left low high h)))

-- the field of a number in range is its columns
pub field_columns : (z : ℤ) → is_writable z ≡ true → field_of z ≡ number_in 10 (lead_of z) (nat_abs z)
field_columns (pos n) h = field_above n (omega (arith, in_range_lem (pos n) h))
field_columns (negsuc n) h = field_below n (omega (arith, in_range_lem (negsuc n) h))

pub length-number : (columns lead n : ℕ) → 0 < columns → length (number_in columns lead n) ≡ columns
length-number columns lead n h = length-append (columns_of (columns - 1) lead (n / 10)) _ ∙ omega (arith, length-columns (columns - 1) lead (n / 10))

pub length_field : (z : ℤ) → is_writable z ≡ true → length (field_of z) ≡ 10
length_field z h = ap length (field_columns z h) ∙ length-number 10 (lead_of z) (nat_abs z) (lit< tt)

-- ---- columns put from the last to the first

-- columns and one more byte, which is set first
pub last_put :
    (out : List ℕ) (at k lead n b i : ℕ)
    → i ≡ at + k
    → i < length out
    → put out at (columns_of k lead n ++ b ∷ []) ≡ put (set out i b) at (columns_of k lead n)
last_put out at k lead n b i e h =
    let l : at + length (columns_of k lead n) ≡ i = omega (arith, length-columns k lead n) in
    put_last out at (columns_of k lead n) b (omega arith) ∙ ap (λ (j : ℕ). put (set out j b) at (columns_of k lead n)) l

-- the last of those that are left
pub next_put :
    (out : List ℕ) (at k lead n b lead' : ℕ)
    → 0 < k
    → at + (k - 1) < length out
    → b ≡ byte_of lead n
    → lead' ≡ lead_after lead n
    → put out at (columns_of k lead n) ≡ put (set out (at + (k - 1)) b) at (columns_of (k - 1) lead' (n / 10))
unfolding columns_of
next_put out at k lead n b lead' h l e f =
    let s : k ≡ suc (k - 1) = omega arith in
    ap (λ (i : ℕ). put out at (columns_of i lead n)) s
    ∙ ap₂ (λ (x y : ℕ). put out at (columns_of (k - 1) y (n / 10) ++ x ∷ [])) (sym e) (sym f)
    ∙ last_put out at (k - 1) lead' (n / 10) b (at + (k - 1)) refl l

pub none_put : (out : List ℕ) (at k lead n : ℕ) → k ≤ 0 → put out at (columns_of k lead n) ≡ out
unfolding columns_of
none_put out at zero lead n h = put_none out at
none_put out at (suc k) lead n h = absurd (omega arith)
