-- One number, written and read. A written field is read to its number, and a field that is read to a number is the one that the number
-- writes. Of the bytes, 32 is a blank, 45 is "-", and 48 to 57 are the digits.
-- Assumes nothing.
use mathlib.Core.Path.{◌≡◌, refl, sym, ap, ap₂, ◌∙◌, subst}
use mathlib.Core.Bool.{Bool, true, false, cond, ◌&&◌}
use mathlib.Core.List.{List, [], ◌∷◌, ◌++◌}
use mathlib.Core.Logic.{dite}
use Prim.Native.Nat.{ℕ, zero, suc, ◌+◌, ◌-◌, ◌*◌, ◌/◌, ◌%◌, ◌^◌, ◌≤◌, ◌<◌}
use native.Mathlib.Nat.{pow-succ', one-le-pow}
use native.Mathlib.Decide.{dec_le, ℕ_discrete}
use native.Mathlib.Omega.{arith}
use borrow.Author.Tests.{leb-true, le-leb, eqb-true, eqb-false, eq-eqb, ne_eqb}
use lib.Dec.{eqb, leb, lit<, lit≤}
use lib.IntN.{ℤ, pos, negsuc}
use lib.ListN.{length, get_or, take, drop, length-drop}
use lib.Seq.{take-suc, get_or-drop}
use Rattle.std.specs.Prelude.{Some, None}
use Rattle.ints.proofs.Truth.{and_left, and_right}
use Rattle.fields.specs.declared.reading.Seen.{Seen}
use Rattle.fields.specs.declared.reading.Seen.TheVariants.{Blanks, Minus, Zero, Digits, Other}
use Rattle.fields.specs.Fields.{digit, digits, justified, field_of, is_writable, greatest, least_size}
use Rattle.fields.specs.Reading.{size_seen, with_digit, after, number_of, seen_at, field_at, unsigned_of, unsigned_at}
use Rattle.fields.specs.Writing.{columns_of, number_in}
use Rattle.fields.proofs.ReadingLaws.{seen_size}
use Rattle.fields.proofs.WritingLaws.{columns_more, number_above, field_above, field_below, in_range_lem}

-- what stands before the digits of a number, and what is seen of that alone
abbrev lead_for : Bool → ℕ
lead_for false = 32
lead_for true = 45

abbrev alone : Bool → Seen
alone false = Blanks
alone true = Minus

-- ---- bytes read one after the other

unfoldable read_all : Seen → List ℕ → Seen
read_all s [] = s
read_all s (b ∷ bs) = read_all (after s b) bs

read_append : (s : Seen) (xs : List ℕ) (b : ℕ) → read_all s (xs ++ b ∷ []) ≡ after (read_all s xs) b
unfolding read_all
read_append s [] b = refl
read_append s (x ∷ xs) b = read_append (after s x) xs b

-- the k bytes from a place on, and one byte more
abbrev pub part : List ℕ → ℕ → ℕ → List ℕ
part line at k = take k (drop at line)

part_more : (line : List ℕ) (at k : ℕ) → at + suc k ≤ length line → part line at (suc k) ≡ part line at k ++ get_or line (at + k) 0 ∷ []
part_more line at k h =
    take-suc (drop at line) k 0 (omega (arith, length-drop at line))
    ∙ ap (λ (b : ℕ). part line at k ++ b ∷ []) (get_or-drop at line k 0)

seen_is : (line : List ℕ) (at k : ℕ) → at + k ≤ length line → seen_at line at k ≡ read_all Blanks (part line at k)
unfolding seen_at read_all
seen_is line at zero h = refl
seen_is line at (suc k) h =
    ap (λ (s : Seen). after s (get_or line (at + k) 0)) (seen_is line at k (omega arith))
    ∙ sym (ap (read_all Blanks) (part_more line at k h) ∙ read_append Blanks (part line at k) (get_or line (at + k) 0))

-- ---- a written number is read

-- what is seen of the columns of n
abbrev seen_of : Bool → ℕ → Seen
seen_of negative n = cond (eqb n 0) (alone negative) (Digits negative n)

digit_read : (negative : Bool) (m d : ℕ) → d < 10 → with_digit negative m (digit d) ≡ Digits negative (10 * m + d)
unfolding with_digit
digit_read negative m d h =
    let e : 48 + d - 48 ≡ d = omega arith in
    simp (le-leb 48 (48 + d) (omega arith), le-leb (48 + d) 57 (omega arith), e)

first_read : (negative : Bool) (d : ℕ) → 0 < d → d < 10 → after (alone negative) (digit d) ≡ Digits negative d
unfolding after
first_read false d h l =
    let e : 10 * 0 + d ≡ d = omega arith in
    simp
    (ne_eqb (48 + d) 32 (λ q. omega arith), ne_eqb (48 + d) 45 (λ q. omega arith), ne_eqb (48 + d) 48 (λ q. omega arith), digit_read false 0 d l, e)
first_read true d h l =
    let e : 10 * 0 + d ≡ d = omega arith in
    simp (ne_eqb (48 + d) 48 (λ q. omega arith), digit_read true 0 d l, e)

next_read : (negative : Bool) (n : ℕ) → 0 < n → after (seen_of negative (n / 10)) (digit (n % 10)) ≡ Digits negative n
unfolding after
next_read negative n h =
    dite (ℕ_discrete (n / 10) 0)
    (λ e.
    let m : n % 10 ≡ n = omega arith in
    rw (eq-eqb _ _ e, m) (first_read negative n h (omega arith)))
    (λ e.
    let m : 10 * (n / 10) + n % 10 ≡ n = omega arith in
    rw (ne_eqb _ _ e) (digit_read negative (n / 10) (n % 10) (omega arith) ∙ ap (Digits negative) m))

-- the columns that it takes
abbrev length_of : Bool → ℕ
length_of false = 0
length_of true = 1

lead_read : (negative : Bool) → after Blanks (lead_for negative) ≡ alone negative
unfolding after
lead_read false = refl
lead_read true = refl

more_read :
    (negative : Bool) (k n : ℕ)
    → 0 < n
    → read_all Blanks (columns_of k (lead_for negative) (n / 10)) ≡ seen_of negative (n / 10)
    → read_all Blanks (columns_of (suc k) (lead_for negative) n) ≡ seen_of negative n
more_read negative k n h e =
    ap (read_all Blanks) (columns_more k (lead_for negative) n h)
    ∙ read_append Blanks (columns_of k (lead_for negative) (n / 10)) (digit (n % 10))
    ∙ ap (λ (s : Seen). after s (digit (n % 10))) e
    ∙ next_read negative n h
    ∙ simp (ne_eqb n 0 (λ q. omega arith))

columns_read : (negative : Bool) (k n : ℕ) → length_of negative ≤ k → n < 10 ^ (k - length_of negative) → read_all Blanks (columns_of k (lead_for negative) n) ≡ seen_of negative n
unfolding columns_of read_all
columns_read false zero n h l = let e : n ≡ 0 = omega arith in rw e
columns_read true zero n h l = absurd (omega arith)
columns_read negative (suc k) n h l =
    dite (ℕ_discrete n 0)
    (λ e.
    rw e
    (read_append Blanks (columns_of k 32 0) (lead_for negative)
    ∙ ap (λ (s : Seen). after s (lead_for negative)) (columns_read false k 0 (omega arith) (one-le-pow (k - 0) 10 (lit< tt)))
    ∙ lead_read negative))
    (λ e.
    let room : length_of negative ≤ k = room_left (length_of negative) h l e in
    let q : suc k - length_of negative ≡ suc (k - length_of negative) = omega arith in
    more_read negative k n (omega arith)
    (columns_read negative k (n / 10) room (omega (arith, rw (q, pow-succ') at l))))
  where
    room_left : (m : ℕ) → m ≤ suc k → n < 10 ^ (suc k - m) → (n ≡ 0 → ⊥) → m ≤ k
    room_left m h l e =
        dite (dec_le m k) (λ r. r)
        (λ r.
        let q : suc k - m ≡ 0 = omega arith in
        let small : n < 10 ^ 0 = rw q at l in
        absurd (e (omega arith)))

-- ten columns, of which the last is a digit
ten_read : (negative : Bool) (n : ℕ) → 0 < n → n / 10 < 10 ^ (9 - length_of negative) → read_all Blanks (number_in 10 (lead_for negative) n) ≡ Digits negative n
ten_read negative n h l =
    read_append Blanks (columns_of 9 (lead_for negative) (n / 10)) (digit (n % 10))
    ∙ ap (λ (s : Seen). after s (digit (n % 10))) (columns_read negative 9 (n / 10) (room negative) l)
    ∙ next_read negative n h
  where
    room : (t : Bool) → length_of t ≤ 9
    room false = lit≤ tt
    room true = lit≤ tt

zero_read : read_all Blanks (number_in 10 32 0) ≡ Zero
unfolding columns_of read_all after
zero_read = refl

field_read : (z : ℤ) → is_writable z ≡ true → number_of (read_all Blanks (field_of z)) ≡ Some z
unfolding number_of
field_read (pos zero) h = ap number_of (ap (read_all Blanks) (field_above 0 (lit≤ tt)) ∙ zero_read)
field_read (pos (suc n)) h =
    let l : suc n ≤ greatest = omega (arith, in_range_lem (pos (suc n)) h) in
    ap number_of (ap (read_all Blanks) (field_above (suc n) l) ∙ ten_read false (suc n) (omega arith) (omega arith))
    ∙ simp (le-leb (suc n) greatest l)
field_read (negsuc n) h =
    let l : suc n ≤ least_size = omega (arith, in_range_lem (negsuc n) h) in
    ap number_of (ap (read_all Blanks) (field_below n (omega arith)) ∙ ten_read true (suc n) (omega arith) (omega arith))
    ∙ simp (le-leb (suc n) least_size l)

-- a written field in a line is read to its number
pub written_field : (line : List ℕ) (at : ℕ) (z : ℤ) → at + 10 ≤ length line → is_writable z ≡ true → part line at 10 ≡ field_of z → field_at line at ≡ Some z
written_field line at z h w e =
    ap number_of (seen_is line at 10 h ∙ ap (read_all Blanks) e) ∙ field_read z w

-- a number from 0 on in ten columns
unsigned_read : (n : ℕ) → n < 10 ^ 10 → unsigned_of (read_all Blanks (justified 10 (digits 10 n))) ≡ Some n
unfolding unsigned_of
unsigned_read zero h = ap unsigned_of (ap (read_all Blanks) (number_above 10 0 (lit< tt) h) ∙ zero_read)
unsigned_read (suc n) h =
    ap unsigned_of (ap (read_all Blanks) (number_above 10 (suc n) (lit< tt) h) ∙ ten_read false (suc n) (omega arith) (omega arith))

pub written_unsigned :
    (line : List ℕ) (at n : ℕ) → at + 10 ≤ length line → n < 10 ^ 10 → part line at 10 ≡ justified 10 (digits 10 n) → unsigned_at line at ≡ Some n
written_unsigned line at n h l e =
    ap unsigned_of (seen_is line at 10 h ∙ ap (read_all Blanks) e) ∙ unsigned_read n l

-- ---- what is read to a number is the number as it is written

-- the bytes of which something is seen
abbrev Bytes : Seen → ℕ → List ℕ → Type 0
Bytes Blanks k t = t ≡ columns_of k 32 0
Bytes Minus k t = t ≡ columns_of k 45 0
Bytes Zero k t = t ≡ columns_of (k - 1) 32 0 ++ 48 ∷ []
Bytes (Digits negative n) k t = (0 < n) × (t ≡ columns_of k (lead_for negative) n)
Bytes Other k t = Unit {0}

digit_bytes : (negative : Bool) (m b k : ℕ) (t : List ℕ) → t ≡ columns_of k (lead_for negative) m → (m ≡ 0 → b ≡ 48 → ⊥) → Bytes (with_digit negative m b) (suc k) (t ++ b ∷ [])
unfolding with_digit
digit_bytes negative m b k t e h = go (leb 48 b && leb b 57) refl
  where
    go : (d : Bool) → leb 48 b && leb b 57 ≡ d → Bytes (cond (leb 48 b && leb b 57) (Digits negative (10 * m + (b - 48))) Other) (suc k) (t ++ b ∷ [])
    go false d = rw d tt
    go true d =
        let low = leb-true 48 b (and_left (leb 48 b) (leb b 57) d) in
        let high = leb-true b 57 (and_right (leb 48 b) (leb b 57) d) in
        let n = 10 * m + (b - 48) in
        let positive : 0 < n = above low in
        let tens : n / 10 ≡ m = omega arith in
        let ones : 48 + n % 10 ≡ b = omega arith in
        rw d (
          positive,
          ap₂ (λ (s : List ℕ) (x : ℕ). s ++ x ∷ []) (e ∙ ap (columns_of k (lead_for negative)) (sym tens)) (sym ones)
              ∙ sym (columns_more k (lead_for negative) n positive),
        )
      where
        above : 48 ≤ b → 0 < 10 * m + (b - 48)
        above low =
            dite (ℕ_discrete m 0) (λ z. dite (ℕ_discrete b 48) (λ q. absurd (h z q)) (λ q. omega arith)) (λ z. omega arith)

-- one of two, by a test of a byte
pick : (b x k : ℕ) (t : List ℕ) (p q : Seen) → (b ≡ x → Bytes p k t) → ((b ≡ x → ⊥) → Bytes q k t) → Bytes (cond (eqb b x) p q) k t
pick b x k t p q f g = go (eqb b x) refl
  where
    go : (d : Bool) → eqb b x ≡ d → Bytes (cond (eqb b x) p q) k t
    go true d = rw d (f (eqb-true b x d))
    go false d = rw d (g (eqb-false b x d))

next_bytes : (s : Seen) (k b : ℕ) (t : List ℕ) → Bytes s k t → Bytes (after s b) (suc k) (t ++ b ∷ [])
unfolding after columns_of
next_bytes Blanks k b t e =
    pick b 32 (suc k) (t ++ b ∷ []) _ _ (λ q. rw (e, q))
    (λ _. pick b 45 (suc k) (t ++ b ∷ []) _ _ (λ q. rw (e, q))
    (λ _. pick b 48 (suc k) (t ++ b ∷ []) _ _
    (λ q. let z : suc k - 1 ≡ k = omega arith in rw (z, e, q))
    (λ q. digit_bytes false 0 b k t e (λ _. q))))
next_bytes Minus k b t e = pick b 48 (suc k) (t ++ b ∷ []) _ _ (λ _. tt) (λ q. digit_bytes true 0 b k t e (λ _. q))
next_bytes Zero k b t e = tt
next_bytes (Digits negative n) k b t e = digit_bytes negative n b k t e.1 (λ z. absurd (omega arith))
next_bytes Other k b t e = tt

bytes_seen : (line : List ℕ) (at k : ℕ) → at + k ≤ length line → Bytes (seen_at line at k) k (part line at k)
unfolding seen_at columns_of
bytes_seen line at zero h = refl
bytes_seen line at (suc k) h =
    subst (Bytes (seen_at line at (suc k)) (suc k)) (sym (part_more line at k h))
    (next_bytes (seen_at line at k) k (get_or line (at + k) 0) (part line at k) (bytes_seen line at k (omega arith)))

-- a number under a test
tested : {A : Type 0} (test : Bool) (x : A) {y : A} → cond test (Some x) None ≡ Some y → (test ≡ true) × (x ≡ y)
tested true x e = (refl, cc)
tested false x e = cc

bytes_field : (s : Seen) (t : List ℕ) (z : ℤ) → Bytes s 10 t → number_of s ≡ Some z → t ≡ field_of z
unfolding number_of
bytes_field Blanks t z e h = cc
bytes_field Minus t z e h = cc
bytes_field Zero t z e h =
    let is : pos 0 ≡ z = cc in
    e ∙ sym (field_above 0 (lit≤ tt)) ∙ ap field_of is
bytes_field (Digits false n) t z e h =
    let is = tested (leb n greatest) (pos n) h in
    e.1 ∙ columns_more 9 32 n e.0 ∙ sym (field_above n (leb-true n greatest is.0)) ∙ ap field_of is.1
bytes_field (Digits true zero) t z e h = absurd (omega (arith, e.0))
bytes_field (Digits true (suc n)) t z e h =
    let is = tested (leb (suc n) least_size) (negsuc n) h in
    e.1 ∙ columns_more 9 45 (suc n) (omega arith) ∙ sym (field_below n (omega (arith, leb-true (suc n) least_size is.0))) ∙ ap field_of is.1
bytes_field Other t z e h = cc

-- a field in a line that is read to a number is that number's
pub read_field_is : (line : List ℕ) (at : ℕ) (z : ℤ) → at + 10 ≤ length line → field_at line at ≡ Some z → part line at 10 ≡ field_of z
read_field_is line at z h e = bytes_field (seen_at line at 10) (part line at 10) z (bytes_seen line at 10 h) e

bytes_unsigned : (s : Seen) (t : List ℕ) (m : ℕ) → size_seen s < 10 ^ 10 → Bytes s 10 t → unsigned_of s ≡ Some m → t ≡ justified 10 (digits 10 m)
unfolding unsigned_of
bytes_unsigned Blanks t m l e h = cc
bytes_unsigned Minus t m l e h = cc
bytes_unsigned Zero t m l e h =
    let is : 0 ≡ m = cc in
    e ∙ sym (number_above 10 0 (lit< tt) (lit< tt)) ∙ ap (λ (i : ℕ). justified 10 (digits 10 i)) is
bytes_unsigned (Digits false n) t m l e h =
    let is : n ≡ m = cc in
    e.1 ∙ columns_more 9 32 n e.0 ∙ sym (number_above 10 n (lit< tt) l) ∙ ap (λ (i : ℕ). justified 10 (digits 10 i)) is
bytes_unsigned (Digits true n) t m l e h = cc
bytes_unsigned Other t m l e h = cc

-- the same of a number from 0 on
pub read_unsigned_is : (line : List ℕ) (at m : ℕ) → at + 10 ≤ length line → unsigned_at line at ≡ Some m → part line at 10 ≡ justified 10 (digits 10 m)
read_unsigned_is line at m h e =
    bytes_unsigned (seen_at line at 10) (part line at 10) m (seen_size line at 10) (bytes_seen line at 10 h) e
