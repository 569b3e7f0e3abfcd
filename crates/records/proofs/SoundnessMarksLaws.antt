-- The laws of the marks of ids, eight to a byte: the mark that is set is set, and no other changes. A bit of a byte is one of its binary digits.
-- Assumes nothing.
use mathlib.Core.Path.{◌≡◌, sym, ap, ◌∙◌}
use mathlib.Core.Bool.{true, false, not}
use mathlib.Core.List.{List}
use mathlib.Core.Logic.{dite, ◌≢◌}
use Prim.Native.Nat.{ℕ, ◌+◌, ◌*◌, ◌-◌, ◌/◌, ◌%◌, ◌^◌, max, ◌<◌}
use native.Mathlib.Decide.{ℕ_discrete, dec_lt}
use native.Mathlib.Omega.{arith}
use borrow.Author.Tests.{eq-eqb, ne_eqb}
use lib.Arith.{digits_div}
use lib.Bits.{bit_and, bit_or, and_zero_l, and_high, or_step, or_shr}
use lib.Dec.{eqb}
use lib.ListN.{length, get_or, replicate}
use lib.Pow.{pow_pos, pow-lt, pow-add, shl-shr, high_ones}
use lib.Seq.{get_or-set_same, get_or-set_other}
use Rattle.ints.proofs.Marks.{no_marks}
use Rattle.records.specs.Needs.{mark_bit, is_marked, with_mark}

-- ---- binary digits

abbrev digit_of : ℕ → ℕ → ℕ
digit_of w k = w / 2 ^ k % 2

bit_is : (w k : ℕ) → bit_and w (2 ^ k) ≡ digit_of w k * 2 ^ k
bit_is w k =
    let e : 2 ^ (1 + k) - 2 ^ k ≡ 2 ^ k = high_ones 1 k ∙ omega arith in
    ap (bit_and w) (sym e) ∙ and_high w 1 k

last_of_either : (x y : ℕ) → bit_or x y % 2 ≡ max (x % 2) (y % 2)
last_of_either x y = let s = or_step x y in omega arith

of_either : (x y k : ℕ) → digit_of (bit_or x y) k ≡ max (digit_of x k) (digit_of y k)
of_either x y k = ap (λ (n : ℕ). n % 2) (or_shr x y k) ∙ last_of_either (x / 2 ^ k) (y / 2 ^ k)

own_digit : (k : ℕ) → digit_of (2 ^ k) k ≡ 1
own_digit k =
    let e : 1 * 2 ^ k ≡ 2 ^ k = omega arith in
    ap (λ (n : ℕ). n % 2) (ap (λ (n : ℕ). n / 2 ^ k) (sym e) ∙ shl-shr 1 k)

other_digit : (i k : ℕ) → i ≢ k → digit_of (2 ^ i) k ≡ 0
other_digit i k n =
    dite (dec_lt i k)
    (λ h. let e : 0 * 2 ^ k + 2 ^ i ≡ 2 ^ i = omega arith in ap (λ (m : ℕ). m % 2) (ap (λ (m : ℕ). m / 2 ^ k) (sym e) ∙ digits_div 0 (pow-lt h)))
    (λ h.
    let d = i - k - 1 in
    let e : 1 + d + k ≡ i = omega arith in
    let power = ap (λ (m : ℕ). 2 ^ m) (sym e) ∙ pow-add 2 (1 + d) k in
    let even = pow-add 2 1 d in
    ap (λ (m : ℕ). m % 2) (ap (λ (m : ℕ). m / 2 ^ k) power ∙ shl-shr (2 ^ (1 + d)) k ∙ even) ∙ omega arith)

-- ---- marks

pub none_marked_lem : (m id : ℕ) → is_marked (replicate m 0) id ≡ false
none_marked_lem m id = ap not (eq-eqb (bit_and (get_or (replicate m 0) (id / 8) 0) (mark_bit id)) 0 (ap (λ (w : ℕ). bit_and w (mark_bit id)) (no_marks m (id / 8)) ∙ and_zero_l (mark_bit id)))

set_bit : (w k : ℕ) → eqb (bit_and (bit_or w (2 ^ k)) (2 ^ k)) 0 ≡ false
set_bit w k =
    let d = of_either w (2 ^ k) k in
    let o = own_digit k in
    let one : digit_of (bit_or w (2 ^ k)) k ≡ 1 = omega arith in
    let p = pow_pos k in
    let b : bit_and (bit_or w (2 ^ k)) (2 ^ k) ≡ 1 * 2 ^ k = bit_is (bit_or w (2 ^ k)) k ∙ ap (λ (n : ℕ). n * 2 ^ k) one in
    ne_eqb (bit_and (bit_or w (2 ^ k)) (2 ^ k)) 0 (λ z. omega arith)

kept_bit : (w i k : ℕ) → i ≢ k → bit_and (bit_or w (2 ^ i)) (2 ^ k) ≡ bit_and w (2 ^ k)
kept_bit w i k n =
    let d = of_either w (2 ^ i) k in
    let o = other_digit i k n in
    let same : digit_of (bit_or w (2 ^ i)) k ≡ digit_of w k = omega arith in
    bit_is (bit_or w (2 ^ i)) k ∙ ap (λ (x : ℕ). x * 2 ^ k) same ∙ sym (bit_is w k)

module _ (marks : List ℕ) (id : ℕ) (fits : id / 8 < length marks) where
  abbrev byte : ℕ
  byte = bit_or (get_or marks (id / 8) 0) (mark_bit id)

  there : get_or (with_mark marks id) (id / 8) 0 ≡ byte
  there = get_or-set_same marks (id / 8) byte 0 fits

  pub mark_set : is_marked (with_mark marks id) id ≡ true
  mark_set = ap (λ (w : ℕ). not (eqb (bit_and w (mark_bit id)) 0)) there ∙ ap not (set_bit (get_or marks (id / 8) 0) (id % 8))

  pub mark_kept : (v : ℕ) → v ≢ id → is_marked (with_mark marks id) v ≡ is_marked marks v
  mark_kept v n =
      ap (λ (m : ℕ). not (eqb m 0))
      (dite (ℕ_discrete (v / 8) (id / 8))
      (λ e.
      let k : bit_and byte (mark_bit v) ≡ bit_and (get_or marks (id / 8) 0) (mark_bit v) = kept_bit (get_or marks (id / 8) 0) (id % 8) (v % 8) (λ x. n (omega arith)) in
      ap (λ (j : ℕ). bit_and (get_or (with_mark marks id) j 0) (mark_bit v)) e
      ∙ ap (λ (w : ℕ). bit_and w (mark_bit v)) there
      ∙ k
      ∙ ap (λ (j : ℕ). bit_and (get_or marks j 0) (mark_bit v)) (sym e))
      (λ e. ap (λ (w : ℕ). bit_and w (mark_bit v)) (get_or-set_other marks (id / 8) (v / 8) byte 0 e)))
