-- A square of side 2 ^ (k + 1) and its four quarters: sides, how many cells, and which quarter a number of the curve lies in.
-- Assumes nothing.
use mathlib.Core.Path.{◌≡◌, ◌∙◌}
use Prim.Native.Nat.{ℕ, suc, ◌+◌, ◌*◌, ◌/◌, ◌%◌, ◌^◌, ◌≤◌, ◌<◌}
use native.Mathlib.Nat.{div-add-mod, suc-mul, mul-le-mul_right, mul-le-mul, mul_comm, add-mul, mul-add, div-eq_of_lt, mod-eq_of_lt, lt_of_mul-lt-mul_right, mul-add-div_right, mul-add-mod_self_right}
use native.Mathlib.Omega.{arith}
use lib.Pow.{pow_pos}
use Rattle.shapes.specs.Claims.{cell_count}

pub square_above_0 : (k : ℕ) → 0 < cell_count k
square_above_0 k =
    let p = pow_pos k in
    let one : 1 ≤ 2 ^ k = omega arith in
    omega (arith, mul-le-mul one one)

pub twice : (k : ℕ) → 2 ^ suc k ≡ 2 ^ k + 2 ^ k
twice k = omega arith

pub four_quarters : (k : ℕ) → cell_count (suc k) ≡ 4 * cell_count k
four_quarters k =
    rw (twice k) (let s = 2 ^ k in let a = add-mul s s (s + s) in let b = mul-add s s s in omega arith)

-- ---- a number by its quarter, of z numbers, and its number in it

pub quarter_and_rest : (n z : ℕ) → n ≡ n / z * z + n % z
quarter_and_rest n z = let e = div-add-mod n z in omega (arith, mul_comm z (n / z))

pub quarter_below : (n z : ℕ) → n < 4 * z → n / z < 4
quarter_below n z h =
    let e = quarter_and_rest n z in
    let few : n / z * z < 4 * z = omega arith in
    lt_of_mul-lt-mul_right z few

pub quarter_is : (j z r : ℕ) → r < z → (j * z + r) / z ≡ j
quarter_is j z r h =
    let p : 0 < z = omega arith in
    let e = div-eq_of_lt h in
    mul-add-div_right p j r ∙ omega arith

pub rest_is : (j z r : ℕ) → r < z → (j * z + r) % z ≡ r
rest_is j z r h = mul-add-mod_self_right j z r ∙ mod-eq_of_lt h

-- one of m parts of z numbers lies within them
pub part_within : (i m z : ℕ) → i < m → i * z + z ≤ m * z
part_within i m z h = rw (← suc-mul i z) (mul-le-mul_right z h)
