-- How many coefficients an equation has.
use Rattle.std.proofs.Common.{◌≡◌, ℕ, zero, suc, ◌+◌, ◌-◌, ◌*◌, ◌/◌, ◌≤◌, refl, arith}
use Rattle.std.proofs.lemmas.Nat.{mul-le}
use Rattle.field.proofs.Pairs.{next_square}
use Rattle.algebra.specs.Quad.{row, size}

pub row_zero : (n : ℕ) → row n 0 ≡ 0
unfolding row
row_zero n = refl

pub row_next : (n i : ℕ) → row n (suc i) ≡ row n i + (n - i)
unfolding row
row_next n i = refl

pub row_suc : (n i : ℕ) → row (suc n) (suc i) ≡ suc n + row n i
row_suc n zero = omega (arith, row_next (suc n) 0, row_zero (suc n), row_zero n)
row_suc n (suc i) = omega (arith, row_next (suc n) (suc i), row_next n i, row_suc n i)

pub row_square : (n : ℕ) → 2 * row n n ≡ n * (n + 1)
row_square zero = omega (arith, row_zero 0)
row_square (suc n) = omega (arith, row_suc n n, next_square n, row_square n)

pub row_half : (n : ℕ) → row n n ≡ n * (n + 1) / 2
row_half n = omega (arith, row_square n)

-- the rows, and then a coefficient for each variable
pub size_rows : (n : ℕ) → size n ≡ row n n + n
size_rows n = omega (arith, row_square n)

pub row_few : (n : ℕ) → n ≤ 64 → row n n ≤ 2080
row_few n h =
    let k : n + 1 ≤ 65 = omega arith in
    omega (arith, row_square n, mul-le n (n + 1) 64 65 h k)

pub size_few : (n : ℕ) → n ≤ 64 → size n ≤ 2144
size_few n h = omega (arith, size_rows n, row_few n h)
