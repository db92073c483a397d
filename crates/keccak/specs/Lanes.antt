-- The steps θ, ρ, π and χ on whole lanes (FIPS 202, 3.2.1 to 3.2.4). `Bits` has the standard's own formulas, bit by bit.
use Rattle.std.specs.Prelude.{ℕ, zero, suc, ◌+◌, ◌-◌, ◌*◌, ◌/◌, ◌%◌, ◌^◌, cond, ◌&&◌, List, [], ◌==◌, bit_and, bit_or, bit_xor, slice_index, slice_index_or}
use Rattle.keccak.specs.State.{Rows, lane, five, rows}

-- a lane turned by k places toward its high end
abbrev pub rotated : ℕ → ℕ → ℕ
rotated v k = bit_or ((v * 2 ^ (k % 64)) % 2 ^ 64) (v / 2 ^ ((64 - k % 64) % 64))

-- 3.2.1: the parity of a column, and what θ adds to the lanes of a column
abbrev pub parity_c : Rows → ℕ → ℕ
parity_c a x = bit_xor (bit_xor (bit_xor (bit_xor (lane a x 0) (lane a x 1)) (lane a x 2)) (lane a x 3)) (lane a x 4)

abbrev pub effect_d : Rows → ℕ → ℕ
effect_d a x = bit_xor (parity_c a ((x + 4) % 5)) (rotated (parity_c a ((x + 1) % 5)) 1)

abbrev pub theta_of : Rows → Rows
theta_of a = rows (λ x y. bit_xor (lane a x y) (effect_d a x))

-- 3.2.2: a walk of 24 places from (1, 0), each next of (u, v) being (v, 2u + 3v); place t has the offset (t + 1)(t + 2) / 2, and (0, 0) has none
abbrev pub offset_from : ℕ → ℕ → ℕ → ℕ → ℕ → ℕ → ℕ
offset_from zero t u v x y = 0
offset_from (suc left) t u v x y = cond (u == x && v == y) (((t + 1) * (t + 2)) / 2) (offset_from left (t + 1) v ((2 * u + 3 * v) % 5) x y)

abbrev pub offset : ℕ → ℕ → ℕ
offset x y = offset_from 24 0 1 0 x y

abbrev pub rho_of : Rows → Rows
rho_of a = rows (λ x y. rotated (lane a x y) (offset x y))

-- 3.2.3
abbrev pub pi_of : Rows → Rows
pi_of a = rows (λ x y. lane a ((x + 3 * y) % 5) x)

-- 3.2.4: every bit of a lane turned over
abbrev pub flipped : ℕ → ℕ
flipped v = 2 ^ 64 - 1 - v

abbrev pub chi_row_of : List ℕ → List ℕ
chi_row_of r = five (λ x. bit_xor (slice_index r x) (bit_and (flipped (slice_index r ((x + 1) % 5))) (slice_index r ((x + 2) % 5))))

abbrev pub chi_of : Rows → Rows
chi_of a = five (λ y. chi_row_of (slice_index_or a y []))
