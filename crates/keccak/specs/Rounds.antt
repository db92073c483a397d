-- A round of Keccak-f[1600], and its 24 rounds (FIPS 202, 3.3 and 3.4).
use Rattle.std.specs.Prelude.{ℕ, zero, suc}
use Rattle.keccak.specs.State.{Rows}
use Rattle.keccak.specs.Lanes.{theta_of, rho_of, pi_of, chi_of}
use Rattle.keccak.specs.Constants.{iota_of}

-- Rnd(A, i) = ι(χ(π(ρ(θ(A)))), i)
unfoldable pub round_of : Rows → ℕ → Rows
round_of a i = iota_of (chi_of (pi_of (rho_of (theta_of a)))) i

-- the rounds 0 to n - 1
unfoldable pub rounds : ℕ → Rows → Rows
rounds zero a = a
rounds (suc n) a = round_of (rounds n a) n

-- Keccak-f[1600]
abbrev pub keccak_f : Rows → Rows
keccak_f a = rounds 24 a
