-- The steps of Keccak-f[1600] as FIPS 202 states them, bit by bit (3.2): A' is `r`, A is `a`.
use Rattle.std.specs.Prelude.{◌≡◌, ℕ, zero, suc, ◌+◌, ◌-◌, ◌*◌, ◌%◌, ◌<◌, ◌⊎◌}
use Rattle.keccak.specs.State.{Rows, bit}
use Rattle.keccak.specs.Lanes.{offset}
use Rattle.keccak.specs.Constants.{bit_rc}

infixl 65 ◌⊕◌
-- the sum of two bits
abbrev pub ◌⊕◌ : ℕ → ℕ → ℕ
p ⊕ q = (p + q) % 2

-- the places of a state
abbrev pub EachBit : (ℕ → ℕ → ℕ → Type 0) → Type 0
EachBit P = (x y z : ℕ) → x < 5 → y < 5 → z < 64 → P x y z

-- (z - k) mod 64
abbrev pub back : ℕ → ℕ → ℕ
back z k = (z + (64 - k % 64)) % 64

-- θ, 3.2.1: C[x, z] is the parity of a column
abbrev pub bit_c : Rows → ℕ → ℕ → ℕ
bit_c a x z = bit a x 0 z ⊕ bit a x 1 z ⊕ bit a x 2 z ⊕ bit a x 3 z ⊕ bit a x 4 z

abbrev pub bit_d : Rows → ℕ → ℕ → ℕ
bit_d a x z = bit_c a ((x + 4) % 5) z ⊕ bit_c a ((x + 1) % 5) (back z 1)

abbrev pub ThetaBits : Rows → Rows → Type 0
ThetaBits a r = EachBit (λ x y z. bit r x y z ≡ bit a x y z ⊕ bit_d a x z)

-- ρ, 3.2.2
abbrev pub RhoBits : Rows → Rows → Type 0
RhoBits a r = EachBit (λ x y z. bit r x y z ≡ bit a x y (back z (offset x y)))

-- π, 3.2.3
abbrev pub PiBits : Rows → Rows → Type 0
PiBits a r = EachBit (λ x y z. bit r x y z ≡ bit a ((x + 3 * y) % 5) x z)

-- χ, 3.2.4
abbrev pub ChiBits : Rows → Rows → Type 0
ChiBits a r = EachBit (λ x y z. bit r x y z ≡ bit a x y z ⊕ ((bit a ((x + 1) % 5) y z ⊕ 1) * bit a ((x + 2) % 5) y z))

-- ι, 3.2.5: the lane (0, 0) has the constant of round i added, and every other lane stays
pub record IotaBits (a : Rows) (i : ℕ) (r : Rows) : Type 0 where
  pub first : (z : ℕ) → z < 64 → bit r 0 0 z ≡ bit a 0 0 z ⊕ bit_rc i z
  pub others : EachBit (λ x y z. (0 < x) ⊎ (0 < y) → bit r x y z ≡ bit a x y z)

-- a round, 3.3: the five steps, with the states between them
pub record RoundBits (a : Rows) (i : ℕ) (r : Rows) : Type 0 where
  pub t : Rows
  pub u : Rows
  pub v : Rows
  pub w : Rows
  pub theta : ThetaBits a t
  pub rho : RhoBits t u
  pub pi : PiBits u v
  pub chi : ChiBits v w
  pub iota : IotaBits w i r

-- the rounds 0 to n - 1, one after another
unfoldable pub RoundsBits : ℕ → Rows → Rows → Type 0
RoundsBits zero a r = r ≡ a
RoundsBits (suc n) a r = (s : Rows) × (RoundsBits n a s) × (RoundBits s n r)
