-- The round constants, by the register that gives their bits, and the step ι on whole lanes (FIPS 202, 3.2.5).
use Rattle.std.specs.Prelude.{ℕ, zero, suc, ◌+◌, ◌-◌, ◌*◌, ◌%◌, ◌^◌, cond, List, [], ◌∷◌, get_or, ◌==◌, bit_xor, slice_index, slice_index_or}
use Rattle.keccak.specs.State.{Rows, five}

-- one turn of the register R: R becomes 0 ‖ R, bit 8 of that is added to its bits 0, 4, 5 and 6, and its first eight bits stay
abbrev pub turned : List ℕ → List ℕ
turned r =
    let R : ℕ → ℕ = λ i. get_or r i 0 in
    R 7 ∷ R 0 ∷ R 1 ∷ R 2 ∷ (R 3 + R 7) % 2 ∷ (R 4 + R 7) % 2 ∷ (R 5 + R 7) % 2 ∷ R 6 ∷ []

-- the register after t turns from 10000000
abbrev pub register : ℕ → List ℕ
register zero = 1 ∷ 0 ∷ 0 ∷ 0 ∷ 0 ∷ 0 ∷ 0 ∷ 0 ∷ []
register (suc t) = turned (register t)

-- rc(t)
abbrev pub rc : ℕ → ℕ
rc t = slice_index (register (t % 255)) 0

-- RC[2^j - 1] = rc(j + 7i) for j from 0 to 6, and every other bit of RC is 0: here for j below n
abbrev pub bit_rc_below : ℕ → ℕ → ℕ → ℕ
bit_rc_below zero i z = 0
bit_rc_below (suc j) i z = cond (z == 2 ^ j - 1) (rc (j + 7 * i)) (bit_rc_below j i z)

-- bit z of the constant RC of round i
abbrev pub bit_rc : ℕ → ℕ → ℕ
bit_rc i z = bit_rc_below 7 i z

-- RC as a lane
abbrev pub lane_rc_below : ℕ → ℕ → ℕ
lane_rc_below zero i = 0
lane_rc_below (suc j) i = lane_rc_below j i + rc (j + 7 * i) * 2 ^ (2 ^ j - 1)

abbrev pub lane_rc : ℕ → ℕ
lane_rc i = lane_rc_below 7 i

-- the first row of a state with a constant added to its first lane
abbrev pub iota_row_of : List ℕ → ℕ → List ℕ
iota_row_of r constant = five (λ x. cond (x == 0) (bit_xor (slice_index r x) constant) (slice_index r x))

abbrev pub iota_of : Rows → ℕ → Rows
iota_of a i = five (λ y. cond (y == 0) (iota_row_of (slice_index_or a y []) (lane_rc i)) (slice_index_or a y []))
