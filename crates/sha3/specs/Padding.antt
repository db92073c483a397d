-- The padding of a message: on bits as FIPS 202 has it (5.1, 6.1, 6.2), and on bytes as it is computed (B.2).
use Rattle.std.specs.Prelude.{◌≡◌, ℕ, zero, suc, ◌+◌, ◌-◌, ◌*◌, ◌/◌, ◌%◌, ◌^◌, List, [], ◌∷◌, ◌++◌, map, length, replicate}
use Rattle.std.specs.List.{range_with_len}

-- B.1: the eight bits of a byte, the lowest first
abbrev pub byte_bits : ℕ → List ℕ
byte_bits b = map (λ j. b / 2 ^ j % 2) (range_with_len 0 8)

-- B.1: a string of bytes as a string of bits
abbrev pub bits_of : List ℕ → List ℕ
bits_of [] = []
bits_of (b ∷ bs) = byte_bits b ++ bits_of bs

-- 5.1: pad10*1(x, m), which is 1 ‖ 0^j ‖ 1 with j = (-m - 2) mod x
abbrev pub pad10*1 : ℕ → ℕ → List ℕ
pad10*1 x m = 1 ∷ (replicate ((x - (m + 2) % x) % x) 0 ++ (1 ∷ []))

-- N with the suffix of a function and the padding to blocks of r bits
abbrev pub padding : ℕ → List ℕ → List ℕ → List ℕ
padding r ending n = n ++ (ending ++ pad10*1 r (length n + length ending))

-- the q bytes that fill the last block: the suffix with the first bit of the padding, zeros, and the last bit of the padding
abbrev pub filling : ℕ → ℕ → List ℕ
filling suffix zero = []
filling suffix (suc zero) = (suffix + 128) ∷ []
filling suffix (suc (suc n)) = suffix ∷ (replicate n 0 ++ (128 ∷ []))

-- the padded message, as bytes
abbrev pub padded : ℕ → ℕ → List ℕ → List ℕ
padded rate suffix m = m ++ filling suffix (rate - length m % rate)

-- The bits of the padded bytes are those of the message, the suffix and the padding, and they fill blocks of r bits.
pub record PaddedBits (rate suffix : ℕ) (ending m : List ℕ) : Type 0 where
  pub bits : bits_of (padded rate suffix m) ≡ padding (8 * rate) ending (bits_of m)
  pub blocks : length (bits_of (padded rate suffix m)) % (8 * rate) ≡ 0
