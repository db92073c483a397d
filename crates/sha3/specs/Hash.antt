-- SHA3-256 and SHAKE128 (FIPS 202, 6.1 and 6.2): their rates and suffixes, and what they give.
use Rattle.std.specs.Prelude.{ℕ, ◌*◌, List, [], ◌∷◌, map}
use Rattle.std.specs.List.{range_with_len}
use Rattle.sha3.specs.Padding.{bits_of, padding, PaddedBits}
use Rattle.sha3.specs.Sponge.{taken, squeezed_byte}
use Rattle.sha3.specs.Strings.{Sponge}

-- the rate in bytes, (1600 - 512) / 8, and the suffix 01 with the first bit of the padding, as a byte
abbrev pub rate_sha3 : ℕ
rate_sha3 = 136

abbrev pub suffix_sha3 : ℕ
suffix_sha3 = 0x06

-- the rate in bytes, (1600 - 256) / 8, and the suffix 1111 with the first bit of the padding, as a byte
abbrev pub rate_shake : ℕ
rate_shake = 168

abbrev pub suffix_shake : ℕ
suffix_shake = 0x1f

-- byte k of the hash of m
abbrev pub sha3_256_byte : List ℕ → ℕ → ℕ
sha3_256_byte m k = squeezed_byte rate_sha3 (taken rate_sha3 suffix_sha3 m) k

abbrev pub shake128_byte : List ℕ → ℕ → ℕ
shake128_byte m k = squeezed_byte rate_shake (taken rate_shake suffix_shake m) k

-- SHA3-256(m)
unfoldable pub sha3_256_of : List ℕ → List ℕ
sha3_256_of m = map (sha3_256_byte m) (range_with_len 0 32)

-- SHAKE128(m, 8n)
unfoldable pub shake128 : List ℕ → ℕ → List ℕ
shake128 m n = map (shake128_byte m) (range_with_len 0 n)

-- what is hashed is M ‖ 01 ‖ pad10*1, and M ‖ 1111 ‖ pad10*1
abbrev pub ending_sha3 : List ℕ
ending_sha3 = 0 ∷ 1 ∷ []

abbrev pub ending_shake : List ℕ
ending_shake = 1 ∷ 1 ∷ 1 ∷ 1 ∷ []

abbrev pub PaddedSha3 : List ℕ → Type 0
PaddedSha3 m = PaddedBits rate_sha3 suffix_sha3 ending_sha3 m

abbrev pub PaddedShake : List ℕ → Type 0
PaddedShake m = PaddedBits rate_shake suffix_shake ending_shake m

-- the bits of the bytes `out` are what the sponge gives for the bits of the bytes m
abbrev pub Sha3Bits : List ℕ → List ℕ → Type 0
Sha3Bits m out = Sponge (8 * rate_sha3) (padding (8 * rate_sha3) ending_sha3 (bits_of m)) (bits_of out)

abbrev pub ShakeBits : List ℕ → List ℕ → Type 0
ShakeBits m out = Sponge (8 * rate_shake) (padding (8 * rate_shake) ending_shake (bits_of m)) (bits_of out)
