-- What a caller may take from the hashes: their lengths, and that each byte is one.
use Rattle.std.proofs.Common.{◌≡◌, ℕ, ◌<◌, List, map, length, get_or, sym, refl, subst, ⊎_elim, arith}
use Rattle.std.specs.List.{range_with_len}
use Rattle.std.proofs.lemmas.List.FromFn.{length-map-range_with_len, get_or-map-range_with_len}
use Rattle.std.proofs.lemmas.List.{get_or_past}
use Rattle.std.proofs.lemmas.Bool.{cases_lt}
use Rattle.sha3.specs.Hash.{sha3_256_of, sha3_256_byte, shake128, shake128_byte}

pub sha3_256_by_bytes : (m : List ℕ) → sha3_256_of m ≡ map (sha3_256_byte m) (range_with_len 0 32)
unfolding sha3_256_of
sha3_256_by_bytes m = refl

pub sha3_256_length : (m : List ℕ) → length (sha3_256_of m) ≡ 32
unfolding sha3_256_of
sha3_256_length m = length-map-range_with_len (sha3_256_byte m) 0 32

pub sha3_256_byte_below : (m : List ℕ) (k : ℕ) → sha3_256_byte m k < 256
sha3_256_byte_below m k = omega arith

pub sha3_256_at : (m : List ℕ) (k : ℕ) → k < 32 → get_or (sha3_256_of m) k 0 ≡ sha3_256_byte m k
unfolding sha3_256_of
sha3_256_at m k h = get_or-map-range_with_len (sha3_256_byte m) 0 32 k k 0 h (omega arith)

-- each element of the hash is a byte, and past its end the default 0 is read
pub sha3_256_bytes : (m : List ℕ) (k : ℕ) → get_or (sha3_256_of m) k 0 < 256
sha3_256_bytes m k =
    let Below : ℕ → Type 0 = λ v. v < 256 in
    ⊎_elim
    (λ l. subst Below (sym (sha3_256_at m k l)) (sha3_256_byte_below m k))
    (λ g. subst Below (sym (get_or_past (sha3_256_of m) k 0 (omega (arith, sha3_256_length m)))) (omega arith))
    (cases_lt k 32)

pub shake128_by_bytes : (m : List ℕ) (n : ℕ) → shake128 m n ≡ map (shake128_byte m) (range_with_len 0 n)
unfolding shake128
shake128_by_bytes m n = refl

pub shake128_length : (m : List ℕ) (n : ℕ) → length (shake128 m n) ≡ n
unfolding shake128
shake128_length m n = length-map-range_with_len (shake128_byte m) 0 n

pub shake128_byte_below : (m : List ℕ) (k : ℕ) → shake128_byte m k < 256
shake128_byte_below m k = omega arith

pub shake128_at : (m : List ℕ) (n k : ℕ) → k < n → get_or (shake128 m n) k 0 ≡ shake128_byte m k
unfolding shake128
shake128_at m n k h = get_or-map-range_with_len (shake128_byte m) 0 n k k 0 h (omega arith)

pub shake128_bytes : (m : List ℕ) (n k : ℕ) → get_or (shake128 m n) k 0 < 256
shake128_bytes m n k =
    let Below : ℕ → Type 0 = λ v. v < 256 in
    ⊎_elim
    (λ l. subst Below (sym (shake128_at m n k l)) (shake128_byte_below m k))
    (λ g. subst Below (sym (get_or_past (shake128 m n) k 0 (omega (arith, shake128_length m n)))) (omega arith))
    (cases_lt k n)
