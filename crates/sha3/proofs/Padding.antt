-- The bits of a padded message.
use Rattle.std.proofs.Common.{◌≡◌, ℕ, zero, suc, ◌+◌, ◌-◌, ◌*◌, ◌/◌, ◌%◌, ◌<◌, List, [], ◌∷◌, ◌++◌, length, replicate, sym, refl, ap, ◌∙◌, append_assoc, mul_assoc, mul_comm, mul-add, arith, length-append}
use native.Mathlib.Nat.{mul-mod_right}
use Rattle.std.proofs.lemmas.Nat.{mod_below, div-add-mod'}
use Rattle.std.proofs.lemmas.List.{append-nil, replicate-append-replicate}
use Rattle.sha3.specs.Padding.{byte_bits, bits_of, filling, padded}
use Rattle.sha3.specs.Hash.{PaddedSha3, PaddedShake}
use Rattle.sha3.proofs.Parts.{length_filling}

pub bits_append : (a b : List ℕ) → bits_of (a ++ b) ≡ bits_of a ++ bits_of b
bits_append [] b = refl
bits_append (x ∷ a) b = ap (λ (l : List ℕ). byte_bits x ++ l) (bits_append a b) ∙ sym (append_assoc (byte_bits x) (bits_of a) (bits_of b))

pub length_bits : (a : List ℕ) → length (bits_of a) ≡ 8 * length a
length_bits [] = refl
length_bits (x ∷ a) = length-append (byte_bits x) (bits_of a) ∙ ap (λ (n : ℕ). 8 + n) (length_bits a) ∙ omega arith

-- n zero bytes are 8n zero bits
zero_bits : (n : ℕ) → bits_of (replicate n 0) ≡ replicate (8 * n) 0
zero_bits zero = refl
zero_bits (suc n) = ap (λ (l : List ℕ). byte_bits 0 ++ l) (zero_bits n) ∙ replicate-append-replicate 8 (8 * n) 0 ∙ ap (λ (k : ℕ). replicate k 0) (let e : 8 + 8 * n ≡ 8 * suc n = omega arith in e)

-- a front of zeros before zeros
zeros_more : (a b : ℕ) (r : List ℕ) → replicate a 0 ++ (replicate b 0 ++ r) ≡ replicate (a + b) 0 ++ r
zeros_more a b r = sym (append_assoc (replicate a 0) (replicate b 0) r) ∙ ap (λ (l : List ℕ). l ++ r) (replicate-append-replicate a b 0)

-- a suffix byte whose bits are `front`, with the first bit of the padding, and z + 1 zeros
filling_bits : (suffix z : ℕ) (front : List ℕ) → byte_bits suffix ≡ front ++ replicate (z + 1) 0 → byte_bits (suffix + 128) ≡ front ++ (replicate z 0 ++ (1 ∷ [])) →
    (q : ℕ) → 0 < q → bits_of (filling suffix q) ≡ front ++ (replicate (8 * q - 8 + z) 0 ++ (1 ∷ []))
filling_bits suffix z front e f zero h = absurd (omega arith)
filling_bits suffix z front e f (suc zero) h = append-nil (byte_bits (suffix + 128)) ∙ f ∙ ap (λ (k : ℕ). front ++ (replicate k 0 ++ (1 ∷ []))) (let g : z ≡ 8 * 1 - 8 + z = omega arith in g)
filling_bits suffix z front e f (suc (suc n)) h =
    ap (λ (l : List ℕ). byte_bits suffix ++ l) (bits_append (replicate n 0) (128 ∷ []) ∙ ap (λ (l : List ℕ). l ++ bits_of (128 ∷ [])) (zero_bits n))
    ∙ ap (λ (l : List ℕ). l ++ (replicate (8 * n) 0 ++ bits_of (128 ∷ []))) e
    ∙ append_assoc front (replicate (z + 1) 0) (replicate (8 * n) 0 ++ bits_of (128 ∷ []))
    ∙ ap (λ (l : List ℕ). front ++ l)
    (zeros_more (z + 1) (8 * n) (bits_of (128 ∷ [])) ∙ zeros_more (z + 1 + 8 * n) 7 (1 ∷ []) ∙ ap (λ (k : ℕ). replicate k 0 ++ (1 ∷ [])) (let g : z + 1 + 8 * n + 7 ≡ 8 * suc (suc n) - 8 + z = omega arith in g))

-- the blocks of a padded message are whole
pub block_count : (rate suffix : ℕ) (m : List ℕ) → 0 < rate → length (bits_of (padded rate suffix m)) ≡ 8 * rate * (length m / rate + 1)
block_count rate suffix m h =
    omega (
      arith,
      length_bits (padded rate suffix m),
      length-append m (filling suffix (rate - length m % rate)),
      length_filling suffix (rate - length m % rate),
      mod_below (length m) rate h,
      div-add-mod' (length m) rate,
      mul-add (8 * rate) (length m / rate) 1,
      mul_assoc 8 rate (length m / rate),
      mul_comm rate (length m / rate),
    )

whole_blocks : (rate suffix : ℕ) (m : List ℕ) → 0 < rate → length (bits_of (padded rate suffix m)) % (8 * rate) ≡ 0
whole_blocks rate suffix m h = ap (λ (n : ℕ). n % (8 * rate)) (block_count rate suffix m h) ∙ mul-mod_right (8 * rate) (length m / rate + 1)

pub padded_sha3 : (m : List ℕ) → PaddedSha3 m
padded_sha3 m =
    let e : 8 * (136 - length m % 136) - 8 + 4 ≡ (8 * 136 - (length (bits_of m) + 2 + 2) % (8 * 136)) % (8 * 136) = omega (arith, length_bits m) in
    record {
      bits =
          bits_append m (filling 6 (136 - length m % 136))
          ∙ ap (λ (l : List ℕ). bits_of m ++ l)
          (filling_bits 6 4 (0 ∷ 1 ∷ 1 ∷ []) refl refl (136 - length m % 136) (omega arith) ∙ ap (λ (k : ℕ). 0 ∷ 1 ∷ 1 ∷ (replicate k 0 ++ (1 ∷ []))) e);
      blocks = whole_blocks 136 6 m (omega arith);
    }

pub padded_shake : (m : List ℕ) → PaddedShake m
padded_shake m =
    let e : 8 * (168 - length m % 168) - 8 + 2 ≡ (8 * 168 - (length (bits_of m) + 4 + 2) % (8 * 168)) % (8 * 168) = omega (arith, length_bits m) in
    record {
      bits =
          bits_append m (filling 31 (168 - length m % 168))
          ∙ ap (λ (l : List ℕ). bits_of m ++ l)
          (filling_bits 31 2 (1 ∷ 1 ∷ 1 ∷ 1 ∷ 1 ∷ []) refl refl (168 - length m % 168) (omega arith) ∙ ap (λ (k : ℕ). 1 ∷ 1 ∷ 1 ∷ 1 ∷ 1 ∷ (replicate k 0 ++ (1 ∷ []))) e);
      blocks = whole_blocks 168 31 m (omega arith);
    }
