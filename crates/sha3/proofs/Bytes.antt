-- Strings of bytes: each element of the padded message is below 256, and its bits stand in the string of bits.
use Rattle.std.proofs.Common.{◌≡◌, ℕ, zero, suc, ◌+◌, ◌-◌, ◌*◌, ◌/◌, ◌%◌, ◌^◌, ◌<◌, List, [], ◌∷◌, ◌++◌, length, get_or, drop, replicate, sym, refl, ap, ◌∙◌, subst, ⊎_elim, add-zero, arith}
use native.Mathlib.Nat.{zero-div}
use Rattle.std.proofs.lemmas.Nat.{shr-shr}
use Rattle.std.proofs.lemmas.List.FromFn.{get_or-map-range_with_len}
use Rattle.std.proofs.lemmas.List.{get_or_append_left, get_or-append_right, get_or-drop}
use Rattle.std.proofs.lemmas.Bool.{cases_lt}
use Rattle.keccak.specs.State.{bit_of}
use Rattle.keccak.proofs.Bits.{mod_bit}
use Rattle.sha3.specs.Padding.{byte_bits, bits_of, filling, padded}
use Rattle.sha3.specs.Sponge.{lane_from}

-- a string of bytes
abbrev pub Bytes : List ℕ → Type 0
Bytes p = (k : ℕ) → get_or p k 0 < 256

bytes_append : (a b : List ℕ) → Bytes a → Bytes b → Bytes (a ++ b)
bytes_append a b h l k =
    let Below : ℕ → Type 0 = λ n. n < 256 in
    ⊎_elim
    (λ i. subst Below (sym (get_or_append_left a b 0 k i)) (h k))
    (λ o. subst Below (sym (get_or-append_right a b (length a) k 0 refl o)) (l (k - length a)))
    (cases_lt k (length a))

bytes_zeros : (n : ℕ) → Bytes (replicate n 0)
bytes_zeros zero k = omega arith
bytes_zeros (suc n) zero = omega arith
bytes_zeros (suc n) (suc k) = bytes_zeros n k

bytes_one : (b : ℕ) → b < 256 → Bytes (b ∷ [])
bytes_one b h zero = h
bytes_one b h (suc k) = omega arith

bytes_more : (b : ℕ) (p : List ℕ) → b < 256 → Bytes p → Bytes (b ∷ p)
bytes_more b p h l zero = h
bytes_more b p h l (suc k) = l k

bytes_filling : (suffix q : ℕ) → suffix < 128 → Bytes (filling suffix q)
bytes_filling suffix zero h k = omega arith
bytes_filling suffix (suc zero) h k = bytes_one (suffix + 128) (omega arith) k
bytes_filling suffix (suc (suc n)) h k = bytes_more suffix (replicate n 0 ++ (128 ∷ [])) (omega arith) (bytes_append (replicate n 0) (128 ∷ []) (bytes_zeros n) (bytes_one 128 (omega arith))) k

pub bytes_padded : (rate suffix : ℕ) (m : List ℕ) → suffix < 128 → Bytes m → Bytes (padded rate suffix m)
bytes_padded rate suffix m h l = bytes_append m (filling suffix (rate - length m % rate)) l (bytes_filling suffix (rate - length m % rate) h)

pub bytes_drop : (n : ℕ) (p : List ℕ) → Bytes p → Bytes (drop n p)
bytes_drop n p h k = subst (λ (v : ℕ). v < 256) (sym (get_or-drop n p k 0)) (h (n + k))

-- bit 8i + j of the string is bit j of byte i
bits_at : (p : List ℕ) (i j : ℕ) → j < 8 → get_or (bits_of p) (8 * i + j) 0 ≡ bit_of (get_or p i 0) j
bits_at [] i j h = sym (ap (λ (n : ℕ). n % 2) (zero-div (2 ^ j)))
bits_at (b ∷ p) zero j h =
    get_or_append_left (byte_bits b) (bits_of p) 0 (8 * 0 + j) (omega arith) ∙ get_or-map-range_with_len (λ j. b / 2 ^ j % 2) 0 8 (8 * 0 + j) j 0 (omega arith) (omega arith)
bits_at (b ∷ p) (suc i) j h =
    get_or-append_right (byte_bits b) (bits_of p) 8 (8 * suc i + j) 0 refl (omega arith)
    ∙ ap (λ (k : ℕ). get_or (bits_of p) k 0) (let e : 8 * suc i + j - 8 ≡ 8 * i + j = omega arith in e)
    ∙ bits_at p i j h

pub bit_at_lem : (p : List ℕ) (k : ℕ) → get_or (bits_of p) k 0 ≡ bit_of (get_or p (k / 8) 0) (k % 8)
bit_at_lem p k = ap (λ (n : ℕ). get_or (bits_of p) n 0) (let e : k ≡ 8 * (k / 8) + k % 8 = omega arith in e) ∙ bits_at p (k / 8) (k % 8) (omega arith)

pub bit_at_drop : (n : ℕ) (p : List ℕ) (k : ℕ) → get_or (bits_of (drop n p)) k 0 ≡ get_or (bits_of p) (8 * n + k) 0
bit_at_drop n p k =
    bit_at_lem (drop n p) k
    ∙ ap (λ (v : ℕ). bit_of v (k % 8)) (get_or-drop n p (k / 8) 0)
    ∙ ap (λ (i : ℕ). bit_of (get_or p i 0) (k % 8)) (let e : n + k / 8 ≡ (8 * n + k) / 8 = omega arith in e)
    ∙ ap (λ (j : ℕ). bit_of (get_or p ((8 * n + k) / 8) 0) j) (let e : k % 8 ≡ (8 * n + k) % 8 = omega arith in e)
    ∙ sym (bit_at_lem p (8 * n + k))

-- bit j of byte b of a number
pub byte_bit : (v b j : ℕ) → j < 8 → bit_of (v / 2 ^ (8 * b) % 256) j ≡ bit_of v (8 * b + j)
byte_bit v b j h = mod_bit 8 (v / 2 ^ (8 * b)) j h ∙ ap (λ (n : ℕ). n % 2) (shr-shr v (8 * b) j)

-- byte b of eight digits
digit : (d0 d1 d2 d3 d4 d5 d6 d7 : ℕ) → d0 < 256 → d1 < 256 → d2 < 256 → d3 < 256 → d4 < 256 → d5 < 256 → d6 < 256 → d7 < 256 → (b : ℕ) → b < 8 →
    (d0 + d1 * 256 + d2 * 65536 + d3 * 16777216 + d4 * 4294967296 + d5 * 1099511627776 + d6 * 281474976710656 + d7 * 72057594037927936) / 2 ^ (8 * b) % 256
    ≡ get_or (d0 ∷ d1 ∷ d2 ∷ d3 ∷ d4 ∷ d5 ∷ d6 ∷ d7 ∷ []) b 0
digit d0 d1 d2 d3 d4 d5 d6 d7 h0 h1 h2 h3 h4 h5 h6 h7 zero h = omega arith
digit d0 d1 d2 d3 d4 d5 d6 d7 h0 h1 h2 h3 h4 h5 h6 h7 (suc zero) h = omega arith
digit d0 d1 d2 d3 d4 d5 d6 d7 h0 h1 h2 h3 h4 h5 h6 h7 (suc (suc zero)) h = omega arith
digit d0 d1 d2 d3 d4 d5 d6 d7 h0 h1 h2 h3 h4 h5 h6 h7 (suc (suc (suc zero))) h = omega arith
digit d0 d1 d2 d3 d4 d5 d6 d7 h0 h1 h2 h3 h4 h5 h6 h7 (suc (suc (suc (suc zero)))) h = omega arith
digit d0 d1 d2 d3 d4 d5 d6 d7 h0 h1 h2 h3 h4 h5 h6 h7 (suc (suc (suc (suc (suc zero))))) h = omega arith
digit d0 d1 d2 d3 d4 d5 d6 d7 h0 h1 h2 h3 h4 h5 h6 h7 (suc (suc (suc (suc (suc (suc zero)))))) h = omega arith
digit d0 d1 d2 d3 d4 d5 d6 d7 h0 h1 h2 h3 h4 h5 h6 h7 (suc (suc (suc (suc (suc (suc (suc zero))))))) h = omega arith
digit d0 d1 d2 d3 d4 d5 d6 d7 h0 h1 h2 h3 h4 h5 h6 h7 (suc (suc (suc (suc (suc (suc (suc (suc b)))))))) h = absurd (omega arith)

eight_at : (p : List ℕ) (i b : ℕ) → b < 8 → get_or (get_or p i 0 ∷ get_or p (i + 1) 0 ∷ get_or p (i + 2) 0 ∷ get_or p (i + 3) 0 ∷ get_or p (i + 4) 0 ∷ get_or p (i + 5) 0 ∷ get_or p (i + 6) 0 ∷ get_or p (i + 7) 0 ∷ []) b 0 ≡ get_or p (i + b) 0
eight_at p i zero h = ap (λ (n : ℕ). get_or p n 0) (sym (add-zero i))
eight_at p i (suc zero) h = refl
eight_at p i (suc (suc zero)) h = refl
eight_at p i (suc (suc (suc zero))) h = refl
eight_at p i (suc (suc (suc (suc zero)))) h = refl
eight_at p i (suc (suc (suc (suc (suc zero))))) h = refl
eight_at p i (suc (suc (suc (suc (suc (suc zero)))))) h = refl
eight_at p i (suc (suc (suc (suc (suc (suc (suc zero))))))) h = refl
eight_at p i (suc (suc (suc (suc (suc (suc (suc (suc b)))))))) h = absurd (omega arith)

pub lane_below : (p : List ℕ) (i : ℕ) → Bytes p → lane_from p i < 2 ^ 64
lane_below p i h = omega (arith, h i, h (i + 1), h (i + 2), h (i + 3), h (i + 4), h (i + 5), h (i + 6), h (i + 7))

-- bit z of a lane is bit z mod 8 of its byte z / 8
pub lane_bit : (p : List ℕ) (i z : ℕ) → Bytes p → z < 64 → bit_of (lane_from p i) z ≡ bit_of (get_or p (i + z / 8) 0) (z % 8)
lane_bit p i z h k =
    ap (λ (n : ℕ). bit_of (lane_from p i) n) (let e : z ≡ 8 * (z / 8) + z % 8 = omega arith in e)
    ∙ sym (byte_bit (lane_from p i) (z / 8) (z % 8) (omega arith))
    ∙ ap (λ (n : ℕ). bit_of n (z % 8))
    (digit (get_or p i 0) (get_or p (i + 1) 0) (get_or p (i + 2) 0) (get_or p (i + 3) 0) (get_or p (i + 4) 0) (get_or p (i + 5) 0) (get_or p (i + 6) 0) (get_or p (i + 7) 0)
    (h i) (h (i + 1)) (h (i + 2)) (h (i + 3)) (h (i + 4)) (h (i + 5)) (h (i + 6)) (h (i + 7)) (z / 8) (omega arith)
    ∙ eight_at p i (z / 8) (omega arith))
