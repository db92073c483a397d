-- The sponge on bytes and lanes, read as the standard's sponge on strings of bits.
use Rattle.std.proofs.Common.{◌≡◌, ℕ, zero, suc, ◌+◌, ◌*◌, ◌/◌, ◌%◌, ◌^◌, ◌<◌, cond, ltb, List, [], ◌∷◌, map, length, get_or, drop, sym, refl, ap, ◌∙◌, subst, ⊎_elim, mul_left_comm, arith}
use native.Mathlib.Nat.{zero-div, div-div-eq-div-mul}
use lib.Bits.{bit_xor}
use Rattle.std.specs.List.{range_with_len}
use Rattle.std.proofs.lemmas.Nat.{xor_lt, div-add-mod'}
use Rattle.std.proofs.lemmas.List.FromFn.{length-map-range_with_len, get_or-map-range_with_len}
use Rattle.std.proofs.lemmas.Bool.{cases_lt, cond_below, cond_above, cond_both}
use Rattle.keccak.specs.State.{Rows, lane, bit_of, Lanes64}
use Rattle.keccak.specs.Bits.{◌⊕◌, RoundsBits}
use Rattle.keccak.proofs.Bits.{xor_bit}
use Rattle.keccak.proofs.BitByBit.{rows_at}
use Rattle.keccak.proofs.Whole.{rows_below, keccak_f_below, keccak_f_bits}
use Rattle.sha3.specs.Padding.{bits_of, padded, padding, PaddedBits}
use Rattle.sha3.specs.Sponge.{lane_from, block_lane, block_rows, block_added, absorbed, taken, state_byte_of, later, squeezed_byte}
use Rattle.sha3.specs.Strings.{string_bit, Adds, Absorbs, Sponge}
use Rattle.sha3.specs.Hash.{sha3_256_of, shake128, Sha3Bits, ShakeBits}
use Rattle.sha3.proofs.Bytes.{Bytes, bytes_padded, bytes_drop, bit_at_lem, bit_at_drop, byte_bit, lane_below, lane_bit}
use Rattle.sha3.proofs.Padding.{length_bits, block_count, padded_sha3, padded_shake}
use Rattle.sha3.proofs.Sponge.{later_none, later_more}

-- ---- absorbing

-- bit k of the block at the front of q, 0 past the rate
block_bit : (rate : ℕ) (q : List ℕ) (k : ℕ) → rate % 8 ≡ 0 → Bytes q → bit_of (block_lane rate q (k / 64)) (k % 64) ≡ cond (ltb k (8 * rate)) (get_or (bits_of q) k 0) 0
block_bit rate q k w h =
    ⊎_elim
    (λ l.
    ap (λ (v : ℕ). bit_of v (k % 64)) (sym (cond_below (8 * (k / 64)) rate (lane_from q (8 * (k / 64))) 0 (omega arith)))
    ∙ lane_bit q (8 * (k / 64)) (k % 64) h (omega arith)
    ∙ ap (λ (i : ℕ). bit_of (get_or q i 0) (k % 64 % 8)) (let e : 8 * (k / 64) + k % 64 / 8 ≡ k / 8 = omega arith in e)
    ∙ ap (λ (j : ℕ). bit_of (get_or q (k / 8) 0) j) (let e : k % 64 % 8 ≡ k % 8 = omega arith in e)
    ∙ sym (bit_at_lem q k)
    ∙ cond_below k (8 * rate) (get_or (bits_of q) k 0) 0 l)
    (λ g.
    ap (λ (v : ℕ). bit_of v (k % 64)) (sym (cond_above (8 * (k / 64)) rate (lane_from q (8 * (k / 64))) 0 0 (omega arith) refl))
    ∙ ap (λ (v : ℕ). v % 2) (zero-div (2 ^ (k % 64)))
    ∙ cond_above k (8 * rate) (get_or (bits_of q) k 0) 0 0 g refl)
    (cases_lt k (8 * rate))

adds : (rate : ℕ) (p : List ℕ) (n : ℕ) (s : Rows) → rate % 8 ≡ 0 → Bytes p → Adds (8 * rate) (bits_of p) n s (block_added rate (drop (n * rate) p) s)
adds rate p n s w h k l =
    let x : k / 64 % 5 < 5 = omega arith in
    let y : k / 320 < 5 = omega arith in
    ap (λ (v : ℕ). bit_of v (k % 64)) (rows_at (λ x y. bit_xor (lane s x y) (lane (block_rows rate (drop (n * rate) p)) x y)) (k / 64 % 5) (k / 320) x y)
    ∙ xor_bit (lane s (k / 64 % 5) (k / 320)) (lane (block_rows rate (drop (n * rate) p)) (k / 64 % 5) (k / 320)) (k % 64)
    ∙ ap (λ (v : ℕ). string_bit s k ⊕ v)
    (ap (λ (v : ℕ). bit_of v (k % 64))
    (rows_at (λ x y. block_lane rate (drop (n * rate) p) (5 * y + x)) (k / 64 % 5) (k / 320) x y
    ∙ ap (λ (j : ℕ). block_lane rate (drop (n * rate) p) j) (let e : 5 * (k / 320) + k / 64 % 5 ≡ k / 64 = omega arith in e))
    ∙ block_bit rate (drop (n * rate) p) k w (bytes_drop (n * rate) p h)
    ∙ ap (λ (v : ℕ). cond (ltb k (8 * rate)) v 0)
    (bit_at_drop (n * rate) p k ∙ ap (λ (i : ℕ). get_or (bits_of p) i 0) (let e : 8 * (n * rate) + k ≡ 8 * rate * n + k = omega arith in e)))

block_below : (rate : ℕ) (p : List ℕ) (j : ℕ) → Bytes p → block_lane rate p j < 2 ^ 64
block_below rate p j h = cond_both (ltb (8 * j) rate) (lane_from p (8 * j)) 0 (λ v. v < 2 ^ 64) (λ e. lane_below p (8 * j) h) (λ e. omega arith)

with_below : (rate : ℕ) (p : List ℕ) (s : Rows) → Bytes p → Lanes64 s → Lanes64 (block_added rate p s)
with_below rate p s h small =
    rows_below (λ x y. bit_xor (lane s x y) (lane (block_rows rate p) x y))
    (λ x y i k. xor_lt 64 (lane s x y) (lane (block_rows rate p) x y) (small y k x i)
    (rows_below (λ x y. block_lane rate p (5 * y + x)) (λ x y i k. block_below rate p (5 * y + x) h) y k x i))

absorbed_below : (rate : ℕ) (p : List ℕ) → Bytes p → (n : ℕ) → Lanes64 (absorbed rate p n)
unfolding absorbed
absorbed_below rate p h zero = rows_below (λ x y. 0) (λ x y i k. omega arith)
absorbed_below rate p h (suc n) =
    keccak_f_below (block_added rate (drop (n * rate) p) (absorbed rate p n))
    (with_below rate (drop (n * rate) p) (absorbed rate p n) (bytes_drop (n * rate) p h) (absorbed_below rate p h n))

absorbs : (rate : ℕ) (p : List ℕ) → rate % 8 ≡ 0 → Bytes p → (n : ℕ) → Absorbs (8 * rate) (bits_of p) n (absorbed rate p n)
unfolding absorbed Absorbs
absorbs rate p w h zero =
    λ k l. ap (λ (v : ℕ). bit_of v (k % 64)) (rows_at (λ x y. 0) (k / 64 % 5) (k / 320) (omega arith) (omega arith)) ∙ ap (λ (v : ℕ). v % 2) (zero-div (2 ^ (k % 64)))
absorbs rate p w h (suc n) = (
  absorbed rate p n,
  block_added rate (drop (n * rate) p) (absorbed rate p n),
  absorbs rate p w h n,
  adds rate p n (absorbed rate p n) w h,
  keccak_f_bits (block_added rate (drop (n * rate) p) (absorbed rate p n))
      (with_below rate (drop (n * rate) p) (absorbed rate p n) (bytes_drop (n * rate) p h) (absorbed_below rate p h n)),
)

-- ---- squeezing

later_below : (s : Rows) → Lanes64 s → (i : ℕ) → Lanes64 (later i s)
unfolding later
later_below s small zero = small
later_below s small (suc i) = keccak_f_below (later i s) (later_below s small i)

-- bit j of byte k of a state is bit 8k + j of its string
state_bit : (s : Rows) (k j : ℕ) → j < 8 → bit_of (state_byte_of s k) j ≡ string_bit s (8 * k + j)
state_bit s k j h =
    byte_bit (lane s (k / 8 % 5) (k / 40)) (k % 8) j h
    ∙ ap (λ (n : ℕ). bit_of (lane s (n % 5) (k / 40)) (8 * (k % 8) + j)) (let e : k / 8 ≡ (8 * k + j) / 64 = omega arith in e)
    ∙ ap (λ (n : ℕ). bit_of (lane s ((8 * k + j) / 64 % 5) n) (8 * (k % 8) + j)) (let e : k / 40 ≡ (8 * k + j) / 320 = omega arith in e)
    ∙ ap (λ (n : ℕ). bit_of (lane s ((8 * k + j) / 64 % 5) ((8 * k + j) / 320)) n) (let e : 8 * (k % 8) + j ≡ (8 * k + j) % 64 = omega arith in e)

squeezes : (rate : ℕ) (s : Rows) (n j : ℕ) → 0 < rate → j < 8 * n →
    get_or (bits_of (map (squeezed_byte rate s) (range_with_len 0 n))) j 0 ≡ string_bit (later (j / (8 * rate)) s) (j % (8 * rate))
squeezes rate s n j r h =
    let d : j / 8 / rate ≡ j / (8 * rate) = div-div-eq-div-mul j 8 rate in
    let e : 8 * (j / 8 % rate) + j % 8 ≡ j % (8 * rate) =
    omega (arith, div-add-mod' (j / 8) rate, div-add-mod' j (8 * rate), ap (λ (m : ℕ). m * rate) d, mul_left_comm (j / (8 * rate)) 8 rate) in
    bit_at_lem (map (squeezed_byte rate s) (range_with_len 0 n)) j
    ∙ ap (λ (v : ℕ). bit_of v (j % 8)) (get_or-map-range_with_len (squeezed_byte rate s) 0 n (j / 8) (j / 8) 0 (omega arith) (omega arith))
    ∙ state_bit (later (j / 8 / rate) s) (j / 8 % rate) (j % 8) (omega arith)
    ∙ ap (λ (m : ℕ). string_bit (later m s) (8 * (j / 8 % rate) + j % 8)) d
    ∙ ap (λ (m : ℕ). string_bit (later (j / (8 * rate)) s) m) e

-- ---- the whole

sponge_bits : (rate suffix : ℕ) (ending m : List ℕ) (len : ℕ) → rate % 8 ≡ 0 → 0 < rate → suffix < 128 → Bytes m → PaddedBits rate suffix ending m →
    Sponge (8 * rate) (padding (8 * rate) ending (bits_of m)) (bits_of (map (squeezed_byte rate (taken rate suffix m)) (range_with_len 0 len)))
sponge_bits rate suffix ending m len w r f h pad =
    let p : Bytes (padded rate suffix m) = bytes_padded rate suffix m f h in
    subst (λ (P : List ℕ). Sponge (8 * rate) P (bits_of (map (squeezed_byte rate (taken rate suffix m)) (range_with_len 0 len)))) pad.bits
    (record {
      n = length m / rate + 1;
      S = λ i. later i (taken rate suffix m);
      blocks = block_count rate suffix m r;
      absorbs = subst (λ (s : Rows). Absorbs (8 * rate) (bits_of (padded rate suffix m)) (length m / rate + 1) s) (sym (later_none (taken rate suffix m))) (absorbs rate (padded rate suffix m) w p (length m / rate + 1));
      permutes = λ i.
          subst (λ (s : Rows). RoundsBits 24 (later i (taken rate suffix m)) s) (sym (later_more (taken rate suffix m) i))
          (keccak_f_bits (later i (taken rate suffix m)) (later_below (taken rate suffix m) (absorbed_below rate (padded rate suffix m) p (length m / rate + 1)) i));
      squeezes = λ j l.
          squeezes rate (taken rate suffix m) len j r
          (omega (arith, l, length_bits (map (squeezed_byte rate (taken rate suffix m)) (range_with_len 0 len)), length-map-range_with_len (squeezed_byte rate (taken rate suffix m)) 0 len));
    })

pub sha3_bits : (m : List ℕ) → Bytes m → Sha3Bits m (sha3_256_of m)
unfolding sha3_256_of
sha3_bits m h = sponge_bits 136 6 (0 ∷ 1 ∷ []) m 32 refl (omega arith) (omega arith) h (padded_sha3 m)

pub shake_bits : (m : List ℕ) (n : ℕ) → Bytes m → ShakeBits m (shake128 m n)
unfolding shake128
shake_bits m n h = sponge_bits 168 31 (1 ∷ 1 ∷ 1 ∷ 1 ∷ []) m n refl (omega arith) (omega arith) h (padded_shake m)
