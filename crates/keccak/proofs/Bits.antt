-- The bits of a sum, a product, a complement and a turned lane.
use Rattle.std.proofs.Common.{◌≡◌, ℕ, zero, suc, ◌+◌, ◌-◌, ◌*◌, ◌/◌, ◌%◌, ◌^◌, ◌<◌, ◌≤◌, eqb, sym, refl, ap, ◌∙◌, ⊎_elim, lt_of_lt_of_le, lt_of_le_of_lt, mul_assoc, eq-zero-or-pos, add-one, arith, eqb→eq, pow_mono, pow-add}
use native.Mathlib.Nat.{div-eq_of_lt}
use lib.Bits.{bit_xor, bit_and, bit_or, or_self, or_zero_r, xor_add_and, shifted_even}
use Rattle.std.proofs.lemmas.Nat.{or_lt, shr_le, shl-shr, shr-shr, mod-pow-add, field_of, and_mask, xor_shr, and_shr, or_shr, xor_mod, and_mod, or_mod}
use Rattle.std.proofs.lemmas.Bool.{cases_lt}
use Rattle.keccak.proofs.Table.{below}
use Rattle.keccak.specs.State.{bit_of}
use Rattle.keccak.specs.Lanes.{rotated, flipped}
use Rattle.keccak.specs.Bits.{◌⊕◌, back}

xor_digit : (p q : ℕ) → p < 2 → q < 2 → bit_xor p q ≡ p ⊕ q
xor_digit zero q h k = omega arith
xor_digit (suc zero) zero h k = refl
xor_digit (suc zero) (suc zero) h k = refl
xor_digit (suc zero) (suc (suc q)) h k = omega arith
xor_digit (suc (suc p)) q h k = omega arith

and_digit : (p q : ℕ) → p < 2 → q < 2 → bit_and p q ≡ p * q
and_digit zero q h k = omega arith
and_digit (suc zero) zero h k = refl
and_digit (suc zero) (suc zero) h k = refl
and_digit (suc zero) (suc (suc q)) h k = omega arith
and_digit (suc (suc p)) q h k = omega arith

pub xor_bit : (a b z : ℕ) → bit_of (bit_xor a b) z ≡ bit_of a z ⊕ bit_of b z
xor_bit a b z = ap (λ (n : ℕ). n % 2) (xor_shr a b z) ∙ xor_mod (a / 2 ^ z) (b / 2 ^ z) 1 ∙ xor_digit (bit_of a z) (bit_of b z) (omega arith) (omega arith)

pub and_bit : (a b z : ℕ) → bit_of (bit_and a b) z ≡ bit_of a z * bit_of b z
and_bit a b z = ap (λ (n : ℕ). n % 2) (and_shr a b z) ∙ and_mod (a / 2 ^ z) (b / 2 ^ z) 1 ∙ and_digit (bit_of a z) (bit_of b z) (omega arith) (omega arith)

-- the low bits of a number, each where it was
pub mod_bit : (w n z : ℕ) → z < w → bit_of (n % 2 ^ w) z ≡ bit_of n z
mod_bit w n z h =
    let e : w ≡ w - 1 - z + 1 + z = omega arith in
    ap (λ (k : ℕ). n % 2 ^ k / 2 ^ z % 2) e
    ∙ ap (λ (m : ℕ). m % 2) (field_of n (w - 1 - z + 1) z)
    ∙ omega (arith, mod-pow-add (n / 2 ^ z) (w - 1 - z) 1)

-- a number below 2^64 has no bit from 64 on
no_bit : (v z : ℕ) → v < 2 ^ 64 → 64 ≤ z → bit_of v z ≡ 0
no_bit v z h k = ap (λ (m : ℕ). m % 2) (div-eq_of_lt (lt_of_lt_of_le h (pow_mono k)))

-- every bit of 2^64 - 1 is 1
all_ones : (z : ℕ) → z < 64 → bit_of (2 ^ 64 - 1) z ≡ 1
all_ones z h = eqb→eq (bit_of (2 ^ 64 - 1) z) 1 (below (λ k. eqb (bit_of (2 ^ 64 - 1) k) 1) 64 tt z h)

flipped_is_xor : (v : ℕ) → v < 2 ^ 64 → flipped v ≡ bit_xor v (2 ^ 64 - 1)
flipped_is_xor v h = omega (arith, xor_add_and v (2 ^ 64 - 1), and_mask v 64)

pub flipped_bit : (v z : ℕ) → v < 2 ^ 64 → z < 64 → bit_of (flipped v) z ≡ bit_of v z ⊕ 1
flipped_bit v z h k =
    ap (λ (n : ℕ). bit_of n z) (flipped_is_xor v h) ∙ xor_bit v (2 ^ 64 - 1) z ∙ ap (λ (n : ℕ). bit_of v z ⊕ n) (all_ones z k)

or_bit : (a b z : ℕ) → bit_of (bit_or a b) z ≡ bit_or (bit_of a z) (bit_of b z)
or_bit a b z = ap (λ (n : ℕ). n % 2) (or_shr a b z) ∙ or_mod (a / 2 ^ z) (b / 2 ^ z) 1

-- a number moved up by j: its bits below j are 0, and bit z is what was bit z - j
shifted_low : (v z d : ℕ) → bit_of (v * 2 ^ (d + 1 + z)) z ≡ 0
shifted_low v z d =
    ap (λ (n : ℕ). v * n / 2 ^ z % 2) (pow-add 2 (d + 1) z)
    ∙ ap (λ (n : ℕ). n / 2 ^ z % 2) (sym (mul_assoc v (2 ^ (d + 1)) (2 ^ z)))
    ∙ ap (λ (n : ℕ). n % 2) (shl-shr (v * 2 ^ (d + 1)) z)
    ∙ ap (λ (n : ℕ). v * 2 ^ n % 2) (add-one d)
    ∙ shifted_even v d

shifted_high : (v j d : ℕ) → bit_of (v * 2 ^ j) (j + d) ≡ bit_of v d
shifted_high v j d = ap (λ (n : ℕ). n % 2) (sym (shr-shr (v * 2 ^ j) j d)) ∙ ap (λ (n : ℕ). n / 2 ^ d % 2) (shl-shr v j)

-- a lane turned by j, from 1 to 63, below j and from j on
turned_low : (v j z : ℕ) → j < 64 → z < j → bit_of (bit_or ((v * 2 ^ j) % 2 ^ 64) (v / 2 ^ (64 - j))) z ≡ bit_of v (64 - j + z)
turned_low v j z h k =
    let e : j ≡ j - z - 1 + 1 + z = omega arith in
    or_bit ((v * 2 ^ j) % 2 ^ 64) (v / 2 ^ (64 - j)) z
    ∙ ap (λ (n : ℕ). bit_or n (bit_of (v / 2 ^ (64 - j)) z)) (mod_bit 64 (v * 2 ^ j) z (omega arith) ∙ ap (λ (n : ℕ). bit_of (v * 2 ^ n) z) e ∙ shifted_low v z (j - z - 1))
    ∙ ap (λ (n : ℕ). n % 2) (shr-shr v (64 - j) z)

turned_high : (v j z : ℕ) → v < 2 ^ 64 → j < 64 → j ≤ z → z < 64 → bit_of (bit_or ((v * 2 ^ j) % 2 ^ 64) (v / 2 ^ (64 - j))) z ≡ bit_of v (z - j)
turned_high v j z b h k l =
    let e : z ≡ j + (z - j) = omega arith in
    or_bit ((v * 2 ^ j) % 2 ^ 64) (v / 2 ^ (64 - j)) z
    ∙ ap (λ (n : ℕ). bit_or (bit_of ((v * 2 ^ j) % 2 ^ 64) z) n) (ap (λ (n : ℕ). n % 2) (shr-shr v (64 - j) z) ∙ no_bit v (64 - j + z) b (omega arith))
    ∙ or_zero_r (bit_of ((v * 2 ^ j) % 2 ^ 64) z)
    ∙ mod_bit 64 (v * 2 ^ j) z l
    ∙ ap (λ (n : ℕ). bit_of (v * 2 ^ j) n) e
    ∙ shifted_high v j (z - j)

turned_none : (v z : ℕ) → v < 2 ^ 64 → bit_of (bit_or ((v * 2 ^ 0) % 2 ^ 64) (v / 2 ^ 0)) z ≡ bit_of v z
turned_none v z h =
    let e : (v * 1) % 2 ^ 64 ≡ v = omega arith in
    let f : v / 1 ≡ v = omega arith in
    ap (λ (n : ℕ). bit_of (bit_or n (v / 1)) z) e ∙ ap (λ (n : ℕ). bit_of (bit_or v n) z) f ∙ ap (λ (n : ℕ). bit_of n z) (or_self v)

-- bit z of a turned lane is what was bit z - k, modulo 64
pub rotated_bit : (v k z : ℕ) → v < 2 ^ 64 → z < 64 → bit_of (rotated v k) z ≡ bit_of v (back z k)
rotated_bit v k z h l =
    let j : ℕ = k % 64 in
    let b : k % 64 < 64 = omega arith in
    ⊎_elim
    (λ none.
    ap (λ (n : ℕ). bit_of (bit_or ((v * 2 ^ n) % 2 ^ 64) (v / 2 ^ ((64 - n) % 64))) z) none
    ∙ turned_none v z h ∙ ap (λ (n : ℕ). bit_of v n) (let e : z ≡ back z k = omega arith in e))
    (λ some.
    ap (λ (n : ℕ). bit_of (bit_or ((v * 2 ^ (k % 64)) % 2 ^ 64) (v / 2 ^ n)) z) (let e : (64 - k % 64) % 64 ≡ 64 - k % 64 = omega arith in e)
    ∙ ⊎_elim
    (λ low. turned_low v (k % 64) z b low ∙ ap (λ (n : ℕ). bit_of v n) (let e : 64 - k % 64 + z ≡ back z k = omega arith in e))
    (λ high. turned_high v (k % 64) z h b high l ∙ ap (λ (n : ℕ). bit_of v n) (let e : z - k % 64 ≡ back z k = omega arith in e))
    (cases_lt z (k % 64)))
    (eq-zero-or-pos (k % 64))

pub rotated_below : (v k : ℕ) → v < 2 ^ 64 → rotated v k < 2 ^ 64
rotated_below v k h = or_lt 64 ((v * 2 ^ (k % 64)) % 2 ^ 64) (v / 2 ^ ((64 - k % 64) % 64)) (omega arith) (lt_of_le_of_lt (shr_le v ((64 - k % 64) % 64)) h)
