-- The steps on lanes, read bit by bit.
use Rattle.std.proofs.Common.{◌≡◌, ℕ, zero, suc, ◌+◌, ◌*◌, ◌%◌, ◌^◌, ◌<◌, ◌⊎◌, cond, ◌==◌, List, [], get_or, refl, ap, ◌∙◌, ap₂, inl, inr, arith}
use lib.Bits.{bit_xor, bit_and}
use Rattle.keccak.specs.State.{Rows, lane, bit_of, bit, five, rows, Words}
use Rattle.keccak.specs.Lanes.{parity_c, effect_d, rotated, theta_of, rho_of, offset, flipped, chi_row_of, chi_of}
use Rattle.keccak.specs.Constants.{bit_rc, iota_row_of}
use Rattle.keccak.specs.Bits.{IotaBits, ◌⊕◌, back, bit_c, ThetaBits, RhoBits, ChiBits}
use Rattle.keccak.proofs.Bits.{xor_bit, and_bit, flipped_bit, rotated_bit}

pub five_at : {A : Type 0} (f : ℕ → A) (d : A) (x : ℕ) → x < 5 → get_or (five f) x d ≡ f x
five_at f d zero h = refl
five_at f d (suc zero) h = refl
five_at f d (suc (suc zero)) h = refl
five_at f d (suc (suc (suc zero))) h = refl
five_at f d (suc (suc (suc (suc zero)))) h = refl
five_at f d (suc (suc (suc (suc (suc x))))) h = absurd (omega arith)

pub rows_at : (f : ℕ → ℕ → ℕ) (x y : ℕ) → x < 5 → y < 5 → lane (rows f) x y ≡ f x y
rows_at f x y h k = ap (λ (r : List ℕ). get_or r x 0) (five_at (λ y. five (λ x. f x y)) [] y k) ∙ five_at (λ x. f x y) 0 x h

-- lanes that are the same at each place make the same row, and the same state
pub five_same : {A : Type 0} (f g : ℕ → A) → ((x : ℕ) → x < 5 → f x ≡ g x) → five f ≡ five g
five_same f g same =
    let e0 : f 0 ≡ g 0 = same 0 (omega arith) in
    let e1 : f 1 ≡ g 1 = same 1 (omega arith) in
    let e2 : f 2 ≡ g 2 = same 2 (omega arith) in
    let e3 : f 3 ≡ g 3 = same 3 (omega arith) in
    let e4 : f 4 ≡ g 4 = same 4 (omega arith) in
    cc

pub rows_same : (f g : ℕ → ℕ → ℕ) → ((x y : ℕ) → x < 5 → y < 5 → f x y ≡ g x y) → rows f ≡ rows g
rows_same f g same = five_same (λ y. five (λ x. f x y)) (λ y. five (λ x. g x y)) (λ y k. five_same (λ x. f x y) (λ x. g x y) (λ x h. same x y h k))

-- what holds at each of the five places
pub each : (P : ℕ → Type 0) → P 0 → P 1 → P 2 → P 3 → P 4 → (x : ℕ) → x < 5 → P x
each P a b c d e zero h = a
each P a b c d e (suc zero) h = b
each P a b c d e (suc (suc zero)) h = c
each P a b c d e (suc (suc (suc zero))) h = d
each P a b c d e (suc (suc (suc (suc zero)))) h = e
each P a b c d e (suc (suc (suc (suc (suc x))))) h = absurd (omega arith)

parity_bit : (a : Rows) (x z : ℕ) → bit_of (parity_c a x) z ≡ bit_c a x z
parity_bit a x z =
    xor_bit (bit_xor (bit_xor (bit_xor (lane a x 0) (lane a x 1)) (lane a x 2)) (lane a x 3)) (lane a x 4) z
    ∙ ap (λ (n : ℕ). n ⊕ bit a x 4 z)
    (xor_bit (bit_xor (bit_xor (lane a x 0) (lane a x 1)) (lane a x 2)) (lane a x 3) z
    ∙ ap (λ (n : ℕ). n ⊕ bit a x 3 z)
    (xor_bit (bit_xor (lane a x 0) (lane a x 1)) (lane a x 2) z ∙ ap (λ (n : ℕ). n ⊕ bit a x 2 z) (xor_bit (lane a x 0) (lane a x 1) z)))

pub theta_bits : (a : Rows) → ((x : ℕ) → x < 5 → parity_c a x < 2 ^ 64) → ThetaBits a (theta_of a)
theta_bits a small x y z h k l =
    ap (λ (n : ℕ). bit_of n z) (rows_at (λ x y. bit_xor (lane a x y) (effect_d a x)) x y h k)
    ∙ xor_bit (lane a x y) (effect_d a x) z
    ∙ ap (λ (n : ℕ). bit a x y z ⊕ n)
    (xor_bit (parity_c a ((x + 4) % 5)) (rotated (parity_c a ((x + 1) % 5)) 1) z
    ∙ ap₂ (λ (p q : ℕ). p ⊕ q) (parity_bit a ((x + 4) % 5) z)
    (rotated_bit (parity_c a ((x + 1) % 5)) 1 z (small ((x + 1) % 5) (omega arith)) l ∙ parity_bit a ((x + 1) % 5) (back z 1)))

pub rho_bits : (a : Rows) → ((y : ℕ) → y < 5 → Words (get_or a y [])) → RhoBits a (rho_of a)
rho_bits a small x y z h k l =
    ap (λ (n : ℕ). bit_of n z) (rows_at (λ x y. rotated (lane a x y) (offset x y)) x y h k)
    ∙ rotated_bit (lane a x y) (offset x y) z (small y k x h) l

pub chi_bits : (a : Rows) → ((y : ℕ) → y < 5 → Words (get_or a y [])) → ChiBits a (chi_of a)
chi_bits a small x y z h k l =
    ap (λ (n : ℕ). bit_of n z)
    (ap (λ (r : List ℕ). get_or r x 0) (five_at (λ y. chi_row_of (get_or a y [])) [] y k)
    ∙ five_at (λ x. bit_xor (lane a x y) (bit_and (flipped (lane a ((x + 1) % 5) y)) (lane a ((x + 2) % 5) y))) 0 x h)
    ∙ xor_bit (lane a x y) (bit_and (flipped (lane a ((x + 1) % 5) y)) (lane a ((x + 2) % 5) y)) z
    ∙ ap (λ (n : ℕ). bit a x y z ⊕ n)
    (and_bit (flipped (lane a ((x + 1) % 5) y)) (lane a ((x + 2) % 5) y) z
    ∙ ap (λ (n : ℕ). n * bit a ((x + 2) % 5) y z) (flipped_bit (lane a ((x + 1) % 5) y) z (small y k ((x + 1) % 5) (omega arith)) l))

nowhere : (0 < 0) ⊎ (0 < 0) → ⊥
nowhere (inl h) = omega arith
nowhere (inr h) = omega arith

-- the first lane has v added, whose bits are those of the round's constant
abbrev pub with_first : Rows → ℕ → Rows
with_first a v = five (λ y. cond (y == 0) (iota_row_of (get_or a y []) v) (get_or a y []))

pub iota_bits : (a : Rows) (i v : ℕ) → ((z : ℕ) → z < 64 → bit_of v z ≡ bit_rc i z) → IotaBits a i (with_first a v)
iota_bits a i v constant =
    record {
      first = λ z h. xor_bit (lane a 0 0) v z ∙ ap (λ (n : ℕ). bit a 0 0 z ⊕ n) (constant z h);
      others = λ x y z h k l.
          each (λ y. (0 < x) ⊎ (0 < y) → bit (with_first a v) x y z ≡ bit a x y z)
          (λ w. each (λ x. (0 < x) ⊎ (0 < 0) → bit (with_first a v) x 0 z ≡ bit a x 0 z)
          (λ w. absurd (nowhere w)) (λ w. refl) (λ w. refl) (λ w. refl) (λ w. refl) x h w)
          (λ w. refl) (λ w. refl) (λ w. refl) (λ w. refl) y k;
    }
