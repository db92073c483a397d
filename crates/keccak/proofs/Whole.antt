-- The whole permutation, bit by bit, of any state of 64-bit lanes.
use Rattle.std.proofs.Common.{ℕ, zero, suc, ◌+◌, ◌*◌, ◌%◌, ◌^◌, ◌<◌, ◌≤◌, [], get_or, sym, refl, ap, subst, lt_of_le_of_lt, arith}
use lib.Bits.{bit_xor, bit_and}
use Rattle.std.proofs.lemmas.Nat.{xor_lt, and_le_r}
use Rattle.keccak.specs.State.{Rows, lane, bit_of, rows, Words, Lanes64}
use Rattle.keccak.specs.Lanes.{parity_c, effect_d, rotated, theta_of, rho_of, offset, pi_of, flipped, chi_of}
use Rattle.keccak.specs.Constants.{lane_rc, iota_row_of, iota_of}
use Rattle.keccak.specs.Bits.{PiBits, RoundBits, RoundsBits}
use Rattle.keccak.specs.Rounds.{round_of, rounds, keccak_f}
use Rattle.keccak.proofs.Bits.{rotated_below}
use Rattle.keccak.proofs.BitByBit.{each, rows_at, theta_bits, rho_bits, chi_bits, iota_bits}
use Rattle.keccak.proofs.RoundConstants.{constant_bit, constant_below}

pub rows_below : (f : ℕ → ℕ → ℕ) → ((x y : ℕ) → x < 5 → y < 5 → f x y < 2 ^ 64) → Lanes64 (rows f)
rows_below f small y k x h = subst (λ (n : ℕ). n < 2 ^ 64) (sym (rows_at f x y h k)) (small x y h k)

-- ---- each step keeps lanes of 64 bits

pub parity_below : (a : Rows) → Lanes64 a → (x : ℕ) → x < 5 → parity_c a x < 2 ^ 64
parity_below a small x h =
    xor_lt 64 (bit_xor (bit_xor (bit_xor (lane a x 0) (lane a x 1)) (lane a x 2)) (lane a x 3)) (lane a x 4)
    (xor_lt 64 (bit_xor (bit_xor (lane a x 0) (lane a x 1)) (lane a x 2)) (lane a x 3)
    (xor_lt 64 (bit_xor (lane a x 0) (lane a x 1)) (lane a x 2)
    (xor_lt 64 (lane a x 0) (lane a x 1) (small 0 (omega arith) x h) (small 1 (omega arith) x h))
    (small 2 (omega arith) x h))
    (small 3 (omega arith) x h))
    (small 4 (omega arith) x h)

theta_below : (a : Rows) → Lanes64 a → Lanes64 (theta_of a)
theta_below a small =
    rows_below (λ x y. bit_xor (lane a x y) (effect_d a x))
    (λ x y h k. xor_lt 64 (lane a x y) (effect_d a x) (small y k x h)
    (xor_lt 64 (parity_c a ((x + 4) % 5)) (rotated (parity_c a ((x + 1) % 5)) 1) (parity_below a small ((x + 4) % 5) (omega arith))
    (rotated_below (parity_c a ((x + 1) % 5)) 1 (parity_below a small ((x + 1) % 5) (omega arith)))))

rho_below : (a : Rows) → Lanes64 a → Lanes64 (rho_of a)
rho_below a small = rows_below (λ x y. rotated (lane a x y) (offset x y)) (λ x y h k. rotated_below (lane a x y) (offset x y) (small y k x h))

pi_below : (a : Rows) → Lanes64 a → Lanes64 (pi_of a)
pi_below a small = rows_below (λ x y. lane a ((x + 3 * y) % 5) x) (λ x y h k. small x h ((x + 3 * y) % 5) (omega arith))

chi_below : (a : Rows) → Lanes64 a → Lanes64 (chi_of a)
chi_below a small =
    rows_below (λ x y. bit_xor (lane a x y) (bit_and (flipped (lane a ((x + 1) % 5) y)) (lane a ((x + 2) % 5) y)))
    (λ x y h k. xor_lt 64 (lane a x y) (bit_and (flipped (lane a ((x + 1) % 5) y)) (lane a ((x + 2) % 5) y)) (small y k x h)
    (lt_of_le_of_lt (and_le_r (flipped (lane a ((x + 1) % 5) y)) (lane a ((x + 2) % 5) y)) (small y k ((x + 2) % 5) (omega arith))))

iota_below : (a : Rows) (i : ℕ) → i < 24 → Lanes64 a → Lanes64 (iota_of a i)
iota_below a i h small =
    each (λ y. Words (get_or (iota_of a i) y []))
    (each (λ x. get_or (iota_row_of (get_or a 0 []) (lane_rc i)) x 0 < 2 ^ 64)
    (xor_lt 64 (lane a 0 0) (lane_rc i) (small 0 (omega arith) 0 (omega arith)) (constant_below i h))
    (small 0 (omega arith) 1 (omega arith)) (small 0 (omega arith) 2 (omega arith)) (small 0 (omega arith) 3 (omega arith)) (small 0 (omega arith) 4 (omega arith)))
    (small 1 (omega arith)) (small 2 (omega arith)) (small 3 (omega arith)) (small 4 (omega arith))

-- ---- rounds

pub pi_bits : (a : Rows) → PiBits a (pi_of a)
pi_bits a x y z h k l = ap (λ (n : ℕ). bit_of n z) (rows_at (λ x y. lane a ((x + 3 * y) % 5) x) x y h k)

round_bits : (a : Rows) (i : ℕ) → i < 24 → Lanes64 a → RoundBits a i (round_of a i)
unfolding round_of
round_bits a i h small =
    let t : Lanes64 (theta_of a) = theta_below a small in
    let u : Lanes64 (rho_of (theta_of a)) = rho_below (theta_of a) t in
    let v : Lanes64 (pi_of (rho_of (theta_of a))) = pi_below (rho_of (theta_of a)) u in
    record {
      t = theta_of a;
      u = rho_of (theta_of a);
      v = pi_of (rho_of (theta_of a));
      w = chi_of (pi_of (rho_of (theta_of a)));
      theta = theta_bits a (parity_below a small);
      rho = rho_bits (theta_of a) t;
      pi = pi_bits (rho_of (theta_of a));
      chi = chi_bits (pi_of (rho_of (theta_of a))) v;
      iota = iota_bits (chi_of (pi_of (rho_of (theta_of a)))) i (lane_rc i) (constant_bit i h);
    }

round_below : (a : Rows) (i : ℕ) → i < 24 → Lanes64 a → Lanes64 (round_of a i)
unfolding round_of
round_below a i h small =
    iota_below (chi_of (pi_of (rho_of (theta_of a)))) i h (chi_below (pi_of (rho_of (theta_of a))) (pi_below (rho_of (theta_of a)) (rho_below (theta_of a) (theta_below a small))))

rounds_below : (n : ℕ) (a : Rows) → n ≤ 24 → Lanes64 a → Lanes64 (rounds n a)
unfolding rounds
rounds_below zero a h small = small
rounds_below (suc n) a h small = round_below (rounds n a) n (omega arith) (rounds_below n a (omega arith) small)

rounds_bits : (n : ℕ) (a : Rows) → n ≤ 24 → Lanes64 a → RoundsBits n a (rounds n a)
unfolding rounds RoundsBits
rounds_bits zero a h small = refl
rounds_bits (suc n) a h small =
    (rounds n a, rounds_bits n a (omega arith) small, round_bits (rounds n a) n (omega arith) (rounds_below n a (omega arith) small))

pub keccak_f_below : (a : Rows) → Lanes64 a → Lanes64 (keccak_f a)
keccak_f_below a small = rounds_below 24 a (omega arith) small

pub keccak_f_bits : (a : Rows) → Lanes64 a → RoundsBits 24 a (keccak_f a)
keccak_f_bits a small = rounds_bits 24 a (omega arith) small
