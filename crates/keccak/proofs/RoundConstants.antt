-- The table of round constants is right at each of its entries, and at each of their bits, by tests that antt computes.
use Rattle.std.proofs.Common.{◌≡◌, ℕ, ◌^◌, ◌<◌, eqb, ltb, get_or, sym, ap, ◌∙◌, subst, eqb→eq, ltb→lt}
use Rattle.keccak.specs.State.{bit_of}
use Rattle.keccak.specs.Constants.{lane_rc, bit_rc}
use Rattle.keccak.specs.declared.constants.TheConstants.{ROUND_CONSTANTS}
use Rattle.keccak.proofs.Table.{at, every_below, below}

pub table_lane : (i : ℕ) → i < 24 → get_or ROUND_CONSTANTS i 0 ≡ lane_rc i
table_lane i h = eqb→eq (get_or ROUND_CONSTANTS i 0) (lane_rc i) (at (λ k v. eqb v (lane_rc k)) ROUND_CONSTANTS tt i h)

pub table_bit : (i : ℕ) → i < 24 → (z : ℕ) → z < 64 → bit_of (get_or ROUND_CONSTANTS i 0) z ≡ bit_rc i z
table_bit i h z k =
    eqb→eq (bit_of (get_or ROUND_CONSTANTS i 0) z) (bit_rc i z)
    (below (λ z. eqb (bit_of (get_or ROUND_CONSTANTS i 0) z) (bit_rc i z)) 64 (at (λ k v. every_below (λ z. eqb (bit_of v z) (bit_rc k z)) 64) ROUND_CONSTANTS tt i h) z k)

pub constant_bit : (i : ℕ) → i < 24 → (z : ℕ) → z < 64 → bit_of (lane_rc i) z ≡ bit_rc i z
constant_bit i h z k = ap (λ (n : ℕ). bit_of n z) (sym (table_lane i h)) ∙ table_bit i h z k

pub constant_below : (i : ℕ) → i < 24 → lane_rc i < 2 ^ 64
constant_below i h =
    subst (λ (n : ℕ). n < 2 ^ 64) (table_lane i h) (ltb→lt (get_or ROUND_CONSTANTS i 0) (2 ^ 64) (at (λ k v. ltb v (2 ^ 64)) ROUND_CONSTANTS tt i h))
