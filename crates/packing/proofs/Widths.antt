-- Sizes worked out by eights.
use Rattle.std.proofs.Common.{◌≡◌, ℕ, ◌+◌, ◌*◌, ◌/◌, ◌%◌, ◌≤◌, sym, ap, ◌∙◌, arith}
use Rattle.std.proofs.lemmas.Nat.{div-add-mod', mul-le}
use Rattle.packing.specs.Packed.{width, byte_of}

eights : (b k : ℕ) → b * k ≡ 8 * (k / 8 * b) + k % 8 * b
eights b k = ap (λ (n : ℕ). b * n) (sym (div-add-mod' k 8)) ∙ omega arith

module _ (b k : ℕ) (h : b ≤ 8) where
  high : k / 8 * b ≤ k / 8 * 8
  high = mul-le (k / 8) b (k / 8) 8 (omega arith) h

  low : k % 8 * b ≤ k % 8 * 8
  low = mul-le (k % 8) b (k % 8) 8 (omega arith) h

  pub width_few : k / 8 * b + (k % 8 * b + 7) / 8 ≤ k
  width_few = omega (arith, high, low)

  pub byte_few : k / 8 * b + (k % 8 * b) / 8 ≤ k
  byte_few = omega (arith, high, low)

pub width_eights : (b k : ℕ) → k / 8 * b + (k % 8 * b + 7) / 8 ≡ width b k
width_eights b k = omega (arith, eights b k)

pub byte_eights : (b k : ℕ) → k / 8 * b + (k % 8 * b) / 8 ≡ byte_of b k
byte_eights b k = omega (arith, eights b k)

-- a packed vector has at most as many bytes as elements
pub width_under : (b k : ℕ) → b ≤ 8 → width b k ≤ k
width_under b k h = omega (arith, width_few b k h, width_eights b k)

-- and at least one where it has any
pub width_some : (b k : ℕ) → 1 ≤ b → 1 ≤ k → 1 ≤ width b k
width_some b k h l = omega (arith, mul-le 1 1 b k h l)
