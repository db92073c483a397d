-- Vectors as they are loaded from their packed form into the front of a buffer.
use Rattle.std.proofs.Common.{◌≡◌, ℕ, ◌-◌, ◌^◌, ◌≤◌, List, length, take, sym, ap, subst, arith, length-take}
use native.Mathlib.Nat.{sub-zero}
use Rattle.field.specs.Codes.{Codes, Vector}
use Rattle.packing.specs.Numeral.{amount}
use Rattle.packing.specs.Packed.{elements}
use Rattle.packing.proofs.Numerals.{length_digits}

-- the front of a buffer, as `&s[0..n]` has it
pub front_is : (n : ℕ) (xs : List ℕ) → take (n - 0) xs ≡ take n xs
front_is n xs = ap (λ (k : ℕ). take k xs) (sub-zero n)

pub front_long : (n : ℕ) (xs : List ℕ) → n ≤ length xs → length (take (n - 0) xs) ≡ n
front_long n xs h = simp length-take (omega arith)

pub loaded : (q b n : ℕ) (out bytes : List ℕ) → out ≡ elements b n bytes → Codes q (elements b n bytes) → Vector q n out
loaded q b n out bytes e c = subst (Vector q n) (sym e) (record { long = length_digits (2 ^ b) n (amount 256 bytes); codes = c })
