-- The bits of a number are those of its digits, where the base is a power of two.
use Rattle.std.proofs.Common.{◌≡◌, ℕ, zero, suc, ◌+◌, ◌-◌, ◌*◌, ◌/◌, ◌%◌, ◌^◌, ◌<◌, List, [], ◌∷◌, get_or, sym, refl, ap, ◌∙◌, mul_comm, div-add-mod', arith}
use native.Mathlib.Nat.{add-mul-div_left, div-div-eq-div-mul, zero-div}
use Rattle.std.specs.List.{AllByRecursion}
use Rattle.std.proofs.lemmas.Nat.{pow-add, pow_pos, mod_below}
use Rattle.packing.specs.Numeral.{amount}
use Rattle.packing.specs.Laws.{bit_at}
use Rattle.packing.proofs.Numerals.{rest_digits}

-- a bit of the lowest digit
low_bit : (w r d a : ℕ) → r < w → (d + 2 ^ w * a) / 2 ^ r % 2 ≡ d / 2 ^ r % 2
low_bit w r d a h =
    let e : r + (1 + (w - r - 1)) ≡ w = omega arith in
    let f = rw e at (pow-add 2 r (1 + (w - r - 1))) in
    let g : 2 ^ (1 + (w - r - 1)) ≡ 2 * 2 ^ (w - r - 1) = pow-add 2 1 (w - r - 1) in
    let q : 2 ^ w * a ≡ 2 ^ r * (2 * (2 ^ (w - r - 1) * a)) = rw (f, g) (omega arith) in
    let s : (d + 2 ^ w * a) / 2 ^ r ≡ d / 2 ^ r + 2 * (2 ^ (w - r - 1) * a) = rw q (add-mul-div_left d (2 * (2 ^ (w - r - 1) * a)) (pow_pos r)) in
    rw s (omega arith)

bit_of_lem : (w r : ℕ) (ds : List ℕ) → r < w → AllByRecursion (λ d. d < 2 ^ w) ds → (q : ℕ) → get_or ds q 0 / 2 ^ r % 2 ≡ amount (2 ^ w) ds / 2 ^ (w * q + r) % 2
bit_of_lem w r [] h a q = ap (λ (n : ℕ). n % 2) (zero-div (2 ^ r) ∙ sym (zero-div (2 ^ (w * q + r))))
bit_of_lem w r (d ∷ ds) h a zero =
    let e : w * 0 + r ≡ r = omega arith in
    rw e (sym (low_bit w r d (amount (2 ^ w) ds) h))
bit_of_lem w r (d ∷ ds) h a (suc q) =
    let e : w * suc q + r ≡ w + (w * q + r) = omega arith in
    let s : (d + 2 ^ w * amount (2 ^ w) ds) / 2 ^ (w * suc q + r) ≡ amount (2 ^ w) ds / 2 ^ (w * q + r) =
    rw (e, pow-add 2 w (w * q + r)) (sym (div-div-eq-div-mul (d + 2 ^ w * amount (2 ^ w) ds) (2 ^ w) (2 ^ (w * q + r))) ∙ ap (λ (n : ℕ). n / 2 ^ (w * q + r)) (rest_digits (2 ^ w) d (amount (2 ^ w) ds) a.0)) in
    rw s (bit_of_lem w r ds h a.1 q)

pub bit_at_lem : (w : ℕ) (ds : List ℕ) (c : ℕ) → 0 < w → AllByRecursion (λ d. d < 2 ^ w) ds → bit_at w ds c ≡ amount (2 ^ w) ds / 2 ^ c % 2
bit_at_lem w ds c p a =
    let e : w * (c / w) + c % w ≡ c = ap (λ (n : ℕ). n + c % w) (mul_comm w (c / w)) ∙ div-add-mod' c w in
    bit_of_lem w (c % w) ds (mod_below c w p) a (c / w) ∙ rw e refl
