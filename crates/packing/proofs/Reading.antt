-- One turn of the loops that read a packed vector, and their ends.
use Rattle.std.proofs.Common.{◌≡◌, ℕ, ◌+◌, ◌-◌, ◌*◌, ◌/◌, ◌%◌, ◌^◌, ◌<◌, ◌≤◌, List, length, get_or, sym, ap, ◌∙◌, mul_comm, div-one, add-one, arith}
use native.Mathlib.Nat.{pow-zero, pow-succ', div-div-eq-div-mul}
use Rattle.std.proofs.lemmas.Nat.{mul-le}
use Rattle.packing.specs.Numeral.{amount}
use Rattle.packing.specs.Packed.{elements, width, pad}
use Rattle.packing.proofs.Numerals.{get_or_digits}

-- i of the k elements of b bits are taken off the bytes, `left` bits are left, and write `number`
pub record Reading (b k : ℕ) (bytes : List ℕ) (i number left : ℕ) : Type 0 where
  pub place : left + b * i ≡ 8 * length bytes
  pub within : i ≤ k
  pub room : length bytes ≡ width b k
  pub rest : number ≡ amount 256 bytes / (2 ^ b) ^ i

pub read_none : (b k : ℕ) (bytes : List ℕ) (number left : ℕ) → length bytes ≡ width b k → number ≡ amount 256 bytes → left ≡ 8 * length bytes → Reading b k bytes 0 number left
read_none b k bytes number left h e l = record {
  place = omega arith;
  within = omega arith;
  room = h;
  rest = e ∙ sym (div-one (amount 256 bytes)) ∙ ap (λ (n : ℕ). amount 256 bytes / n) (sym (pow-zero (2 ^ b)));
}

module _ {b k : ℕ} {bytes : List ℕ} {i number left : ℕ} (p : Reading b k bytes i number left) where
  -- the bits of the next element are there
  pub bits_in : i < k → b ≤ left
  bits_in h =
      let m : b * (i + 1) ≤ b * k = mul-le b (i + 1) b k (omega arith) (omega arith) in
      omega (arith, p.place, p.room)

  pub element_is : i < k → get_or (elements b k bytes) i 0 ≡ number % 2 ^ b
  element_is h = get_or_digits (2 ^ b) k (amount 256 bytes) i h ∙ ap (λ (n : ℕ). n % 2 ^ b) (sym p.rest)

  pub element_more : i < k → (n l : ℕ) → n ≡ number / 2 ^ b → l ≡ left - b → Reading b k bytes (i + 1) n l
  element_more h n l e f =
      let some : b ≤ left = bits_in h in
      let pow : (2 ^ b) ^ (i + 1) ≡ (2 ^ b) ^ i * 2 ^ b = ap (λ (n : ℕ). (2 ^ b) ^ n) (add-one i) ∙ pow-succ' (2 ^ b) i ∙ mul_comm (2 ^ b) ((2 ^ b) ^ i) in
      record {
        place = omega (arith, p.place);
        within = omega arith;
        room = p.room;
        rest =
            e
            ∙ ap (λ (n : ℕ). n / 2 ^ b) p.rest
            ∙ div-div-eq-div-mul (amount 256 bytes) ((2 ^ b) ^ i) (2 ^ b)
            ∙ ap (λ (n : ℕ). amount 256 bytes / n) (sym pow);
      }

  module _ (h : k ≤ i) where
    same : i ≡ k
    same = omega (arith, p.within)

    -- what is left at the end are less than eight bits
    pub bits_out : left < 8
    bits_out =
        let all : b * i ≡ b * k = ap (λ (n : ℕ). b * n) same in
        omega (arith, p.place, p.room)

    -- and they are the pad
    pub pad_is : pad b k bytes ≡ number
    pad_is = ap (λ (n : ℕ). amount 256 bytes / (2 ^ b) ^ n) (sym same) ∙ sym p.rest
