-- What the loop that looks at a packed vector comes to.
use Rattle.std.proofs.Common.{◌≡◌, ℕ, ◌-◌, ◌*◌, ◌%◌, ◌^◌, ◌<◌, ◌≤◌, Bool, true, false, cond, ltb, List, length, get_or, Ok, Err, Result, refl, ap, ◌∙◌, arith}
use Rattle.refusal.specs.declared.Refusal.{Refusal}
use lib.Bits.{bit_and}
use Rattle.std.proofs.lemmas.Nat.{and_mask, one_shl}
use Rattle.std.proofs.lemmas.Bool.{lt-ltb, le-ltb, ltb-false, eq-eqb, ne_eqb}
use Rattle.packing.specs.Numeral.{amount}
use Rattle.packing.specs.Packed.{elements, pad, first_not, fault, byte_of, codes_of}
use Rattle.packing.specs.declared.fault.Fault.TheVariants.{Element, Pad}
use Rattle.refusal.specs.declared.Refusal.TheVariants.{Element as NoCode}
use Rattle.packing.proofs.Numerals.{length_digits}
use Rattle.packing.proofs.Firsts.{first_here, first_le}

-- the low b bits by a mask
pub masked : (held b : ℕ) → b ≤ 8 → bit_and held ((1 * 2 ^ b) % 2 ^ 32 - 1) ≡ held % 2 ^ b
masked held b h =
    let e : (1 * 2 ^ b) % 2 ^ 32 ≡ 2 ^ b = one_shl b 32 (omega arith) in
    ap (λ (n : ℕ). bit_and held (n - 1)) e ∙ and_mask held b

pub no_code : (q b : ℕ) (v : List ℕ) (i : ℕ) → i ≤ first_not q v → i < length v → q ≤ get_or v i 0 → codes_of q b v ≡ Err (NoCode (byte_of b i))
no_code q b v i p h g =
    let at : first_not q v ≡ i = first_here q v p h g in
    rw (at, lt-ltb i (length v) h)

pub all_codes : (q b : ℕ) (v : List ℕ) → length v ≤ first_not q v → codes_of q b v ≡ Ok tt
all_codes q b v h =
    let at : first_not q v ≡ length v = omega (arith, first_le q v) in
    rw (at, le-ltb (length v) (length v) (omega arith))

module _ (q b k : ℕ) (bytes : List ℕ) (i : ℕ) (p : i ≤ first_not q (elements b k bytes)) where
  long : length (elements b k bytes) ≡ k
  long = length_digits (2 ^ b) k (amount 256 bytes)

  pub at_code : i < k → q ≤ get_or (elements b k bytes) i 0 → fault q b k bytes ≡ Err (Element i)
  at_code h g =
      let at : first_not q (elements b k bytes) ≡ i = first_here q (elements b k bytes) p (omega (arith, long)) g in
      rw (at, lt-ltb i k h)

  none : k ≤ i → first_not q (elements b k bytes) ≡ k
  none h = omega (arith, first_le q (elements b k bytes), long)

  pub at_pad : k ≤ i → (pad b k bytes ≡ 0 → ⊥) → fault q b k bytes ≡ Err Pad
  at_pad h n = rw (none h, le-ltb k k (omega arith), ne_eqb (pad b k bytes) 0 n)

  pub at_end : k ≤ i → pad b k bytes ≡ 0 → fault q b k bytes ≡ Ok tt
  at_end h e = rw (none h, le-ltb k k (omega arith), eq-eqb (pad b k bytes) 0 e)

-- every entry of a vector that was let through is a code
pub codes_ok : (q b : ℕ) (v : List ℕ) → codes_of q b v ≡ Ok tt → first_not q v ≡ length v
codes_ok q b v = go (ltb (first_not q v) (length v)) refl
  where
    go : (x : Bool) → ltb (first_not q v) (length v) ≡ x → ◌≡◌ {A = Result (Unit {0}) Refusal} (cond x (Err (NoCode (byte_of b (first_not q v)))) (Ok tt)) (Ok tt) → first_not q v ≡ length v
    go true e h =
        let z : ◌≡◌ {A = ℕ} 0 1 = cc in
        absurd (omega arith)
    go false e h = omega (arith, first_le q v, ltb-false (first_not q v) (length v) e)
