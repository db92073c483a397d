-- There and back: packing and unpacking undo each other.
use Rattle.std.proofs.Common.{◌≡◌, ℕ, zero, suc, ◌+◌, ◌*◌, ◌/◌, ◌%◌, ◌^◌, ◌<◌, ◌≤◌, Bool, true, false, cond, eqb, ltb, List, length, Ok, Err, Result, sym, refl, ap, ◌∙◌, ap₂, div-lt_iff_lt-mul, arith}
use native.Mathlib.Nat.{pow-zero, pow-succ', pow-le-pow_right, div-eq_of_lt}
use Rattle.std.specs.List.{AllByRecursion}
use Rattle.std.proofs.lemmas.Nat.{pow-add, pow_pos}
use Rattle.std.proofs.ByRecursion.{All-weaker}
use Rattle.std.proofs.lemmas.Bool.{eq-eqb, eqb-true, ltb-false}
use Rattle.refusal.specs.declared.Refusal.{Refusal}
use Rattle.packing.specs.Numeral.{amount, digits}
use Rattle.packing.specs.Packed.{packed, elements, width, pad, first_not, fault, codes_of, pack_of, unpack_by}
use Rattle.packing.specs.declared.fault.Fault.{Fault}
use Rattle.packing.specs.declared.fault.Fault.TheVariants.{Element, Pad}
use Rattle.packing.specs.Laws.{Packs, Unpacks, bit_at}
use Rattle.packing.proofs.Numerals.{digits_amount, amount_digits, amount_lt, length_digits, all_digits}
use Rattle.packing.proofs.Bitwise.{bit_at_lem}
use Rattle.packing.proofs.Firsts.{first_codes, codes_from, first_le}
use Rattle.packing.proofs.Faults.{at_end, all_codes}

pow_of : (b n : ℕ) → (2 ^ b) ^ n ≡ 2 ^ (b * n)
pow_of b zero =
    let e : b * 0 ≡ 0 = omega arith in
    rw (pow-zero, e)
pow_of b (suc n) =
    let e : b * suc n ≡ b + b * n = omega arith in
    pow-succ' (2 ^ b) n ∙ ap (λ (m : ℕ). 2 ^ b * m) (pow_of b n) ∙ sym (rw e (pow-add 2 b (b * n)))

-- k elements fit their bytes
fit : (b k : ℕ) → (2 ^ b) ^ k ≤ 256 ^ width b k
fit b k =
    let left = pow_of b k in
    let right = pow_of 8 (width b k) in
    let le : b * k ≤ 8 * width b k = omega arith in
    let two : 0 < 2 = omega arith in
    omega (arith, pow-le-pow_right two le)

packed_amount : (b : ℕ) (v : List ℕ) → AllByRecursion (λ x. x < 2 ^ b) v → amount 256 (packed b v) ≡ amount (2 ^ b) v
packed_amount b v wide =
    let lt = amount_lt (2 ^ b) v wide in
    amount_digits 256 (width b (length v)) (amount (2 ^ b) v) (omega arith) (omega (arith, fit b (length v)))

pub packed_length : (b : ℕ) (v : List ℕ) → length (packed b v) ≡ width b (length v)
packed_length b v = length_digits 256 (width b (length v)) (amount (2 ^ b) v)

pub fills : (b : ℕ) (v : List ℕ) → 1 ≤ b → AllByRecursion (λ x. x < 2 ^ b) v → (c : ℕ) → bit_at 8 (packed b v) c ≡ bit_at b v c
fills b v some a c =
    bit_at_lem 8 (packed b v) c (omega arith) (all_digits 256 _ _ (omega arith))
    ∙ ap (λ (n : ℕ). n / 2 ^ c % 2) (packed_amount b v a)
    ∙ sym (bit_at_lem b v c some a)

-- unpacking where nothing is wrong
pub unpack_ok : (f : Fault → Refusal) (q b k : ℕ) (bytes : List ℕ) → length bytes ≡ width b k → fault q b k bytes ≡ Ok tt → unpack_by f q b k bytes ≡ Ok (elements b k bytes)
unpack_ok f q b k bytes long ok = rw (eq-eqb (length bytes) (width b k) long, ok)

pub pack_ok : (q b : ℕ) (v : List ℕ) (room : ℕ) → room ≡ width b (length v) → first_not q v ≡ length v → pack_of q b v room ≡ Ok (packed b v)
pack_ok q b v room long none =
    let ok : codes_of q b v ≡ Ok tt = all_codes q b v (omega arith) in
    rw (eq-eqb room (width b (length v)) long, ok)

wide : (q b : ℕ) (v : List ℕ) → q ≤ 2 ^ b → AllByRecursion (λ x. x < q) v → AllByRecursion (λ x. x < 2 ^ b) v
wide q b v fits a = All-weaker (λ x. x < q) (λ x. x < 2 ^ b) (λ x h. omega arith) v a

pub packs : (q b : ℕ) (v : List ℕ) → 1 ≤ b → q ≤ 2 ^ b → AllByRecursion (λ x. x < q) v → Packs q b v (packed b v)
packs q b v some fits a =
    let k : ℕ = length v in
    let w : AllByRecursion (λ x. x < 2 ^ b) v = wide q b v fits a in
    let lt : amount (2 ^ b) v < (2 ^ b) ^ k = amount_lt (2 ^ b) v w in
    let n : amount 256 (packed b v) ≡ amount (2 ^ b) v = packed_amount b v w in
    let es : elements b k (packed b v) ≡ v = ap (digits (2 ^ b) k) n ∙ digits_amount (2 ^ b) v w in
    let first : first_not q (elements b k (packed b v)) ≡ k = ap (first_not q) es ∙ first_codes q v a in
    let none : pad b k (packed b v) ≡ 0 = ap (λ (m : ℕ). m / (2 ^ b) ^ k) n ∙ div-eq_of_lt lt in
    let ok : fault q b k (packed b v) ≡ Ok tt = at_end q b k (packed b v) k (omega arith) (omega arith) none in
    record {
      fills = fills b v some w;
      undone = unpack_ok _ q b k (packed b v) (packed_length b v) ok ∙ ap Ok es;
    }

-- what is accepted has only codes, and no pad
parts : (x y : Bool) (e f : Fault) → ◌≡◌ {A = Result (Unit {0}) Fault} (cond x (Err e) (cond y (Ok tt) (Err f))) (Ok tt) → (x ≡ false) × (y ≡ true)
parts true y e f h =
    let z : ◌≡◌ {A = ℕ} 0 1 = cc in
    absurd (omega arith)
parts false true e f h = (refl, refl)
parts false false e f h =
    let z : ◌≡◌ {A = ℕ} 0 1 = cc in
    absurd (omega arith)

pub unpacks : (q b k : ℕ) (bytes : List ℕ) → 1 ≤ b → q ≤ 2 ^ b → AllByRecursion (λ x. x < 256) bytes → length bytes ≡ width b k → fault q b k bytes ≡ Ok tt → Unpacks q b bytes (elements b k bytes)
unpacks q b k bytes some fits a long ok =
    let n : ℕ = amount 256 bytes in
    let es : List ℕ = elements b k bytes in
    let f : ℕ = first_not q es in
    let p = parts (ltb f k) (eqb (pad b k bytes) 0) (Element f) Pad ok in
    let none : pad b k bytes ≡ 0 = eqb-true (pad b k bytes) 0 p.1 in
    let pos : 0 < (2 ^ b) ^ k = omega (arith, pow_of b k, pow_pos (b * k)) in
    let less : n / (2 ^ b) ^ k < 1 = omega arith in
    let lt : n < (2 ^ b) ^ k = omega (arith, (div-lt_iff_lt-mul {x = n} {y = 1} pos).0 less) in
    let len : length es ≡ k = length_digits (2 ^ b) k n in
    let first : f ≡ length es = omega (arith, first_le q es, ltb-false f k p.0) in
    let codes : AllByRecursion (λ x. x < q) es = codes_from q es first in
    let back : amount (2 ^ b) es ≡ n = amount_digits (2 ^ b) k n (pow_pos b) lt in
    let same : packed b es ≡ bytes = ap₂ (digits 256) (ap (width b) len ∙ sym long) back ∙ digits_amount 256 bytes a in
    record {
      codes = codes;
      fills = λ c. ap (λ (l : List ℕ). bit_at 8 l c) (sym same) ∙ fills b es some (wide q b es fits codes) c;
      redone = pack_ok q b es (length bytes) (long ∙ sym (ap (width b) len)) first ∙ ap Ok same;
    }
