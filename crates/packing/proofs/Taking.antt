-- A reader of bits: one byte more, and the numbers that are taken off.
use Rattle.std.proofs.Common.{◌≡◌, ℕ, ◌+◌, ◌-◌, ◌*◌, ◌/◌, ◌%◌, ◌^◌, ◌<◌, ◌≤◌, List, [], ◌∷◌, length, get_or, take, drop, sym, ap, ◌∙◌, arith}
use native.Mathlib.Nat.{add-mul-div_left, add-mul-mod_self_left}
use Rattle.std.proofs.lemmas.Nat.{pow-add, pow_pos, mul-le, shr_below}
use Rattle.std.proofs.lemmas.List.{take_rest}
use Rattle.packing.specs.Numeral.{amount}

-- the next byte, and those behind it
pub next_byte : (bytes : List ℕ) (x : ℕ) → 0 < length bytes → x ≡ get_or bytes 0 0 → bytes ≡ x ∷ take (length bytes - 1) (drop 1 bytes)
next_byte [] x h e = elim h [ ]
next_byte (y ∷ bytes) x h e = cc (take_rest (y ∷ bytes) 1)

-- at least n bits of a number are held back, as `held`
pub record Held (n number held bits : ℕ) (bytes : List ℕ) : Type 0 where
  pub some : n ≤ bits
  pub few : bits < n + 8
  pub small : held < 2 ^ bits
  pub whole : held + 2 ^ bits * amount 256 bytes ≡ number

-- eight bits more
pub byte_more : (n number held bits x : ℕ) (old bytes : List ℕ) → n ≤ 8 → bits < n → x < 256 → old ≡ x ∷ bytes → held < 2 ^ bits → held + 2 ^ bits * amount 256 old ≡ number → Held n number (held + x * 2 ^ bits) (bits + 8) bytes
byte_more n number held bits x old bytes few more l first small is =
    let a : amount 256 old ≡ x + 256 * amount 256 bytes = ap (amount 256) first in
    let w : 2 ^ (bits + 8) ≡ 2 ^ bits * 256 = pow-add 2 bits 8 in
    let m : x * 2 ^ bits ≤ 255 * 2 ^ bits = mul-le x (2 ^ bits) 255 (2 ^ bits) (omega arith) (omega arith) in
    let same : held + 2 ^ bits * amount 256 old ≡ held + x * 2 ^ bits + 2 ^ (bits + 8) * amount 256 bytes = rw (a, w) (omega arith) in
    record {
      some = omega arith;
      few = omega arith;
      small = omega arith;
      whole = sym same ∙ is;
    }

-- the lowest n bits are taken off
module _ {n number held bits : ℕ} {bytes : List ℕ} (h : Held n number held bits bytes) where
  halved : 2 ^ bits ≡ 2 ^ n * 2 ^ (bits - n)
  halved =
      let s = h.some in
      let e : n + (bits - n) ≡ bits = omega arith in
      rw e at (pow-add 2 n (bits - n))

  split : number ≡ held + 2 ^ n * (2 ^ (bits - n) * amount 256 bytes)
  split = sym h.whole ∙ rw halved (omega arith)

  pub value_is : held % 2 ^ n ≡ number % 2 ^ n
  value_is = rw split (sym (add-mul-mod_self_left held (2 ^ n) (2 ^ (bits - n) * amount 256 bytes)))

  pub number_is : held / 2 ^ n + 2 ^ (bits - n) * amount 256 bytes ≡ number / 2 ^ n
  number_is = rw split (sym (add-mul-div_left held (2 ^ (bits - n) * amount 256 bytes) (pow_pos n)))

  pub small_is : held / 2 ^ n < 2 ^ (bits - n)
  small_is =
      let s = h.some in
      let e : bits - n + n ≡ bits = omega arith in
      let less : held < 2 ^ (bits - n + n) = rw e h.small in
      shr_below held (bits - n) n less
