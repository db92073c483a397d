-- One turn of the loop that writes a packed vector.
use Rattle.std.proofs.Common.{◌≡◌, ℕ, ◌+◌, ◌-◌, ◌*◌, ◌/◌, ◌%◌, ◌^◌, ◌<◌, ◌≤◌, List, ◌∷◌, ◌++◌, length, get_or, take, drop, set, sym, ap, ◌∙◌, ap₂, arith}
use native.Mathlib.Nat.{pow-zero}
use lib.Bits.{bit_or}
use Rattle.std.proofs.lemmas.List.{length-set, at_drop_more, at_drop_all, take_more_set, append_assoc, append-nil, take_all}
use Rattle.std.proofs.lemmas.Nat.{or_comm, or_shifted, pow-add, pow_below, mul-le}
use Rattle.packing.specs.Numeral.{amount, digits}
use Rattle.packing.specs.Packed.{packed, width}
use Rattle.packing.proofs.Numerals.{digits_step}

pair : {x y : ℕ} {xs ys : List ℕ} → x ≡ y → xs ≡ ys → x ∷ xs ≡ y ∷ ys
pair p q = cc

-- i elements of v are read and j bytes are written; `bits` bits are held back, as the number `held`
pub record Packing (b : ℕ) (v out : List ℕ) (i j held bits : ℕ) : Type 0 where
  pub place : 8 * j + bits ≡ b * i
  pub few : bits < 8
  pub small : held < 2 ^ bits
  pub within : i ≤ length v
  pub room : length out ≡ width b (length v)
  pub written : take j out ++ digits 256 (width b (length v) - j) (held + 2 ^ bits * amount (2 ^ b) (drop i v)) ≡ packed b v

pub pack_none : (b : ℕ) (v out : List ℕ) → length out ≡ width b (length v) → Packing b v out 0 0 0 0
pack_none b v out h =
    let one : 2 ^ 0 ≡ 1 = pow-zero 2 in
    let m : 0 + 2 ^ 0 * amount (2 ^ b) v ≡ amount (2 ^ b) v = omega arith in
    let w : width b (length v) - 0 ≡ width b (length v) = omega arith in
    record { place = omega arith; few = omega arith; small = omega arith; within = omega arith; room = h; written = rw (m, w) }

-- b bits more
module _ {b : ℕ} {v out : List ℕ} {i j held bits : ℕ} (few : b ≤ 8) (p : Packing b v out i j held bits) (x : ℕ) (h : i < length v) (e : x ≡ get_or v i 0) (l : x < 2 ^ b) where
  -- what is to be written is the same number
  taken_up : held + 2 ^ bits * amount (2 ^ b) (drop i v) ≡ (held + x * 2 ^ bits) + 2 ^ (bits + b) * amount (2 ^ b) (drop (i + 1) v)
  taken_up =
      let s : amount (2 ^ b) (drop i v) ≡ get_or v i 0 + 2 ^ b * amount (2 ^ b) (drop (i + 1) v) = at_drop_more (amount (2 ^ b)) v i 0 h in
      let w : 2 ^ (bits + b) ≡ 2 ^ bits * 2 ^ b = pow-add 2 bits b in
      rw (s, w, ← e) (omega arith)

  pub grown : held + x * 2 ^ bits < 2 ^ (bits + b)
  grown =
      let w : 2 ^ (bits + b) ≡ 2 ^ bits * 2 ^ b = pow-add 2 bits b in
      let m : (x + 1) * 2 ^ bits ≤ 2 ^ b * 2 ^ bits = mul-le (x + 1) (2 ^ bits) (2 ^ b) (2 ^ bits) (omega arith) (omega arith) in
      let s = p.small in
      omega arith

  pub pack_on : bits + b < 8 → Packing b v out (i + 1) j (held + x * 2 ^ bits) (bits + b)
  pack_on less = record {
    place = omega (arith, p.place);
    few = less;
    small = grown;
    within = omega arith;
    room = p.room;
    written = rw (← taken_up) p.written;
  }

  -- the byte that is written lies in the buffer
  pub pack_in : 8 ≤ bits + b → j < length out
  pack_in many =
      let m : b * (i + 1) ≤ b * length v = mul-le b (i + 1) b (length v) (omega arith) (omega arith) in
      omega (arith, p.room, p.place)

  pub pack_out : 8 ≤ bits + b → Packing b v (set out j ((held + x * 2 ^ bits) % 256)) (i + 1) (j + 1) ((held + x * 2 ^ bits) / 256) (bits + b - 8)
  pack_out many =
      let y : ℕ = held + x * 2 ^ bits in
      let back : bits + b - 8 + 8 ≡ bits + b = omega arith in
      let w : 2 ^ (bits + b) ≡ 2 ^ (bits + b - 8) * 256 = rw back at (pow-add 2 (bits + b - 8) 8) in
      let r : ℕ = amount (2 ^ b) (drop (i + 1) v) in
      let q : 2 ^ (bits + b) * r ≡ 256 * (2 ^ (bits + b - 8) * r) = rw w (omega arith) in
      let g : y < 2 ^ (bits + b) = grown in
      let lt : j < length out = pack_in many in
      let z : ℕ = y % 256 in
      let low : (y + 2 ^ (bits + b) * r) % 256 ≡ y % 256 = omega arith in
      let high : (y + 2 ^ (bits + b) * r) / 256 ≡ y / 256 + 2 ^ (bits + b - 8) * r = omega arith in
      let one : digits 256 (width b (length v) - j) (y + 2 ^ (bits + b) * r) ≡ z ∷ digits 256 (width b (length v) - (j + 1)) (y / 256 + 2 ^ (bits + b - 8) * r) =
      digits_step 256 (width b (length v) - j) (y + 2 ^ (bits + b) * r) (omega (arith, p.room))
      ∙ pair low (ap₂ (digits 256) (omega arith) high) in
      record {
        place = omega (arith, p.place);
        few = omega (arith, p.few);
        small = omega arith;
        within = omega arith;
        room = rw length-set p.room;
        written = rw (take_more_set out j z lt, append_assoc) (rw (← one, ← taken_up) p.written);
      }

module _ {b : ℕ} {v out : List ℕ} {i j held bits : ℕ} (p : Packing b v out i j held bits) (h : length v ≤ i) where
  done : b * i ≡ b * length v
  done =
      let e : i ≡ length v = omega (arith, p.within) in
      ap (λ (n : ℕ). b * n) e

  pub last_in : 0 < bits → j < length out
  last_in some = omega (arith, p.room, p.place, done)

  pub pack_last : 0 < bits → set out j held ≡ packed b v
  pack_last some =
      let none : amount (2 ^ b) (drop i v) ≡ 0 = at_drop_all (amount (2 ^ b)) v i h in
      let small : held < 256 = omega (arith, p.small, pow_below bits 8 p.few) in
      let one : width b (length v) - j ≡ 1 = omega (arith, p.place, p.few, done) in
      let lt : j < length out = last_in some in
      let m : held + 2 ^ bits * amount (2 ^ b) (drop i v) ≡ held = rw none (omega arith) in
      let same : held % 256 ≡ held = omega arith in
      let all : take (j + 1) (set out j held) ≡ set out j held = take_all (j + 1) (set out j held) (rw length-set (omega (arith, p.room))) in
      sym all ∙ take_more_set out j held lt ∙ rw (one, m, same) at p.written

  pub pack_done : bits ≤ 0 → out ≡ packed b v
  pack_done none =
      let over : width b (length v) - j ≡ 0 = omega (arith, p.place, done) in
      let all : take j out ≡ out = take_all j out (omega (arith, p.room, p.place, done)) in
      sym (append-nil out) ∙ rw (over, all) at p.written

-- a number below 2^k joined with one shifted past it
pub or_above : (held x k : ℕ) → held < 2 ^ k → bit_or held (x * 2 ^ k) ≡ held + x * 2 ^ k
or_above held x k h = or_comm held (x * 2 ^ k) ∙ or_shifted x k held h ∙ omega arith
