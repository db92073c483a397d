-- The sponge on strings of bits, as FIPS 202 states it (3.1.2, 3.1.3 and 4).
use Rattle.std.specs.Prelude.{◌≡◌, ℕ, zero, suc, ◌+◌, ◌*◌, ◌/◌, ◌%◌, ◌<◌, cond, List, length, nat_lt, slice_index}
use Rattle.keccak.specs.State.{Rows, bit}
use Rattle.keccak.specs.Bits.{◌⊕◌, RoundsBits}

-- S[k], the string of a state: A[x, y, z] is S[64(5y + x) + z]
abbrev pub string_bit : Rows → ℕ → ℕ
string_bit s k = bit s (k / 64 % 5) (k / 320) (k % 64)

-- t is S ⊕ (P_i ‖ 0^c), with P_i the block i of r bits of the string P
abbrev pub Adds : ℕ → List ℕ → ℕ → Rows → Rows → Type 0
Adds r p i s t = (k : ℕ) → k < 1600 → string_bit t k ≡ string_bit s k ⊕ cond (nat_lt k r) (slice_index p (r * i + k)) 0

-- s is the state after the blocks 0 to n - 1 of P: from 0^b, each is added and the whole is permuted
unfoldable pub Absorbs : ℕ → List ℕ → ℕ → Rows → Type 0
Absorbs r p zero s = (k : ℕ) → k < 1600 → string_bit s k ≡ 0
Absorbs r p (suc n) s = (u : Rows) × (t : Rows) × (Absorbs r p n u) × (Adds r p n u t) × (RoundsBits 24 t s)

-- Z is what the sponge of rate r gives for the padded string P of n blocks: the first r bits of each of the states S, one after another
pub record Sponge (r : ℕ) (p z : List ℕ) : Type 0 where
  pub n : ℕ
  pub S : ℕ → Rows
  pub blocks : length p ≡ r * n
  pub absorbs : Absorbs r p n (S 0)
  pub permutes : (i : ℕ) → RoundsBits 24 (S i) (S (i + 1))
  pub squeezes : (j : ℕ) → j < length z → slice_index z j ≡ string_bit (S (j / r)) (j % r)
