-- The sponge on bytes (FIPS 202, 4): a state takes in blocks of `rate` bytes, and gives out as many for each permutation.
use Rattle.std.specs.Prelude.{ℕ, zero, suc, ◌+◌, ◌*◌, ◌/◌, ◌%◌, ◌^◌, cond, List, length, drop, bit_xor, nat_lt, slice_index}
use Rattle.keccak.specs.State.{Rows, lane, rows}
use Rattle.keccak.specs.Rounds.{keccak_f}
use Rattle.sha3.specs.Padding.{padded}

-- the lane whose bytes stand from k, low byte first
abbrev pub lane_from : List ℕ → ℕ → ℕ
lane_from p k =
    slice_index p k + slice_index p (k + 1) * 256 + slice_index p (k + 2) * 65536 + slice_index p (k + 3) * 16777216
    + slice_index p (k + 4) * 4294967296 + slice_index p (k + 5) * 1099511627776 + slice_index p (k + 6) * 281474976710656 + slice_index p (k + 7) * 72057594037927936

-- lane j of the block at the front of p, which past the rate is zero
abbrev pub block_lane : ℕ → List ℕ → ℕ → ℕ
block_lane rate p j = cond (nat_lt (8 * j) rate) (lane_from p (8 * j)) 0

-- the block at the front of p, as the lanes of a state, row by row
abbrev pub block_rows : ℕ → List ℕ → Rows
block_rows rate p = rows (λ x y. block_lane rate p (5 * y + x))

-- a state with the block at the front of p added
abbrev pub block_added : ℕ → List ℕ → Rows → Rows
block_added rate p s = rows (λ x y. bit_xor (lane s x y) (lane (block_rows rate p) x y))

abbrev pub zeros : Rows
zeros = rows (λ x y. 0)

-- the state after n blocks of p
unfoldable pub absorbed : ℕ → List ℕ → ℕ → Rows
absorbed rate p zero = zeros
absorbed rate p (suc n) = keccak_f (block_added rate (drop (n * rate) p) (absorbed rate p n))

-- the state after the whole of a padded message
abbrev pub taken : ℕ → ℕ → List ℕ → Rows
taken rate suffix m = absorbed rate (padded rate suffix m) (length m / rate + 1)

-- byte j of a state: its lanes row by row, each low byte first
abbrev pub state_byte_of : Rows → ℕ → ℕ
state_byte_of s j = lane s (j / 8 % 5) (j / 40) / 2 ^ (8 * (j % 8)) % 256

-- the state after n more permutations
unfoldable pub later : ℕ → Rows → Rows
later zero s = s
later (suc n) s = keccak_f (later n s)

-- byte k of what is squeezed out
abbrev pub squeezed_byte : ℕ → Rows → ℕ → ℕ
squeezed_byte rate s k = state_byte_of (later (k / rate) s) (k % rate)
