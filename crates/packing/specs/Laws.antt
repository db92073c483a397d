-- What packing and unpacking owe each other, bit by bit and fault by fault.
use Rattle.std.specs.Prelude.{◌≡◌, ℕ, ◌+◌, ◌-◌, ◌/◌, ◌%◌, ◌^◌, ◌<◌, ◌≤◌, ◌⊎◌, List, length, Ok, Err, Result, ◌≢◌, slice_index}
use Rattle.std.specs.List.{AllByRecursion}
use Rattle.refusal.specs.declared.Refusal.{Refusal}
use Rattle.refusal.specs.Numbers.{numbers_of}
use Rattle.packing.specs.Packed.{width, byte_of, elements, pad, pack_of, unpack_of}

-- bit c of numbers of w bits each, counted from the lowest bit of the first; 0 past the last
abbrev pub bit_at : ℕ → List ℕ → ℕ → ℕ
bit_at w xs c = slice_index xs (c / w) / 2 ^ (c % w) % 2

-- element i fills bits bi to bi + b - 1, the bits above the last are zero, and unpacking gives the vector back
pub record Packs (q b : ℕ) (v bytes : List ℕ) : Type 0 where
  pub fills : (c : ℕ) → bit_at 8 bytes c ≡ bit_at b v c
  pub undone : unpack_of q b (length v) bytes ≡ Ok v

-- what was unpacked are codes, bit by bit those of the bytes, and packing gives the bytes back
pub record Unpacks (q b : ℕ) (bytes v : List ℕ) : Type 0 where
  pub codes : AllByRecursion (λ x. x < q) v
  pub fills : (c : ℕ) → bit_at 8 bytes c ≡ bit_at b v c
  pub redone : pack_of q b v (length bytes) ≡ Ok bytes

-- what is wrong with the bytes of a vector that begins at byte `at` of a signature, by number and place:
-- an element that is no code, at the byte of its lowest bit; the pad, at the last byte
abbrev pub Wrong : ℕ → ℕ → ℕ → ℕ → List ℕ → ℕ → ℕ → Type 0
Wrong q b at k bytes number place =
    ((number ≡ 10) × ((i : ℕ) × (i < k) × (q ≤ slice_index (elements b k bytes) i) × (place ≡ at + byte_of b i)))
    ⊎ ((number ≡ 11) × (pad b k bytes ≢ 0) × (place ≡ at + (width b k - 1)))

-- and in a key: the element, or past the last for the pad
abbrev pub KeyWrong : ℕ → ℕ → ℕ → List ℕ → ℕ → ℕ → Type 0
KeyWrong q b k bytes number place =
    (number ≡ 8)
    × (((place < k) × (q ≤ slice_index (elements b k bytes) place))
    ⊎ ((place ≡ k) × (pad b k bytes ≢ 0)))

-- of all that is wrong, the earliest place, and at one place the smallest number
pub record Earliest (W : ℕ → ℕ → Type 0) (number place : ℕ) : Type 0 where
  pub wrong : W number place
  pub least : (n p : ℕ) → W n p → (place < p) ⊎ ((place ≡ p) × (number ≤ n))

-- accepted where nothing is wrong, else the earliest is told
abbrev pub Judges : (ℕ → ℕ → Type 0) → Result (Unit {0}) Refusal → Type 0
Judges W (Ok x) = (number place : ℕ) → W number place → ⊥
Judges W (Err e) = Earliest W (numbers_of e).0 (numbers_of e).2
