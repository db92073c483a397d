-- The state A of Keccak-f[1600] (FIPS 202, 3.1): five rows of five lanes of 64 bits. Row y is element y, and its lane x stands at x.
use Rattle.std.specs.Prelude.{ℕ, ◌/◌, ◌%◌, ◌^◌, ◌<◌, List, [], ◌∷◌, slice_index, slice_index_or}

abbrev pub Rows : Type 0
Rows = List (List ℕ)

-- Lane(x, y)
abbrev pub lane : Rows → ℕ → ℕ → ℕ
lane a x y = slice_index (slice_index_or a y []) x

-- bit z of a lane, the lowest at 0
abbrev pub bit_of : ℕ → ℕ → ℕ
bit_of v z = v / 2 ^ z % 2

-- A[x, y, z]
abbrev pub bit : Rows → ℕ → ℕ → ℕ → ℕ
bit a x y z = bit_of (lane a x y) z

abbrev pub five : {A : Type 0} → (ℕ → A) → List A
five f = f 0 ∷ f 1 ∷ f 2 ∷ f 3 ∷ f 4 ∷ []

-- the state whose lane at x and y is f x y
abbrev pub rows : (ℕ → ℕ → ℕ) → Rows
rows f = five (λ y. five (λ x. f x y))

-- each lane of a row is below 2^64, as every row of the code's type is
abbrev pub Words : List ℕ → Type 0
Words r = (x : ℕ) → x < 5 → slice_index r x < 2 ^ 64

abbrev pub Lanes64 : Rows → Type 0
Lanes64 a = (y : ℕ) → y < 5 → Words (slice_index_or a y [])
