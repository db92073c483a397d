-- What a suite means: two fixed functions. Assumes nothing.
use Rattle.std.specs.Prelude.{◌≡◌, ℕ, ◌<◌, List, length, slice_index}

-- d(label, X), and e(label, seed, k), byte k of a stream
pub record Meaning : Type 0 where
  pub d : ℕ → List ℕ → List ℕ
  pub e : ℕ → List ℕ → ℕ → ℕ

-- a digest has 32 bytes, and all are bytes
pub record Lawful (M : Meaning) : Type 0 where
  pub digest_long : (label : ℕ) (x : List ℕ) → length (M.d label x) ≡ 32
  pub digest_byte : (label : ℕ) (x : List ℕ) (k : ℕ) → slice_index (M.d label x) k < 256
  pub stream_byte : (label : ℕ) (seed : List ℕ) (k : ℕ) → M.e label seed k < 256
