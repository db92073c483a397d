-- What a reader of bits has yet to give. Assumes nothing.
use Rattle.std.specs.Prelude.{ℕ}

-- the number that the bits write, lowest first, and how many they are
pub record Unread : Type 0 where
  pub number : ℕ
  pub left : ℕ
