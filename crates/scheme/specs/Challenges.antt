-- The digest D of a message, and the challenges that follow from it. Assumes nothing.
use Rattle.std.specs.Prelude.{ℕ, ◌%◌, List, ◌++◌, slice_index}
use Rattle.field.specs.Coding.{Coding}
use Rattle.suite.specs.Meaning.{Meaning}
use Rattle.scheme.specs.Rounds.{taken}

module _ (M : Meaning) where
  -- D = d(4, R ‖ M)
  abbrev pub D_of : List ℕ → List ℕ → List ℕ
  D_of R message = M.d 4 (R ++ message)

  -- h1 = d(5, D ‖ σ0)
  abbrev pub h1_of : List ℕ → List ℕ → List ℕ
  h1_of D σ0 = M.d 5 (D ++ σ0)

  -- h2 = d(6, D ‖ σ0 ‖ h1 ‖ σ1)
  abbrev pub h2_of : List ℕ → List ℕ → List ℕ → List ℕ
  h2_of D σ0 σ1 = M.d 6 (D ++ (σ0 ++ (h1_of D σ0 ++ σ1)))

  -- the bit of round i: the lowest of byte i of the stream with label 12 and seed h2
  abbrev pub bit_of : List ℕ → ℕ → ℕ
  bit_of h2 i = M.e 12 h2 i % 2

-- the challenge α of round i, of the r that are drawn with label 11 and seed h1
abbrev pub alpha_of : Coding → Meaning → ℕ → List ℕ → ℕ → ℕ
alpha_of C M r h1 i = slice_index (taken C M 11 h1 r) i
