-- The hashes as C calls them: 25 lanes in one row, a digest of 32 bytes.
use Rattle.std.specs.Prelude.{ℕ, ◌+◌, ◌*◌, cond, List, [], ◌∷◌, length, Some, None, Option, ◌==◌, slice_index}
use Rattle.keccak.specs.State.{Rows, lane, rows}
use Rattle.sha3.specs.Sponge.{later}
use Rattle.sha3.specs.Hash.{sha3_256_of}

-- lane x of row y stands at 5y + x
abbrev pub rows_of : List ℕ → Rows
rows_of lanes = rows (λ x y. slice_index lanes (5 * y + x))

abbrev pub flat : Rows → List ℕ
flat a =
    lane a 0 0 ∷ lane a 1 0 ∷ lane a 2 0 ∷ lane a 3 0 ∷ lane a 4 0
    ∷ lane a 0 1 ∷ lane a 1 1 ∷ lane a 2 1 ∷ lane a 3 1 ∷ lane a 4 1
    ∷ lane a 0 2 ∷ lane a 1 2 ∷ lane a 2 2 ∷ lane a 3 2 ∷ lane a 4 2
    ∷ lane a 0 3 ∷ lane a 1 3 ∷ lane a 2 3 ∷ lane a 3 3 ∷ lane a 4 3
    ∷ lane a 0 4 ∷ lane a 1 4 ∷ lane a 2 4 ∷ lane a 3 4 ∷ lane a 4 4 ∷ []

-- the permutation so many times
abbrev pub permute_call : List ℕ → ℕ → Option (List ℕ)
permute_call lanes times = cond (length lanes == 25) (Some (flat (later times (rows_of lanes)))) None

-- a digest into so many bytes
abbrev pub digest_call : List ℕ → ℕ → Option (List ℕ)
digest_call message room = cond (room == 32) (Some (sha3_256_of message)) None
