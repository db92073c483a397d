-- The signature by the map's coefficients and the secret vector that were drawn for it.
use Rattle.std.specs.Prelude.{ℕ, ◌+◌, ◌*◌, ◌%◌, List, ◌++◌, Ok, Result, slice_index}
use Rattle.refusal.specs.declared.Refusal.{Refusal}
use Rattle.refusal.specs.Outcome.{and_then, told}
use Rattle.field.specs.Coding.{Coding}
use Rattle.params.specs.declared.Set.{Set}
use Rattle.suite.specs.Meaning.{Meaning}
use Rattle.suite.specs.Drawn.{drawn}
use Rattle.wire.specs.Layout.{part}
use Rattle.scheme.specs.Rounds.{rounds, chosen_by_bit}
use Rattle.scheme.specs.Challenges.{h1_of}
use Rattle.scheme.specs.Signing.{pools_of, σ0, σ1, responses, others, bit_of_round}

-- of each round of a commitment list, the side that the bit does not open
abbrev pub carried : Set → List ℕ → List ℕ → List ℕ
carried set list bits = rounds set.r (λ i. chosen_by_bit (slice_index bits i % 2) (part list (i * 64 + 32) 32) (part list (i * 64) 32))

-- σ0 ‖ σ1 ‖ σ2, by the digest D
abbrev pub behind_r : Coding → Meaning → Set → List ℕ → List ℕ → List ℕ → List ℕ → List ℕ
behind_r C M set cs s K D =
    σ0 C M set cs s K D
    ++ (σ1 C M set cs s K D
    ++ (responses C M set K D s (bit_of_round C M set cs s K D) ++ others C M set cs s K D (bit_of_round C M set cs s K D)))

-- the rounds' drawings and the challenges', and then the signature
abbrev pub rounds_of : Coding → Meaning → Set → List ℕ → List ℕ → List ℕ → List ℕ → List ℕ → Result (List ℕ) Refusal
rounds_of C M set cs s K R D =
    and_then (pools_of C M set K D) (λ _.
    and_then (told (drawn C M 11 (h1_of M D (σ0 C M set cs s K D)) set.r)) (λ _.
    Ok (R ++ behind_r C M set cs s K D)))
