-- Verification from the middle on: the map's coefficients cs and the key's vector v are known.
use Rattle.std.specs.Prelude.{ℕ, List, Result}
use Rattle.std.specs.Str.{bytes_eq}
use Rattle.refusal.specs.declared.Refusal.{Refusal}
use Rattle.refusal.specs.declared.Refusal.TheVariants.{NotAccepted}
use Rattle.refusal.specs.Outcome.{and_then, unless, told}
use Rattle.field.specs.Coding.{Coding}
use Rattle.params.specs.declared.Set.{Set}
use Rattle.suite.specs.Meaning.{Meaning}
use Rattle.suite.specs.Drawn.{drawn}
use Rattle.scheme.specs.Challenges.{D_of, h1_of, h2_of, bit_of, alpha_of}
use Rattle.scheme.specs.Verifying.{R_in, σ0_in, σ1_in, commitments}

-- σ0 is the digest of the list, or 12
abbrev pub judged_of : Meaning → List ℕ → List ℕ → Result (Unit {0}) Refusal
judged_of M list base = unless (bytes_eq (M.d 2 list) base) NotAccepted

module _ (C : Coding) (M : Meaning) (set : Set) (message sig : List ℕ) where
  abbrev pub first_seed : List ℕ
  first_seed = h1_of M (D_of M (R_in sig) message) (σ0_in sig)

  abbrev pub second_seed : List ℕ
  second_seed = h2_of M (D_of M (R_in sig) message) (σ0_in sig) (σ1_in C.bits set sig)

  -- the challenges drawn, and then the digest of the list
  abbrev pub heard_of : List ℕ → List ℕ → Result (Unit {0}) Refusal
  heard_of cs v =
      and_then (told (drawn C M 11 first_seed set.r)) (λ _.
      judged_of M (commitments C M set cs v sig (alpha_of C M set.r first_seed) (bit_of M second_seed)) (σ0_in sig))
