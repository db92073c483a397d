-- The list of all rounds, from the half that was worked out anew.
use Rattle.std.proofs.Common.{◌≡◌, ℕ, ◌*◌, List, ◌++◌, length, ap, ◌∙◌}
use Rattle.field.specs.Coding.{Coding}
use Rattle.params.specs.declared.Set.{Set}
use Rattle.wire.specs.Layout.{part}
use Rattle.suite.specs.Meaning.{Meaning, Lawful}
use Rattle.scheme.specs.Rounds.{rounds}
use Rattle.scheme.specs.Verifying.{commitment_of, other_in, recomputed, commitment, commitments}
use Rattle.scheme.proofs.Rounds.{rounds_cong, rounds_part}

module _ (C : Coding) (M : Meaning) (L : Lawful M) (set : Set) (cs v sig : List ℕ) (α bit : ℕ → ℕ) where
  recomputed_long : (i : ℕ) → length (recomputed C M set cs v sig α bit i) ≡ 32
  unfolding recomputed
  recomputed_long i = L.digest_long _ _

  -- under a set and a number of bits that are these
  pub joined_rounds : (b : ℕ) (here : Set) (half : List ℕ) → b ≡ C.bits → here ≡ set → half ≡ rounds set.r (recomputed C M set cs v sig α bit)
      → rounds set.r (λ i. commitment_of (bit i) 0 (part half (i * 32) 32) (other_in b here sig i) ++ commitment_of (bit i) 1 (part half (i * 32) 32) (other_in b here sig i))
      ≡ commitments C M set cs v sig α bit
  unfolding commitments commitment
  joined_rounds b here half of-b of-set is =
      rw (of-b, of-set)
      (rounds_cong set.r _ _ (λ i l.
      let e : part half (i * 32) 32 ≡ recomputed C M set cs v sig α bit i = ap (λ (x : List ℕ). part x (i * 32) 32) is ∙ rounds_part set.r 32 (recomputed C M set cs v sig α bit) (λ j m. recomputed_long j) i l in
      ap (λ (x : List ℕ). commitment_of (bit i) 0 x (other_in C.bits set sig i) ++ commitment_of (bit i) 1 x (other_in C.bits set sig i)) e))
