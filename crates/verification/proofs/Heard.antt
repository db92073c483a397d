-- The steps of the decision, from what the code holds to what they come to.
use Rattle.std.proofs.Common.{◌≡◌, ℕ, ◌%◌, ◌<◌, List, ◌++◌, get_or, take, Ok, Result, sym, refl, ap, ◌∙◌, ap₂, arith}
use Rattle.std.proofs.lemmas.List.FromFn.{get_or-map-range_with_len}
use Rattle.refusal.specs.declared.Refusal.{Refusal}
use Rattle.refusal.specs.Outcome.{told}
use Rattle.field.specs.Coding.{Coding}
use Rattle.packing.specs.Packed.{elements}
use Rattle.params.specs.declared.Set.{Set}
use Rattle.params.specs.Sizes.{coefficients_of}
use Rattle.suite.specs.Meaning.{Meaning}
use Rattle.suite.specs.Calls.{first}
use Rattle.suite.specs.Drawn.{drawn}
use Rattle.keys.specs.Keys.{vector_of}
use Rattle.scheme.specs.Rounds.{taken}
use Rattle.scheme.specs.Challenges.{D_of, h1_of, alpha_of, bit_of}
use Rattle.scheme.specs.Verifying.{R_in, σ0_in, σ1_in, commitment_of, opened, t1_in, e1_in, response_in, other_in, recomputed, commitment, commitments, listed, decided_of}
use Rattle.scheme.proofs.Outcomes.{then_from}
use Rattle.scheme.proofs.Rounds.{rounds_cong}
use Rattle.verification.specs.Steps.{judged_of, first_seed, second_seed, heard_of}

-- challenges that agree on every round give the same list
pub challenges_cong : (C : Coding) (M : Meaning) (set : Set) (cs v sig : List ℕ) (α β a b : ℕ → ℕ) → ((i : ℕ) → i < set.r → α i ≡ a i) → ((i : ℕ) → i < set.r → β i ≡ b i)
    → commitments C M set cs v sig α β ≡ commitments C M set cs v sig a b
unfolding commitments commitment recomputed
challenges_cong C M set cs v sig α β a b of-α of-β =
    rounds_cong set.r _ _ (λ i l.
    ap₂ (λ (x y : ℕ). commitment_of y 0 (M.d y (opened C set cs v x (t1_in C.bits set sig i) (e1_in C.bits set sig i) (response_in C.bits set sig i) y)) (other_in C.bits set sig i)
    ++ commitment_of y 1 (M.d y (opened C set cs v x (t1_in C.bits set sig i) (e1_in C.bits set sig i) (response_in C.bits set sig i) y)) (other_in C.bits set sig i))
    (of-α i l) (of-β i l))

module _ (C : Coding) (M : Meaning) (set : Set) (message sig : List ℕ) where
  pub first_is : (d base h1 : List ℕ) → h1 ≡ M.d 5 (d ++ base) → d ≡ D_of M (R_in sig) message → base ≡ σ0_in sig → h1 ≡ first_seed C M set message sig
  first_is d base h1 e of-d of-base = e ∙ ap₂ (h1_of M) of-d of-base

  pub bits_are : (d base h1 σ1 : List ℕ) (n : ℕ) (bits : List ℕ) → bits ≡ first (M.e 12 (M.d 6 (d ++ (base ++ (h1 ++ σ1))))) n
      → d ≡ D_of M (R_in sig) message → base ≡ σ0_in sig → h1 ≡ first_seed C M set message sig → σ1 ≡ σ1_in C.bits set sig → n ≡ set.r
      → bits ≡ first (M.e 12 (second_seed C M set message sig)) set.r
  bits_are d base h1 σ1 n bits e of-d of-base of-h1 of-σ1 of_n = e ∙ rw (of-d, of-base, of-h1, of-σ1, of_n)

  pub heard : (r : Result (Unit {0}) Refusal) (cs v base alphas bits list : List ℕ) → Ok tt ≡ told (drawn C M 11 (first_seed C M set message sig) set.r)
      → base ≡ σ0_in sig → alphas ≡ taken C M 11 (first_seed C M set message sig) set.r → bits ≡ first (M.e 12 (second_seed C M set message sig)) set.r
      → list ≡ commitments C M set cs v sig (λ i. get_or alphas i 0) (λ i. get_or bits i 0 % 2) → r ≡ judged_of M list base → r ≡ heard_of C M set message sig cs v
  heard r cs v base alphas bits list ok of-base of-alphas of-bits of-list e =
      let α : ℕ → ℕ = alpha_of C M set.r (first_seed C M set message sig) in
      let β : ℕ → ℕ = bit_of M (second_seed C M set message sig) in
      let same : list ≡ commitments C M set cs v sig α β =
      of-list ∙ challenges_cong C M set cs v sig (λ i. get_or alphas i 0) (λ i. get_or bits i 0 % 2) α β (λ i l. ap (λ (xs : List ℕ). get_or xs i 0) of-alphas)
      (λ i l. ap (λ (xs : List ℕ). get_or xs i 0 % 2) of-bits ∙ ap (λ (k : ℕ). k % 2) (get_or-map-range_with_len (M.e 12 (second_seed C M set message sig)) 0 set.r i i 0 l (omega arith))) in
      e ∙ ap₂ (judged_of M) same of-base ∙ sym (then_from (told (drawn C M 11 (first_seed C M set message sig) set.r)) _ _ (sym ok) refl)

  pub decided : (key : List ℕ) (r : Result (Unit {0}) Refusal) (seed cs v : List ℕ) (count : ℕ) → seed ≡ take 32 key → count ≡ coefficients_of set → Ok tt ≡ told (drawn C M 8 seed count)
      → cs ≡ taken C M 8 seed count → v ≡ elements C.bits set.m (vector_of key) → r ≡ heard_of C M set message sig cs v → r ≡ decided_of C M set key message sig
  unfolding listed
  decided key r seed cs v count of-seed of-count ok of-cs of-v e =
      e
      ∙ ap₂ (heard_of C M set message sig) (of-cs ∙ ap₂ (λ (s : List ℕ) (n : ℕ). taken C M 8 s n) of-seed of-count) of-v
      ∙ sym (then_from (told (drawn C M 8 (take 32 key) (coefficients_of set))) _ _ (sym (ok ∙ ap₂ (λ (s : List ℕ) (n : ℕ). told (drawn C M 8 s n)) of-seed of-count)) refl)
