-- What signing comes to, by what its steps answered.
use Rattle.std.proofs.Common.{◌≡◌, ℕ, List, [], ◌++◌, replicate, Ok, Err, Result, sym, ap, ◌∙◌, append-nil}
use Rattle.refusal.specs.declared.Refusal.{Refusal}
use Rattle.refusal.specs.Outcome.{told, written}
use Rattle.field.specs.Coding.{Coding}
use Rattle.params.specs.declared.Set.{Set}
use Rattle.params.specs.Sizes.{coefficients_of}
use Rattle.suite.specs.Meaning.{Meaning}
use Rattle.suite.specs.Drawn.{drawn}
use Rattle.scheme.specs.Challenges.{h1_of}
use Rattle.scheme.specs.Signing.{pools_of, list, σ0, signature, signed_of, coefficients, secret_vector, R, D}
use Rattle.signing.specs.Steps.{behind_r, rounds_of}

-- what a call answers and leaves in its buffer
pub record Comes (out : Result (List ℕ) Refusal) (n : ℕ) (r : Result (Unit {0}) Refusal) (bytes : List ℕ) : Type 0 where
  pub answer : r ≡ told out
  pub held : bytes ≡ written n out

pub comes_refused : (out : Result (List ℕ) Refusal) (n : ℕ) (e : Refusal) (bytes : List ℕ) → out ≡ Err e → bytes ≡ replicate n 0 → Comes out n (Err e) bytes
comes_refused out n e bytes h z = record { answer = sym (ap told h); held = z ∙ sym (ap (written n) h) }

pub comes_made : (out : Result (List ℕ) Refusal) (n : ℕ) (bytes : List ℕ) → out ≡ Ok bytes → Comes out n (Ok tt) bytes
comes_made out n bytes h = record { answer = sym (ap told h); held = sym (ap (written n) h) }

module _ (C : Coding) (M : Meaning) (set : Set) (cs s K Rm Dm : List ℕ) where
  -- σ0, as the code works it out
  pub base_is : (ls base : List ℕ) → ls ≡ list C M set cs s K Dm → base ≡ M.d 2 (ls ++ []) → base ≡ σ0 C M set cs s K Dm
  unfolding σ0
  base_is ls base el e = e ∙ ap (M.d 2) (append-nil ls ∙ el)

  module _ (base h1 : List ℕ) (eb : base ≡ σ0 C M set cs s K Dm) (eh : h1 ≡ M.d 5 (Dm ++ base)) where
    pub h1_is : h1 ≡ h1_of M Dm (σ0 C M set cs s K Dm)
    h1_is = eh ∙ ap (λ (b : List ℕ). M.d 5 (Dm ++ b)) eb

    to_scheme : told (drawn C M 11 h1 set.r) ≡ told (drawn C M 11 (h1_of M Dm (σ0 C M set cs s K Dm)) set.r)
    to_scheme = ap (λ (h : List ℕ). told (drawn C M 11 h set.r)) h1_is

    pub alphas_stop : (e : Refusal) → Ok tt ≡ pools_of C M set K Dm → Err e ≡ told (drawn C M 11 h1 set.r) → rounds_of C M set cs s K Rm Dm ≡ Err e
    alphas_stop e p h =
        let f : told (drawn C M 11 (h1_of M Dm (σ0 C M set cs s K Dm)) set.r) ≡ Err e = sym (h ∙ to_scheme) in
        rw (← p, f)

    pub rounds_made : Ok tt ≡ pools_of C M set K Dm → Ok tt ≡ told (drawn C M 11 h1 set.r) → rounds_of C M set cs s K Rm Dm ≡ Ok (Rm ++ behind_r C M set cs s K Dm)
    rounds_made p h =
        let f : told (drawn C M 11 (h1_of M Dm (σ0 C M set cs s K Dm)) set.r) ≡ Ok tt = sym (h ∙ to_scheme) in
        rw (← p, f)

-- with the map and the secret vector that are drawn for it
module _ (C : Coding) (M : Meaning) (set : Set) (K seed message : List ℕ) where
  pub rounds_decide : Ok tt ≡ told (drawn C M 9 K set.n) → Ok tt ≡ told (drawn C M 8 seed (coefficients_of set))
      → signed_of C M set K seed message ≡ rounds_of C M set (coefficients C M set K seed message) (secret_vector C M set K seed message) K (R C M set K seed message) (D C M set K seed message)
  unfolding signature
  rounds_decide p h = rw (← p, ← h)
