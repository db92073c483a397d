-- One call for each round: what all of them came to, and the first refusal.
use Rattle.std.proofs.Common.{◌≡◌, ℕ, zero, suc, ◌+◌, ◌<◌, Ok, Err, Result, sym, refl, ap, ◌∙◌, arith}
use native.Mathlib.Decide.{dec_lt}
use Rattle.refusal.specs.declared.Refusal.{Refusal}
use Rattle.refusal.specs.Outcome.{and_then}
use Rattle.scheme.specs.Rounds.{each}

module _ (f : ℕ → Result (Unit {0}) Refusal) where
  pub each_none : each 0 f ≡ Ok tt
  unfolding each
  each_none = refl

  each_suc : (i : ℕ) → each (suc i) f ≡ and_then (each i f) (λ _. f i)
  unfolding each
  each_suc i = refl

  next : (i : ℕ) → each i f ≡ Ok tt → each (suc i) f ≡ f i
  next i h = each_suc i ∙ rw h

  pub each_more : (i : ℕ) → each i f ≡ Ok tt → f i ≡ Ok tt → each (i + 1) f ≡ Ok tt
  each_more i h g =
      let e : i + 1 ≡ suc i = omega arith in
      ap (λ (k : ℕ). each k f) e ∙ next i h ∙ g

  -- a refusal stays
  stays : (i : ℕ) (e : Refusal) → each i f ≡ Err e → each (suc i) f ≡ Err e
  stays i e h = each_suc i ∙ rw h

  pub each_stops : {e : Refusal} (i r : ℕ) → i < r → each i f ≡ Ok tt → f i ≡ Err e → each r f ≡ Err e
  each_stops i zero l h g = absurd (omega arith)
  each_stops {e} i (suc r) l h g =
      elim (dec_lt i r) [
        | yes lt ↦ stays r e (each_stops i r lt h g)
        | no ge ↦
            let is : i ≡ r = omega arith in
            ap (λ (k : ℕ). each (suc k) f) (sym is) ∙ next i h ∙ g
      ]

  -- where none was refused, none of them was
  both : (x y : Result (Unit {0}) Refusal) → and_then x (λ _. y) ≡ Ok tt → (x ≡ Ok tt) × (y ≡ Ok tt)
  both (Ok tt) y h = (refl, h)
  both (Err e) y h =
      let z : ◌≡◌ {A = ℕ} 0 1 = cc in
      absurd (omega arith)

  pub each_all : (r : ℕ) → each r f ≡ Ok tt → (i : ℕ) → i < r → f i ≡ Ok tt
  each_all zero h i l = absurd (omega arith)
  each_all (suc r) h i l =
      let p = both (each r f) (f r) (sym (each_suc r) ∙ h) in
      elim (dec_lt i r) [
        | yes lt ↦ each_all r p.0 i lt
        | no ge ↦
            let is : i ≡ r = omega arith in
            ap f is ∙ p.1
      ]
