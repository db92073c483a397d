-- The places at which two lists differ are those of their pairs.
use Rattle.std.proofs.Common.{◌≡◌, ℕ, ◌+◌, true, false, cond, not, ◌==◌, List, [], ◌∷◌, length, filter, refl, arith}
use Rattle.std.specs.List.{zip}
use Rattle.report.specs.Compare.{differing}

pub differing-zip : (a b : List ℕ) → length (filter (λ (p : ℕ × ℕ). not (p.0 == p.1)) (zip a b)) ≡ differing a b
differing-zip [] ys = refl
differing-zip (x ∷ xs) [] = refl
differing-zip (x ∷ xs) (y ∷ ys) =
    let rest = filter (λ (p : ℕ × ℕ). not (p.0 == p.1)) (zip xs ys) in
    elim (x == y) as (λ b. length (cond (not b) ((x, y) ∷ rest) rest) ≡ cond b 0 1 + differing xs ys) [
      | true ↦ omega (arith, differing-zip xs ys)
      | false ↦ omega (arith, differing-zip xs ys)
    ]
