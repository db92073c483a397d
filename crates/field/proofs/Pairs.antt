-- How many products of two entries a vector has.
use Rattle.std.proofs.Common.{◌≡◌, ℕ, suc, ◌+◌, ◌*◌, List, [], ◌∷◌, map, length, refl, ap, ◌∙◌, add-mul, mul-add, arith, length-append}
use Rattle.std.proofs.lemmas.List.{length-map}
use Rattle.field.specs.Terms.{pairs}

pub next_square : (n : ℕ) → suc n * (suc n + 1) ≡ n * (n + 1) + 2 * (n + 1)
next_square n =
    let p : suc n ≡ n + 1 = omega arith in
    let q : suc n + 1 ≡ n + 2 = omega arith in
    let k : suc n * (suc n + 1) ≡ (n + 1) * (n + 2) = cc in
    k ∙ omega (arith, add-mul n 1 (n + 2), mul-add n (n + 1) 1, mul-add n n 2, mul-add n n 1)

pub length_pairs : {A : Type 0} (mul : A → A → A) (xs : List A) → 2 * length (pairs mul xs) ≡ length xs * (length xs + 1)
length_pairs mul [] = refl
length_pairs mul (x ∷ xs) =
    let e : length (pairs mul (x ∷ xs)) ≡ suc (length xs) + length (pairs mul xs) = length-append (map (mul x) (x ∷ xs)) (pairs mul xs) ∙ ap (λ (n : ℕ). n + length (pairs mul xs)) (length-map (x ∷ xs) (mul x)) in
    omega (arith, e, next_square (length xs), length_pairs mul xs)
