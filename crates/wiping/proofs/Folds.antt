-- The `or` of a list is zero just where each item is.
use Rattle.std.proofs.Common.{◌≡◌, List, [], ◌∷◌, length, replicate, refl, ap, ◌∙◌, ap₂}
use Rattle.std.specs.List.{fold}

module _ {A : Type 0} (zero : A) (or : A → A → A) where
  pub of_zeros : or zero zero ≡ zero → (xs : List A) → xs ≡ replicate (length xs) zero → fold or zero xs ≡ zero
  of_zeros both xs e = ap (fold or zero) e ∙ stays xs
    where
      stays : (xs : List A) → fold or zero (replicate (length xs) zero) ≡ zero
      stays [] = refl
      stays (x ∷ xs) = ap (λ (a : A). fold or a (replicate (length xs) zero)) both ∙ stays xs

  module _ (left : (x y : A) → or x y ≡ zero → x ≡ zero) (right : (x y : A) → or x y ≡ zero → y ≡ zero) where
    start : (a : A) (xs : List A) → fold or a xs ≡ zero → a ≡ zero
    start a [] e = e
    start a (x ∷ xs) e = left a x (start (or a x) xs e)

    pub all_zeros : (a : A) (xs : List A) → fold or a xs ≡ zero → xs ≡ replicate (length xs) zero
    all_zeros a [] e = refl
    all_zeros a (x ∷ xs) e = ap₂ ◌∷◌ (right a x (start (or a x) xs e)) (all_zeros (or a x) xs e)
