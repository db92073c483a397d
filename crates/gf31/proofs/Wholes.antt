-- The sum in whole numbers: one term more, and its remainder.
use Rattle.std.proofs.Common.{◌≡◌, ℕ, ◌+◌, ◌*◌, ◌%◌, ◌<◌, ◌≤◌, List, [], ◌∷◌, map, length, get_or, drop, sym, refl, ap, ◌∙◌, ap₂}
use native.Mathlib.Nat.{add-mod}
use Rattle.std.proofs.lemmas.Nat.{mul-mod_second}
use Rattle.std.proofs.lemmas.List.{drop_more, drop_all}
use Rattle.field.specs.Terms.{dot}
use Rattle.gf31.specs.Modulo.{ops31}
use Rattle.gf31.specs.Whole.{whole}

pub whole_more : (a b : List ℕ) (i : ℕ) → i < length a → i < length b
    → whole (drop i a) (drop i b) ≡ get_or a i 0 * get_or b i 0 + whole (drop (i + 1) a) (drop (i + 1) b)
whole_more a b i h k = ap (λ (l : List ℕ). whole l (drop i b)) (drop_more a i 0 h) ∙ ap (λ (l : List ℕ). whole (get_or a i 0 ∷ drop (i + 1) a) l) (drop_more b i 0 k)

pub whole_all : (a b : List ℕ) (i : ℕ) → length a ≤ i → whole (drop i a) b ≡ 0
whole_all a b i h = ap (λ (l : List ℕ). whole l b) (drop_all i a h)

-- its remainder is the ring's sum
pub whole_dot : (cs ts : List ℕ) → whole cs ts % 31 ≡ dot ops31 cs (map (λ t. t % 31) ts)
whole_dot [] ts = refl
whole_dot (c ∷ cs) [] = refl
whole_dot (c ∷ cs) (t ∷ ts) = add-mod (c * t) (whole cs ts) 31 ∙ ap₂ (λ a b. (a + b) % 31) (sym (mul-mod_second c t 31)) (whole_dot cs ts)
