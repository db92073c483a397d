-- The products and the cross terms by rows.
use Rattle.std.proofs.Common.{◌≡◌, ℕ, ◌+◌, ◌-◌, ◌<◌, List, [], ◌++◌, map, length, get_or, drop, sym, ap, ◌∙◌, ap₂, arith, length-drop}
use Rattle.std.proofs.lemmas.List.{drop_more, drop_all, get_or-map, get_or-drop, length-map}
use Rattle.field.specs.Ring.{Ops}
use Rattle.field.specs.Terms.{pairs, crossed, crosses}
use Rattle.quadratic.proofs.Crosses.{length_crossed, at_crossed}

module _ (o : Ops ℕ) (x : List ℕ) where
  abbrev pub products : ℕ → List ℕ
  products i = pairs o.mul (drop i x)

  abbrev pub product_row : ℕ → List ℕ
  product_row i = map (o.mul (get_or x i 0)) (drop i x)

  pub products_next : (i : ℕ) → i < length x → products i ≡ product_row i ++ products (i + 1)
  products_next i h = ap (pairs o.mul) (drop_more x i 0 h) ∙ ap (λ (l : List ℕ). map (o.mul (get_or x i 0)) l ++ pairs o.mul (drop (i + 1) x)) (sym (drop_more x i 0 h))

  pub products_last : products (length x) ≡ []
  products_last = ap (pairs o.mul) (drop_all (length x) x (omega arith))

  pub product_wide : (i : ℕ) → i < length x → length (product_row i) ≡ length x - i
  product_wide i h = length-map (drop i x) (o.mul (get_or x i 0)) ∙ length-drop i x

  pub product_at : (i d : ℕ) → i + d < length x → get_or (product_row i) d 0 ≡ o.mul (get_or x i 0) (get_or x (i + d) 0)
  product_at i d h =
      let l : d < length (drop i x) = omega (arith, length-drop i x) in
      get_or-map (o.mul (get_or x i 0)) (drop i x) d 0 0 l ∙ ap (o.mul (get_or x i 0)) (get_or-drop i x d 0)

module _ (o : Ops ℕ) (x y : List ℕ) (same : length y ≡ length x) where
  abbrev pub cross_terms : ℕ → List ℕ
  cross_terms i = crosses o (drop i x) (drop i y)

  abbrev pub cross_row : ℕ → List ℕ
  cross_row i = crossed o (get_or x i 0) (get_or y i 0) (drop i x) (drop i y)

  pub cross_next : (i : ℕ) → i < length x → cross_terms i ≡ cross_row i ++ cross_terms (i + 1)
  cross_next i h =
      let k : i < length y = omega arith in
      let p = drop_more x i 0 h in
      let q = drop_more y i 0 k in
      ap₂ (crosses o) p q
      ∙ ap₂ (λ (us vs : List ℕ). crossed o (get_or x i 0) (get_or y i 0) us vs ++ crosses o (drop (i + 1) x) (drop (i + 1) y)) (sym p) (sym q)

  pub cross_last : cross_terms (length x) ≡ []
  cross_last = ap (λ (us : List ℕ). crosses o us (drop (length x) y)) (drop_all (length x) x (omega arith))

  pub cross_wide : (i : ℕ) → i < length x → length (cross_row i) ≡ length x - i
  cross_wide i h = length_crossed o (get_or x i 0) (get_or y i 0) (drop i x) (drop i y) (omega (arith, length-drop i x, length-drop i y)) ∙ length-drop i x

  pub cross_at : (i d : ℕ) → i + d < length x
      → get_or (cross_row i) d 0 ≡ o.add (o.mul (get_or x i 0) (get_or y (i + d) 0)) (o.mul (get_or y i 0) (get_or x (i + d) 0))
  cross_at i d h =
      at_crossed o (get_or x i 0) (get_or y i 0) 0 (drop i x) (drop i y) d (omega (arith, length-drop i x, length-drop i y)) (omega (arith, length-drop i x))
      ∙ ap₂ (λ (v u : ℕ). o.add (o.mul (get_or x i 0) v) (o.mul (get_or y i 0) u)) (get_or-drop i y d 0) (get_or-drop i x d 0)
