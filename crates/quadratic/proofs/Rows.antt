-- The sum over the list of monomials is the equation, which goes by rows.
use Rattle.std.proofs.Common.{◌≡◌, ℕ, zero, suc, ◌+◌, ◌-◌, ◌<◌, ◌≤◌, List, [], ◌∷◌, ◌++◌, map, length, sym, refl, ap, ◌∙◌, ap₂, add-zero, add-suc, arith, length-append}
use mathlib.Core.Path.{fun_ext}
use Rattle.std.proofs.lemmas.List.{length-map, get_or-append-add, map-append}
use Rattle.field.specs.Ring.{Ops, Laws}
use Rattle.field.specs.Codes.{Field, Codes}
use Rattle.field.specs.Terms.{dot, pairs, monomials}
use Rattle.algebra.specs.Quad.{sum_to, row, eqn, at}
use Rattle.field.proofs.Pairs.{length_pairs}
use Rattle.algebra.proofs.Sizes.{row_suc, row_square}
use Rattle.algebra.proofs.Polar.{sum_cong}
use Rattle.algebra.proofs.Below.{Below, codes, codes_length, lift, ring, ring_laws, at_code, eqn_code}

pub pairs_rows : {A : Type 0} (mul : A → A → A) (xs : List A) → length (pairs mul xs) ≡ row (length xs) (length xs)
pairs_rows mul xs = omega (arith, length_pairs mul xs, row_square (length xs))

module _ {A : Type 0} {o : Ops A} (L : Laws o) where
  open o use {nil as 𝟘, add as ◌⊕◌, mul as ◌⊗◌}

  infixl 60 ◌⊕◌
  infixl 70 ◌⊗◌
  nil_left : (a : A) → 𝟘 ⊕ a ≡ a
  nil_left a = L.add_comm 𝟘 a ∙ L.add_nil a

  sum_first : (n : ℕ) (f : ℕ → A) → sum_to o (suc n) f ≡ f 0 ⊕ sum_to o n (λ k. f (suc k))
  unfolding sum_to
  sum_first zero f = L.add_comm 𝟘 (f 0)
  sum_first (suc n) f = ap (λ t. t ⊕ f (suc n)) (sum_first n f) ∙ L.add_assoc (f 0) (sum_to o n (λ k. f (suc k))) (f (suc n))

  sum_split : (a b : ℕ) (f : ℕ → A) → sum_to o (a + b) f ≡ sum_to o a f ⊕ sum_to o b (λ k. f (a + k))
  unfolding sum_to
  sum_split a zero f = ap (λ n. sum_to o n f) (add-zero a) ∙ sym (L.add_nil (sum_to o a f))
  sum_split a (suc b) f =
      ap (λ n. sum_to o n f) (add-suc a b)
      ∙ ap (λ t. t ⊕ f (a + b)) (sum_split a b f)
      ∙ L.add_assoc (sum_to o a f) (sum_to o b (λ k. f (a + k))) (f (a + b))

  pub dot_sum : (cs ys : List A) → length ys ≤ length cs → dot o cs ys ≡ sum_to o (length ys) (λ k. at o cs k ⊗ at o ys k)
  unfolding sum_to
  dot_sum [] [] h = refl
  dot_sum [] (y ∷ ys) h = absurd (omega arith)
  dot_sum (c ∷ cs) [] h = refl
  dot_sum (c ∷ cs) (y ∷ ys) h = ap (λ t. c ⊗ y ⊕ t) (dot_sum cs ys (omega arith)) ∙ sym (sum_first (length ys) (λ k. at o (c ∷ cs) k ⊗ at o (y ∷ ys) k))

  pub sum_rows : (n i : ℕ) (f : ℕ → A) → sum_to o (row n i) f ≡ sum_to o i (λ j. sum_to o (n - j) (λ d. f (row n j + d)))
  unfolding sum_to row
  sum_rows n zero f = refl
  sum_rows n (suc i) f = sum_split (row n i) (n - i) f ∙ ap (λ t. t ⊕ sum_to o (n - i) (λ d. f (row n i + d))) (sum_rows n i f)

  at_map : (f : A → A) (xs : List A) (k : ℕ) → k < length xs → at o (map f xs) k ≡ f (at o xs k)
  at_map f [] k h = absurd (omega arith)
  at_map f (x ∷ xs) zero h = refl
  at_map f (x ∷ xs) (suc k) h = at_map f xs k (omega arith)

  pub at_left : (us vs : List A) (k : ℕ) → k < length us → at o (us ++ vs) k ≡ at o us k
  at_left [] vs k h = absurd (omega arith)
  at_left (u ∷ us) vs zero h = refl
  at_left (u ∷ us) vs (suc k) h = at_left us vs k (omega arith)

  pub at_right : (us vs : List A) (n k : ℕ) → length us ≡ n → at o (us ++ vs) (n + k) ≡ at o vs k
  at_right us vs n k e = ap (λ (m : ℕ). at o (us ++ vs) (m + k)) (sym e) ∙ get_or-append-add us vs k 𝟘

  at_pair : (xs : List A) (i d : ℕ) → i + d < length xs → at o (pairs o.mul xs) (row (length xs) i + d) ≡ at o xs i ⊗ at o xs (i + d)
  unfolding row
  at_pair [] i d h = absurd (omega arith)
  at_pair (x ∷ xs) zero d h =
      let l = length-map (x ∷ xs) (o.mul x) in
      let z : 0 + d ≡ d = omega arith in
      ap (at o (pairs o.mul (x ∷ xs))) z
      ∙ at_left (map (o.mul x) (x ∷ xs)) (pairs o.mul xs) d (omega arith)
      ∙ at_map (o.mul x) (x ∷ xs) d (omega arith)
      ∙ ap (λ (k : ℕ). x ⊗ at o (x ∷ xs) k) (sym z)
  at_pair (x ∷ xs) (suc i) d h =
      let l = length-map (x ∷ xs) (o.mul x) in
      let z : row (suc (length xs)) (suc i) + d ≡ suc (length xs) + (row (length xs) i + d) = omega (arith, row_suc (length xs) i) in
      let w : suc (i + d) ≡ suc i + d = omega arith in
      ap (at o (pairs o.mul (x ∷ xs))) z
      ∙ at_right (map (o.mul x) (x ∷ xs)) (pairs o.mul xs) (suc (length xs)) (row (length xs) i + d) l
      ∙ at_pair xs i d (omega arith)
      ∙ ap (λ (k : ℕ). at o xs i ⊗ at o (x ∷ xs) k) w

  row_below : (n i d : ℕ) → i + d < n → row n i + d < row n n
  unfolding row
  row_below zero i d h = absurd (omega arith)
  row_below (suc n) zero d h = omega (arith, row_suc n n)
  row_below (suc n) (suc i) d h = omega (arith, row_suc n n, row_suc n i, row_below n i d (omega arith))

  pub dot_eqn : (cs x : List A) → row (length x) (length x) + length x ≤ length cs → dot o cs (monomials o.mul x) ≡ eqn o (length x) (at o cs) (at o x)
  unfolding eqn
  dot_eqn cs x h =
      let n : ℕ = length x in
      let lp = pairs_rows o.mul x in
      let lm : length (monomials o.mul x) ≡ row n n + n = length-append (pairs o.mul x) x ∙ ap (λ (k : ℕ). k + n) lp in
      let f : ℕ → A = λ k. at o cs k ⊗ at o (monomials o.mul x) k in
      dot_sum cs (monomials o.mul x) (omega arith)
      ∙ ap (λ (k : ℕ). sum_to o k f) lm
      ∙ sum_split (row n n) n f
      ∙ ap₂ ◌⊕◌
      (sum_rows n n f ∙ sum_cong o n _ _ (λ i l. sum_cong o (n - i) _ _ (λ d m.
      ap (λ (t : A). at o cs (row n i + d) ⊗ t) (at_left (pairs o.mul x) x (row n i + d) (omega (arith, row_below n i d (omega arith))) ∙ at_pair x i d (omega arith)))))
      (sum_cong o n _ _ (λ i l. ap (λ (t : A). at o cs (row n n + i) ⊗ t) (at_right (pairs o.mul x) x (row n n) i lp)))

-- the same of codes
module _ {q : ℕ} {o : Ops ℕ} {inv : ℕ → ℕ} (K : Field q o inv) where
  abbrev R : Ops (Below q)
  R = ring K

  pub dot_code : (cs ys : List (Below q)) → dot o (codes q cs) (codes q ys) ≡ (dot R cs ys).0
  unfolding codes
  dot_code [] ys = refl
  dot_code (c ∷ cs) [] = refl
  dot_code (c ∷ cs) (y ∷ ys) = ap (o.add (o.mul c.0 y.0)) (dot_code cs ys)

  row_code : (x : Below q) (xs : List (Below q)) → map (o.mul x.0) (codes q xs) ≡ codes q (map (R.mul x) xs)
  unfolding codes
  row_code x [] = refl
  row_code x (y ∷ ys) = ap (λ t. o.mul x.0 y.0 ∷ t) (row_code x ys)

  pub codes_append : (xs ys : List (Below q)) → codes q (xs ++ ys) ≡ codes q xs ++ codes q ys
  unfolding codes
  codes_append xs ys = map-append (λ x. x.0) xs ys

  pairs_code : (xs : List (Below q)) → pairs o.mul (codes q xs) ≡ codes q (pairs R.mul xs)
  unfolding codes
  pairs_code [] = refl
  pairs_code (x ∷ xs) = ap₂ ◌++◌ (row_code x (x ∷ xs)) (pairs_code xs) ∙ sym (codes_append (map (R.mul x) (x ∷ xs)) (pairs R.mul xs))

  monomials_code : (xs : List (Below q)) → monomials o.mul (codes q xs) ≡ codes q (monomials R.mul xs)
  monomials_code xs = ap (λ t. t ++ codes q xs) (pairs_code xs) ∙ sym (codes_append (pairs R.mul xs) xs)

  elems : (cs x : List (Below q)) → row (length x) (length x) + length x ≤ length cs → dot o (codes q cs) (monomials o.mul (codes q x)) ≡ eqn o (length x) (at o (codes q cs)) (at o (codes q x))
  elems cs x h =
      ap (dot o (codes q cs)) (monomials_code x)
      ∙ dot_code cs (monomials R.mul x)
      ∙ ap (λ (e : Below q). e.0) (dot_eqn (ring_laws K) cs x h)
      ∙ sym (eqn_code K (length x) (at R cs) (at R x))
      ∙ sym (ap₂ (eqn o (length x)) (fun_ext (at_code K cs)) (fun_ext (at_code K x)))

  pub dot_eqn_codes : (cs x : List ℕ) → row (length x) (length x) + length x ≤ length cs → Codes q cs → Codes q x → dot o cs (monomials o.mul x) ≡ eqn o (length x) (at o cs) (at o x)
  dot_eqn_codes cs x h hc hx =
      let c = lift q cs hc in
      let y = lift q x hx in
      let lc = sym (codes_length q c.0) ∙ ap length c.1 in
      let ly = sym (codes_length q y.0) ∙ ap length y.1 in
      let g : row (length y.0) (length y.0) + length y.0 ≤ length c.0 = rw (ly, lc) h in
      let e = elems c.0 y.0 g in
      rw (c.1, y.1, ly) at e
