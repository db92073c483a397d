-- The sum over the list of cross terms is the polar form.
use Rattle.std.proofs.Common.{◌≡◌, ℕ, zero, suc, ◌+◌, ◌-◌, ◌*◌, ◌<◌, ◌≤◌, List, [], ◌∷◌, ◌++◌, length, get_or, drop, sym, refl, ap, ◌∙◌, subst, ap₂, arith, length-append, length-drop}
use mathlib.Core.Path.{fun_ext}
use Rattle.std.proofs.lemmas.List.{get_or-drop}
use Rattle.field.specs.Ring.{Ops, Laws}
use Rattle.field.specs.Codes.{Field, Codes}
use Rattle.field.specs.Terms.{dot, crossed, crosses}
use Rattle.algebra.specs.Quad.{sum_to, row, size, at, G}
use Rattle.algebra.proofs.Polar.{sum_cong, pol, quad, dsum, geq_is}
use Rattle.algebra.proofs.Vectors.{cof, G_at}
use Rattle.algebra.proofs.Below.{Below, codes, codes_length, lift, ring, ring_laws, at_code, G_code}
use Rattle.algebra.proofs.Sizes.{row_suc}
use Rattle.quadratic.proofs.Rows.{dot_sum, sum_rows, at_left, at_right, dot_code, codes_append}

module _ {A : Type 0} (o : Ops A) where
  open o use {nil as 𝟘, add as ◌⊕◌, mul as ◌⊗◌}

  infixl 60 ◌⊕◌
  infixl 70 ◌⊗◌
  pub length_crossed : (a b : A) (us vs : List A) → length vs ≡ length us → length (crossed o a b us vs) ≡ length us
  length_crossed a b [] vs e = refl
  length_crossed a b (u ∷ us) [] e = absurd (omega arith)
  length_crossed a b (u ∷ us) (v ∷ vs) e = ap suc (length_crossed a b us vs (omega arith))

  pub length_crosses : (xs ys : List A) → length ys ≡ length xs → length (crosses o xs ys) ≡ row (length xs) (length xs)
  unfolding row
  length_crosses [] ys e = refl
  length_crosses (x ∷ xs) [] e = absurd (omega arith)
  length_crosses (x ∷ xs) (y ∷ ys) e =
      length-append (crossed o x y (x ∷ xs) (y ∷ ys)) (crosses o xs ys)
      ∙ ap₂ ◌+◌ (length_crossed x y (x ∷ xs) (y ∷ ys) e) (length_crosses xs ys (omega arith)) ∙ sym (row_suc (length xs) (length xs))

  pub at_crossed : (a b z : A) (us vs : List A) (d : ℕ) → length vs ≡ length us → d < length us → get_or (crossed o a b us vs) d z ≡ a ⊗ get_or vs d z ⊕ b ⊗ get_or us d z
  at_crossed a b z [] vs d e h = absurd (omega arith)
  at_crossed a b z (u ∷ us) [] d e h = absurd (omega arith)
  at_crossed a b z (u ∷ us) (v ∷ vs) zero e h = refl
  at_crossed a b z (u ∷ us) (v ∷ vs) (suc d) e h = at_crossed a b z us vs d (omega arith) (omega arith)

module _ {A : Type 0} {o : Ops A} (L : Laws o) where
  open o use {nil as 𝟘, add as ◌⊕◌, mul as ◌⊗◌}

  infixl 60 ◌⊕◌
  infixl 70 ◌⊗◌
  at_crosses : (xs ys : List A) (i d : ℕ) → length ys ≡ length xs → i + d < length xs
      → at o (crosses o xs ys) (row (length xs) i + d) ≡ at o xs i ⊗ at o ys (i + d) ⊕ at o ys i ⊗ at o xs (i + d)
  unfolding row
  at_crosses [] ys i d e h = absurd (omega arith)
  at_crosses (x ∷ xs) [] i d e h = absurd (omega arith)
  at_crosses (x ∷ xs) (y ∷ ys) zero d e h =
      let l = length_crossed o x y (x ∷ xs) (y ∷ ys) e in
      let z : 0 + d ≡ d = omega arith in
      ap (at o (crosses o (x ∷ xs) (y ∷ ys))) z
      ∙ at_left L (crossed o x y (x ∷ xs) (y ∷ ys)) (crosses o xs ys) d (omega arith)
      ∙ at_crossed o x y 𝟘 (x ∷ xs) (y ∷ ys) d e (omega arith)
      ∙ ap (λ (k : ℕ). x ⊗ at o (y ∷ ys) k ⊕ y ⊗ at o (x ∷ xs) k) (sym z)
  at_crosses (x ∷ xs) (y ∷ ys) (suc i) d e h =
      let l = length_crossed o x y (x ∷ xs) (y ∷ ys) e in
      let z : row (suc (length xs)) (suc i) + d ≡ suc (length xs) + (row (length xs) i + d) = omega (arith, row_suc (length xs) i) in
      let w : suc (i + d) ≡ suc i + d = omega arith in
      ap (at o (crosses o (x ∷ xs) (y ∷ ys))) z
      ∙ at_right L (crossed o x y (x ∷ xs) (y ∷ ys)) (crosses o xs ys) (suc (length xs)) (row (length xs) i + d) l
      ∙ at_crosses xs ys i d (omega arith) (omega arith)
      ∙ ap (λ (k : ℕ). at o xs i ⊗ at o (y ∷ ys) k ⊕ at o ys i ⊗ at o (x ∷ xs) k) w

  pub dot_pol : (cs x y : List A) → length y ≡ length x → row (length x) (length x) ≤ length cs → dot o cs (crosses o x y) ≡ pol L (length x) (at o cs) (at o x) (at o y)
  unfolding pol quad dsum
  dot_pol cs x y e h =
      let n : ℕ = length x in
      let lp = length_crosses o x y e in
      dot_sum L cs (crosses o x y) (omega arith)
      ∙ ap (λ (k : ℕ). sum_to o k (λ k. at o cs k ⊗ at o (crosses o x y) k)) lp
      ∙ sum_rows L n n (λ k. at o cs k ⊗ at o (crosses o x y) k)
      ∙ sum_cong o n _ _ (λ i l. sum_cong o (n - i) _ _ (λ d m.
      ap (λ (t : A). at o cs (row n i + d) ⊗ t) (at_crosses x y i d e (omega arith))
      ∙ L.mul_add (at o cs (row n i + d)) (at o x i ⊗ at o y (i + d)) (at o y i ⊗ at o x (i + d))))

-- the same of codes
module _ {q : ℕ} {o : Ops ℕ} {inv : ℕ → ℕ} (K : Field q o inv) where
  abbrev R : Ops (Below q)
  R = ring K

  crossed_code : (a b : Below q) (us vs : List (Below q)) → crossed o a.0 b.0 (codes q us) (codes q vs) ≡ codes q (crossed R a b us vs)
  unfolding codes
  crossed_code a b [] vs = refl
  crossed_code a b (u ∷ us) [] = refl
  crossed_code a b (u ∷ us) (v ∷ vs) = ap (λ t. o.add (o.mul a.0 v.0) (o.mul b.0 u.0) ∷ t) (crossed_code a b us vs)

  crosses_code : (xs ys : List (Below q)) → crosses o (codes q xs) (codes q ys) ≡ codes q (crosses R xs ys)
  unfolding codes
  crosses_code [] ys = refl
  crosses_code (x ∷ xs) [] = refl
  crosses_code (x ∷ xs) (y ∷ ys) = ap₂ ◌++◌ (crossed_code x y (x ∷ xs) (y ∷ ys)) (crosses_code xs ys) ∙ sym (codes_append K (crossed R x y (x ∷ xs) (y ∷ ys)) (crosses R xs ys))

  codes_drop : (a : ℕ) (xs : List (Below q)) → drop a (codes q xs) ≡ codes q (drop a xs)
  unfolding codes
  codes_drop zero xs = refl
  codes_drop (suc a) [] = refl
  codes_drop (suc a) (x ∷ xs) = codes_drop a xs

  elems : (m e : ℕ) (cs x y : List (Below q)) → e < m → length y ≡ length x → row (length x) (length x) ≤ length (drop (e * size (length x)) cs)
      → dot o (drop (e * size (length x)) (codes q cs)) (crosses o (codes q x) (codes q y)) ≡ at o (G o m (length x) (codes q cs) (codes q x) (codes q y)) e
  unfolding cof
  elems m e cs x y l s h =
      let n : ℕ = length x in
      ap₂ (dot o) (codes_drop (e * size n) cs) (crosses_code x y)
      ∙ dot_code K (drop (e * size n) cs) (crosses R x y)
      ∙ ap (λ (t : Below q). t.0)
      (dot_pol (ring_laws K) (drop (e * size n) cs) x y s h
      ∙ ap (λ (c : ℕ → Below q). pol (ring_laws K) n c (at R x) (at R y)) (fun_ext (λ k. get_or-drop (e * size n) cs k R.nil))
      ∙ sym (geq_is (ring_laws K) n (cof R n cs e) (at R x) (at R y))
      ∙ sym (G_at (ring_laws K) m n cs x y (at R x) (at R y) e l (λ k h. refl) (λ k h. refl)))
      ∙ sym (at_code K (G R m n cs x y) e)
      ∙ ap (λ (t : List ℕ). at o t e) (sym (G_code K m n cs x y))

  pub cross_entry : (m e : ℕ) (cs x y : List ℕ) → e < m → length y ≡ length x → row (length x) (length x) ≤ length (drop (e * size (length x)) cs) → Codes q cs → Codes q x → Codes q y
      → dot o (drop (e * size (length x)) cs) (crosses o x y) ≡ at o (G o m (length x) cs x y) e
  cross_entry m e cs x y l s h hc hx hy =
      let c = lift q cs hc in
      let u = lift q x hx in
      let v = lift q y hy in
      let lu = sym (codes_length q u.0) ∙ ap length u.1 in
      let lv = sym (codes_length q v.0) ∙ ap length v.1 in
      let lc = sym (codes_length q c.0) ∙ ap length c.1 in
      let s' : length v.0 ≡ length u.0 = lv ∙ s ∙ sym lu in
      let h' : row (length x) (length x) ≤ length (drop (e * size (length x)) c.0) = omega (arith, length-drop (e * size (length x)) c.0, length-drop (e * size (length x)) cs) in
      let h'' : row (length u.0) (length u.0) ≤ length (drop (e * size (length u.0)) c.0) = subst (λ (n : ℕ). row n n ≤ length (drop (e * size n) c.0)) (sym lu) h' in
      let t = elems m e c.0 u.0 v.0 l s' h'' in
      rw (c.1, u.1, v.1, lu) at t
