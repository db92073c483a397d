-- The map on lists: G is linear in its first argument, a round completes, and four openings give a preimage. Assumes nothing.
use Rattle.std.proofs.Common.{◌≡◌, ℕ, ◌+◌, ◌*◌, ◌<◌, List, length, sym, refl, ap, ◌∙◌, ap₂, arith}
use Rattle.std.proofs.lemmas.List.FromFn.{fill_by_all, get_or-map-range_with_len, length-map-range_with_len}
use Rattle.field.specs.Ring.{Ops, Laws, sub}
use Rattle.algebra.specs.Quad.{eqn, size, at, tab, vadd, vsub, scale, F, G}
use Rattle.algebra.proofs.Group.{semi, diffs, close, same}
use Rattle.algebra.proofs.Polar.{eqn_cong, geq, geq_is, pol_add, pol_mul, round_complete, round_extract}

module _ {A : Type 0} (o : Ops A) where
  pub at_tab : (n : ℕ) (f : ℕ → A) (k : ℕ) → k < n → at o (tab o n f) k ≡ f k
  at_tab n f k l = get_or-map-range_with_len f 0 n k k o.nil l (omega arith)

  pub tab_cong : (n : ℕ) (f g : ℕ → A) → ((k : ℕ) → k < n → f k ≡ g k) → tab o n f ≡ tab o n g
  tab_cong n f g h = fill_by_all g (tab o n f) n o.nil (length-map-range_with_len f 0 n) (λ k l. at_tab n f k l ∙ h k l)

  pub tab_at : (n : ℕ) (xs : List A) → length xs ≡ n → tab o n (at o xs) ≡ xs
  tab_at n xs e = sym (fill_by_all (at o xs) xs n o.nil e (λ k l. refl))

  pub list_ext : (n : ℕ) (xs ys : List A) → length xs ≡ n → length ys ≡ n → ((k : ℕ) → k < n → at o xs k ≡ at o ys k) → xs ≡ ys
  list_ext n xs ys p q h = fill_by_all (at o ys) xs n o.nil p h ∙ tab_at n ys q

  pub vadd_at : (n : ℕ) (x y : List A) (k : ℕ) → k < n → at o (vadd o n x y) k ≡ o.add (at o x k) (at o y k)
  unfolding vadd
  vadd_at n x y k l = at_tab n _ k l

  pub vsub_at : (n : ℕ) (x y : List A) (k : ℕ) → k < n → at o (vsub o n x y) k ≡ sub o (at o x k) (at o y k)
  unfolding vsub
  vsub_at n x y k l = at_tab n _ k l

  pub scale_at : (n : ℕ) (a : A) (x : List A) (k : ℕ) → k < n → at o (scale o n a x) k ≡ o.mul a (at o x k)
  unfolding scale
  scale_at n a x k l = at_tab n _ k l

  pub vadd_length : (n : ℕ) (x y : List A) → length (vadd o n x y) ≡ n
  unfolding vadd
  vadd_length n x y = length-map-range_with_len _ 0 n

  pub vsub_length : (n : ℕ) (x y : List A) → length (vsub o n x y) ≡ n
  unfolding vsub
  vsub_length n x y = length-map-range_with_len _ 0 n

  pub scale_length : (n : ℕ) (a : A) (x : List A) → length (scale o n a x) ≡ n
  unfolding scale
  scale_length n a x = length-map-range_with_len _ 0 n

  pub F_length : (m n : ℕ) (cs x : List A) → length (F o m n cs x) ≡ m
  unfolding F
  F_length m n cs x = length-map-range_with_len _ 0 m

  pub G_length : (m n : ℕ) (cs x y : List A) → length (G o m n cs x y) ≡ m
  unfolding G
  G_length m n cs x y = vsub_length m _ _

  -- coefficients of equation e
  unfoldable pub cof : ℕ → List A → ℕ → ℕ → A
  cof n cs e k = at o cs (e * size n + k)

pub ruleset entries = (vadd_at, vsub_at, scale_at)

module _ {A : Type 0} {o : Ops A} (L : Laws o) where
  -- a·x - (a·x - y) is y again
  pub reopen : (j : ℕ) (a : A) (x y : List A) → length y ≡ j → vsub o j (scale o j a x) (vsub o j (scale o j a x) y) ≡ y
  reopen j a x y h = list_ext o j _ _ (vsub_length o j _ _) h (λ e l. simp entries (close L (simp (diffs, L) (same L (simp (semi, L))))))

module _ {A : Type 0} {o : Ops A} (L : Laws o) (m n : ℕ) (cs : List A) where
  open o use {nil as 𝟘, one as 𝟙, add as ◌⊕◌, neg as ⊖◌, mul as ◌⊗◌}

  infixl 60 ◌⊕◌
  infixl 70 ◌⊗◌
  -- the entries of F and G, where those of the vectors are known
  pub F_at : (x : List A) (f : ℕ → A) (e : ℕ) → e < m → ((k : ℕ) → k < n → at o x k ≡ f k) → at o (F o m n cs x) e ≡ eqn o n (cof o n cs e) f
  unfolding F cof
  F_at x f e l h = at_tab o m _ e l ∙ eqn_cong o n _ _ _ h

  pub G_at : (x y : List A) (f g : ℕ → A) (e : ℕ) → e < m → ((k : ℕ) → k < n → at o x k ≡ f k) → ((k : ℕ) → k < n → at o y k ≡ g k)
      → at o (G o m n cs x y) e ≡ geq L n (cof o n cs e) f g
  unfolding G geq
  G_at x y f g e l p q =
      let both : at o (F o m n cs (vadd o n x y)) e ≡ eqn o n (cof o n cs e) (λ k. f k ⊕ g k) =
      F_at (vadd o n x y) (λ k. f k ⊕ g k) e l (λ k h. vadd_at o n x y k h ∙ ap₂ ◌⊕◌ (p k h) (q k h)) in
      simp (entries, both, F_at x f e l p, F_at y g e l q)

  -- G is linear in its first argument
  pub G_add : (x z y : List A) → G o m n cs (vadd o n x z) y ≡ vadd o m (G o m n cs x y) (G o m n cs z y)
  G_add x z y = list_ext o m _ _ (G_length o m n cs _ y) (vadd_length o m _ _) (λ e l.
      let c : ℕ → A = cof o n cs e in
      G_at (vadd o n x z) y (λ k. at o x k ⊕ at o z k) (at o y) e l (λ k h. vadd_at o n x z k h) (λ k h. refl)
      ∙ geq_is L n c _ _ ∙ pol_add L n c (at o x) (at o z) (at o y)
      ∙ ap₂ ◌⊕◌ (sym (G_at x y (at o x) (at o y) e l (λ k h. refl) (λ k h. refl) ∙ geq_is L n c _ _)) (sym (G_at z y (at o z) (at o y) e l (λ k h. refl) (λ k h. refl) ∙ geq_is L n c _ _))
      ∙ sym (vadd_at o m _ _ e l))

  pub G_scale : (a : A) (x y : List A) → G o m n cs (scale o n a x) y ≡ scale o m a (G o m n cs x y)
  G_scale a x y = list_ext o m _ _ (G_length o m n cs _ y) (scale_length o m _ _) (λ e l.
      let c : ℕ → A = cof o n cs e in
      G_at (scale o n a x) y (λ k. a ⊗ at o x k) (at o y) e l (λ k h. scale_at o n a x k h) (λ k h. refl)
      ∙ geq_is L n c _ _ ∙ pol_mul L n c a (at o x) (at o y)
      ∙ ap (λ t. a ⊗ t) (sym (G_at x y (at o x) (at o y) e l (λ k h. refl) (λ k h. refl) ∙ geq_is L n c _ _))
      ∙ sym (scale_at o m _ _ e l))

  -- a round that is run honestly
  pub complete : (α : A) (s r0 t0 e0 : List A)
      → vsub o m (vsub o m (scale o m α (vsub o m (F o m n cs s) (F o m n cs (vsub o n s r0)))) (G o m n cs (vsub o n (scale o n α r0) t0) (vsub o n s r0))) (vsub o m (scale o m α (F o m n cs r0)) e0)
      ≡ vadd o m (G o m n cs t0 (vsub o n s r0)) e0
  complete α s r0 t0 e0 = list_ext o m _ _ (vsub_length o m _ _) (vadd_length o m _ _) (λ e l.
      let r1 : ℕ → A = λ k. sub o (at o s k) (at o r0 k) in
      let t1 : ℕ → A = λ k. sub o (α ⊗ at o r0 k) (at o t0 k) in
      let r1-is : (k : ℕ) → k < n → at o (vsub o n s r0) k ≡ r1 k = λ k h. vsub_at o n s r0 k h in
      let t1_is : (k : ℕ) → k < n → at o (vsub o n (scale o n α r0) t0) k ≡ t1 k = λ k h. simp entries in
      let fs = F_at s (at o s) e l (λ k h. refl) in
      let f0 = F_at r0 (at o r0) e l (λ k h. refl) in
      let f1 = F_at (vsub o n s r0) r1 e l r1-is in
      let g1 = G_at (vsub o n (scale o n α r0) t0) (vsub o n s r0) t1 r1 e l t1_is r1-is in
      let g0 = G_at t0 (vsub o n s r0) (at o t0) r1 e l (λ k h. refl) r1-is in
      simp (entries, fs, f0, f1, g1, g0) (round_complete L n (cof o n cs e) α (at o s) (at o r0) (at o t0) (at o e0 e)))

  -- four openings that agree give a preimage of v
  pub extract : (a b u : A) (v r0 r1 t t' e e' : List A) → length v ≡ m → u ⊗ sub o a b ≡ 𝟙
      → vsub o n (scale o n a r0) t ≡ vsub o n (scale o n b r0) t'
      → vsub o m (scale o m a (F o m n cs r0)) e ≡ vsub o m (scale o m b (F o m n cs r0)) e'
      → vsub o m (vsub o m (scale o m a (vsub o m v (F o m n cs r1))) (G o m n cs t r1)) e ≡ vsub o m (vsub o m (scale o m b (vsub o m v (F o m n cs r1))) (G o m n cs t' r1)) e'
      → F o m n cs (vadd o n r0 r1) ≡ v
  extract a b u v r0 r1 t t' e e' lv inv ht he hv = list_ext o m _ _ (F_length o m n cs _) lv (λ i l.
      let c : ℕ → A = cof o n cs i in
      let f0 = F_at r0 (at o r0) i l (λ k h. refl) in
      let f1 = F_at r1 (at o r1) i l (λ k h. refl) in
      let g = G_at t r1 (at o t) (at o r1) i l (λ k h. refl) (λ k h. refl) in
      let g' = G_at t' r1 (at o t') (at o r1) i l (λ k h. refl) (λ k h. refl) in
      F_at (vadd o n r0 r1) (λ k. at o r0 k ⊕ at o r1 k) i l (λ k h. vadd_at o n r0 r1 k h)
      ∙ round_extract L n c a b u (at o v i) (at o r0) (at o r1) (at o t) (at o t') (at o e i) (at o e' i) inv
      (λ k h. simp entries at (ap (λ w. at o w k) ht))
      (simp (entries, f0) at (ap (λ w. at o w i) he))
      (simp (entries, f1, g, g') at (ap (λ w. at o w i) hv)))
