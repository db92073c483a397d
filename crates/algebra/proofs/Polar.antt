-- The polar form of one equation, by entries. Assumes nothing.
use Rattle.std.proofs.Common.{◌≡◌, ℕ, zero, suc, ◌+◌, ◌-◌, ◌<◌, sym, refl, ap, ◌∙◌, ap₂, arith}
use mathlib.Core.Path.{fun_ext}
use Rattle.field.specs.Ring.{Ops, Laws, sub}
use Rattle.algebra.specs.Quad.{sum_to, row, eqn}
use Rattle.algebra.proofs.Group.{semi, diffs, close, same, given, is_diff, diff, diff_add}

module _ {A : Type 0} (o : Ops A) where
  pub sum_zero : (f : ℕ → A) → sum_to o 0 f ≡ o.nil
  unfolding sum_to
  sum_zero f = refl

  pub sum_next : (n : ℕ) (f : ℕ → A) → sum_to o (suc n) f ≡ o.add (sum_to o n f) (f n)
  unfolding sum_to
  sum_next n f = refl

  -- only entries below n count
  pub sum_cong : (n : ℕ) (f g : ℕ → A) → ((k : ℕ) → k < n → f k ≡ g k) → sum_to o n f ≡ sum_to o n g
  unfolding sum_to
  sum_cong zero f g h = refl
  sum_cong (suc n) f g h = ap₂ o.add (sum_cong n f g (λ k l. h k (omega arith))) (h n (omega arith))

  pub eqn_cong : (n : ℕ) (c x y : ℕ → A) → ((k : ℕ) → k < n → x k ≡ y k) → eqn o n c x ≡ eqn o n c y
  unfolding eqn
  eqn_cong n c x y h =
      ap₂ o.add
      (sum_cong n _ _ (λ i l. sum_cong (n - i) _ _ (λ d m. ap (o.mul (c (row n i + d))) (ap₂ o.mul (h i l) (h (i + d) (omega arith))))))
      (sum_cong n _ _ (λ i l. ap (o.mul (c (row n n + i))) (h i l)))

module _ {A : Type 0} {o : Ops A} (L : Laws o) where
  open o use {nil as 𝟘, one as 𝟙, add as ◌⊕◌, neg as ⊖◌, mul as ◌⊗◌}

  infixl 60 ◌⊕◌
  infixl 70 ◌⊗◌
  infix 80 ⊖◌
  pub sum_add : (n : ℕ) (f g : ℕ → A) → sum_to o n (λ i. f i ⊕ g i) ≡ sum_to o n f ⊕ sum_to o n g
  unfolding sum_to
  sum_add zero f g = simp (semi, L)
  sum_add (suc n) f g = ap (λ t. t ⊕ (f n ⊕ g n)) (sum_add n f g) ∙ simp (semi, L)

  pub sum_mul : (n : ℕ) (a : A) (f : ℕ → A) → sum_to o n (λ i. a ⊗ f i) ≡ a ⊗ sum_to o n f
  unfolding sum_to
  sum_mul zero a f = simp (semi, L)
  sum_mul (suc n) a f = ap (λ t. t ⊕ a ⊗ f n) (sum_mul n a f) ∙ simp (semi, L)

  -- the sum over i < n and d < n - i
  unfoldable pub dsum : ℕ → (ℕ → ℕ → A) → A
  dsum n T = sum_to o n (λ i. sum_to o (n - i) (T i))

  pub dsum_add : (n : ℕ) (T U : ℕ → ℕ → A) → dsum n (λ i d. T i d ⊕ U i d) ≡ dsum n T ⊕ dsum n U
  unfolding dsum
  dsum_add n T U = ap (sum_to o n) (fun_ext (λ i. sum_add (n - i) (T i) (U i))) ∙ sum_add n (λ i. sum_to o (n - i) (T i)) (λ i. sum_to o (n - i) (U i))

  pub dsum_mul : (n : ℕ) (a : A) (T : ℕ → ℕ → A) → dsum n (λ i d. a ⊗ T i d) ≡ a ⊗ dsum n T
  unfolding dsum
  dsum_mul n a T = ap (sum_to o n) (fun_ext (λ i. sum_mul (n - i) a (T i))) ∙ sum_mul n a (λ i. sum_to o (n - i) (T i))

  pub dsum_ext : (n : ℕ) (T U : ℕ → ℕ → A) → ((i d : ℕ) → T i d ≡ U i d) → dsum n T ≡ dsum n U
  dsum_ext n T U h = ap (dsum n) (fun_ext (λ i. fun_ext (h i)))

  module _ (n : ℕ) (c : ℕ → A) where
    unfoldable pub quad : (x y : ℕ → A) → ℕ → ℕ → A
    quad x y i d = c (row n i + d) ⊗ (x i ⊗ y (i + d))

    lin : (ℕ → A) → A
    lin x = sum_to o n (λ i. c (row n n + i) ⊗ x i)

    unfoldable pub pol : (x y : ℕ → A) → A
    pol x y = dsum n (λ i d. quad x y i d ⊕ quad y x i d)

    eqn_is : (x : ℕ → A) → eqn o n c x ≡ dsum n (quad x x) ⊕ lin x
    unfolding eqn dsum quad lin
    eqn_is x = refl

    quad_split : (x y : ℕ → A) → dsum n (quad (λ k. x k ⊕ y k) (λ k. x k ⊕ y k)) ≡ (dsum n (quad x x) ⊕ dsum n (quad y y)) ⊕ pol x y
    unfolding quad pol
    quad_split x y =
        dsum_ext n _ (λ i d. (quad x x i d ⊕ quad y y i d) ⊕ (quad x y i d ⊕ quad y x i d)) (λ i d. simp (semi, L))
        ∙ dsum_add n (λ i d. quad x x i d ⊕ quad y y i d) (λ i d. quad x y i d ⊕ quad y x i d)
        ∙ ap (λ t. t ⊕ pol x y) (dsum_add n (quad x x) (quad y y))

    lin_add : (x y : ℕ → A) → lin (λ k. x k ⊕ y k) ≡ lin x ⊕ lin y
    unfolding lin
    lin_add x y = ap (sum_to o n) (fun_ext (λ i. L.mul_add (c (row n n + i)) (x i) (y i))) ∙ sum_add n _ _

    pub eqn_split : (x y : ℕ → A) → eqn o n c (λ k. x k ⊕ y k) ≡ (eqn o n c x ⊕ eqn o n c y) ⊕ pol x y
    eqn_split x y = eqn_is _ ∙ ap₂ ◌⊕◌ (quad_split x y) (lin_add x y) ∙ simp (eqn_is, semi, L)

    pub pol_add : (x z y : ℕ → A) → pol (λ k. x k ⊕ z k) y ≡ pol x y ⊕ pol z y
    unfolding pol quad
    pol_add x z y =
        dsum_ext n _ (λ i d. (quad x y i d ⊕ quad y x i d) ⊕ (quad z y i d ⊕ quad y z i d)) (λ i d. simp (semi, L))
        ∙ dsum_add n _ _

    pub pol_mul : (a : A) (x y : ℕ → A) → pol (λ k. a ⊗ x k) y ≡ a ⊗ pol x y
    unfolding pol quad
    pol_mul a x y = dsum_ext n _ (λ i d. a ⊗ (quad x y i d ⊕ quad y x i d)) (λ i d. simp (semi, L)) ∙ dsum_mul n a _

    -- G of one equation
    unfoldable pub geq : (x y : ℕ → A) → A
    geq x y = sub o (sub o (eqn o n c (λ k. x k ⊕ y k)) (eqn o n c x)) (eqn o n c y)

    pub geq_is : (x y : ℕ → A) → geq x y ≡ pol x y
    unfolding geq
    geq_is x y = rw (eqn_split x y) (close L (simp (diffs, L) (same L (simp (semi, L)))))

    pub geq_cong : (x z y : ℕ → A) → ((k : ℕ) → k < n → x k ≡ z k) → geq x y ≡ geq z y
    unfolding geq
    geq_cong x z y h = ap₂ (λ p q. sub o (sub o p q) (eqn o n c y)) (eqn_cong o n c _ _ (λ k l. ap (λ t. t ⊕ y k) (h k l))) (eqn_cong o n c x z h)

    pub pol_sub : (x z y : ℕ → A) → pol (λ k. sub o (x k) (z k)) y ≡ sub o (pol x y) (pol z y)
    unfolding diff
    pol_sub x z y =
        is_diff L _ _ _ (sym (pol_add (λ k. sub o (x k) (z k)) z y) ∙ ap (λ t. pol t y) (fun_ext (λ k. diff_add L (x k) (z k))))

    -- a round that is run honestly: what a verifier works out from r1 is what was committed to
    pub round_complete : (α : A) (s r0 t0 : ℕ → A) (e0 : A)
        → let r1 : ℕ → A = λ k. sub o (s k) (r0 k) in
        let t1 : ℕ → A = λ k. sub o (α ⊗ r0 k) (t0 k) in
        let e1 : A = sub o (α ⊗ eqn o n c r0) e0 in
        sub o (sub o (α ⊗ sub o (eqn o n c s) (eqn o n c r1)) (geq t1 r1)) e1 ≡ geq t0 r1 ⊕ e0
    round_complete α s r0 t0 e0 =
        let r1 : ℕ → A = λ k. sub o (s k) (r0 k) in
        let v_is : eqn o n c s ≡ (eqn o n c r0 ⊕ eqn o n c r1) ⊕ pol r0 r1 =
        ap (eqn o n c) (fun_ext (λ k. close L (simp (diffs, L) (same L (simp (semi, L)))))) ∙ eqn_split r0 r1 in
        let p-is : pol (λ k. sub o (α ⊗ r0 k) (t0 k)) r1 ≡ sub o (α ⊗ pol r0 r1) (pol t0 r1) =
        pol_sub (λ k. α ⊗ r0 k) t0 r1 ∙ ap (λ t. sub o t (pol t0 r1)) (pol_mul α r0 r1) in
        rw (geq_is (λ k. sub o (α ⊗ r0 k) (t0 k)) r1, geq_is t0 r1, v_is, p-is) (close L (simp (diffs, L) (same L (simp (semi, L)))))

    -- openings that agree, under challenges whose difference has the inverse u
    pub round_extract : (a b u v : A) (r0 r1 t t' : ℕ → A) (e e' : A)
        → u ⊗ sub o a b ≡ 𝟙
        → ((k : ℕ) → k < n → sub o (a ⊗ r0 k) (t k) ≡ sub o (b ⊗ r0 k) (t' k))
        → sub o (a ⊗ eqn o n c r0) e ≡ sub o (b ⊗ eqn o n c r0) e'
        → sub o (sub o (a ⊗ sub o v (eqn o n c r1)) (geq t r1)) e ≡ sub o (sub o (b ⊗ sub o v (eqn o n c r1)) (geq t' r1)) e'
        → eqn o n c (λ k. r0 k ⊕ r1 k) ≡ v
    round_extract a b u v r0 r1 t t' e e' inv ht he hv =
        let t-is : (k : ℕ) → k < n → t k ≡ t' k ⊕ sub o a b ⊗ r0 k =
        λ k h. given L (sym (ht k h)) (close L (simp (diffs, L) (same L (simp (semi, L))))) in
        let p-is : geq t r1 ≡ geq t' r1 ⊕ sub o a b ⊗ pol r0 r1 =
        geq_cong t _ r1 t-is ∙ geq_is _ r1 ∙ pol_add t' (λ k. sub o a b ⊗ r0 k) r1 ∙ ap₂ ◌⊕◌ (sym (geq_is t' r1)) (pol_mul (sub o a b) r0 r1) in
        let times : sub o a b ⊗ eqn o n c (λ k. r0 k ⊕ r1 k) ≡ sub o a b ⊗ v =
        rw (eqn_split r0 r1) (given L (sym hv) (given L (sym p-is) (given L he (close L (simp (diffs, L) (same L (simp (semi, L)))))))) in
        let back : (w : A) → u ⊗ (sub o a b ⊗ w) ≡ w = λ w. sym (L.mul_assoc u (sub o a b) w) ∙ ap (λ s. s ⊗ w) inv ∙ L.mul_comm 𝟙 w ∙ L.mul_one w in
        sym (back _) ∙ ap (λ w. u ⊗ w) times ∙ back v
