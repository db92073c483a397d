-- Proofs of identities in a commutative ring: `close (simp diffs (same (simp semi)))`. Assumes nothing.
-- `diffs` writes both sides as one difference of sums without `neg`; `semi` multiplies out and sorts.
use Rattle.std.proofs.Common.{◌≡◌, sym, ap, ◌∙◌, ap₂}
use Rattle.field.specs.Ring.{Ops, Laws, sub}

module _ {A : Type 0} {o : Ops A} (L : Laws o) where
  open o use {nil as 𝟘, one as 𝟙, add as ◌⊕◌, neg as ⊖◌, mul as ◌⊗◌}

  infixl 60 ◌⊕◌
  infixl 70 ◌⊗◌
  infix 80 ⊖◌
  pub ⊕_comm : (a b : A) → a ⊕ b ≡ b ⊕ a
  ⊕_comm = L.add_comm

  pub ⊕_assoc : (a b c : A) → (a ⊕ b) ⊕ c ≡ a ⊕ (b ⊕ c)
  ⊕_assoc = L.add_assoc

  pub ⊕_left : (a b c : A) → a ⊕ (b ⊕ c) ≡ b ⊕ (a ⊕ c)
  ⊕_left a b c = sym (⊕_assoc a b c) ∙ ap (λ t. t ⊕ c) (⊕_comm a b) ∙ ⊕_assoc b a c

  pub ⊕_nil : (a : A) → a ⊕ 𝟘 ≡ a
  ⊕_nil = L.add_nil

  pub nil_⊕ : (a : A) → 𝟘 ⊕ a ≡ a
  nil_⊕ a = ⊕_comm 𝟘 a ∙ ⊕_nil a

  pub ⊗_comm : (a b : A) → a ⊗ b ≡ b ⊗ a
  ⊗_comm = L.mul_comm

  pub ⊗_assoc : (a b c : A) → (a ⊗ b) ⊗ c ≡ a ⊗ (b ⊗ c)
  ⊗_assoc = L.mul_assoc

  pub ⊗_left : (a b c : A) → a ⊗ (b ⊗ c) ≡ b ⊗ (a ⊗ c)
  ⊗_left a b c = sym (⊗_assoc a b c) ∙ ap (λ t. t ⊗ c) (⊗_comm a b) ∙ ⊗_assoc b a c

  pub ⊗_one : (a : A) → a ⊗ 𝟙 ≡ a
  ⊗_one = L.mul_one

  pub one_⊗ : (a : A) → 𝟙 ⊗ a ≡ a
  one_⊗ a = ⊗_comm 𝟙 a ∙ ⊗_one a

  pub ⊗_⊕ : (a b c : A) → a ⊗ (b ⊕ c) ≡ a ⊗ b ⊕ a ⊗ c
  ⊗_⊕ = L.mul_add

  pub ⊕_⊗ : (a b c : A) → (a ⊕ b) ⊗ c ≡ a ⊗ c ⊕ b ⊗ c
  ⊕_⊗ a b c = ⊗_comm (a ⊕ b) c ∙ ⊗_⊕ c a b ∙ ap₂ ◌⊕◌ (⊗_comm c a) (⊗_comm c b)

  -- cancellation
  pub ⊕_cancel : (a b c : A) → a ⊕ c ≡ b ⊕ c → a ≡ b
  ⊕_cancel a b c e = sym (drop_c a) ∙ ap (λ t. t ⊕ ⊖ c) e ∙ drop_c b
    where
      drop_c : (t : A) → (t ⊕ c) ⊕ ⊖ c ≡ t
      drop_c t = ⊕_assoc t c (⊖ c) ∙ ap (λ u. t ⊕ u) (L.add_neg c) ∙ ⊕_nil t

  pub ⊗_nil : (a : A) → a ⊗ 𝟘 ≡ 𝟘
  ⊗_nil a = ⊕_cancel (a ⊗ 𝟘) 𝟘 (a ⊗ 𝟘) (sym (⊗_⊕ a 𝟘 𝟘) ∙ ap (λ t. a ⊗ t) (⊕_nil 𝟘) ∙ sym (nil_⊕ (a ⊗ 𝟘)))

  pub nil_⊗ : (a : A) → 𝟘 ⊗ a ≡ 𝟘
  nil_⊗ a = ⊗_comm 𝟘 a ∙ ⊗_nil a

  -- a - b, which no rule opens
  unfoldable pub diff : A → A → A
  diff a b = a ⊕ ⊖ b

  -- what is known of a difference: d ≡ diff a b exactly when d + b ≡ a
  pub diff_add : (a b : A) → diff a b ⊕ b ≡ a
  unfolding diff
  diff_add a b = ⊕_assoc a (⊖ b) b ∙ ap (λ t. a ⊕ t) (⊕_comm (⊖ b) b ∙ L.add_neg b) ∙ ⊕_nil a

  pub is_diff : (d a b : A) → d ⊕ b ≡ a → d ≡ diff a b
  is_diff d a b e = ⊕_cancel d (diff a b) b (e ∙ sym (diff_add a b))

  pub neg_diff : (a : A) → ⊖ a ≡ diff 𝟘 a
  unfolding diff
  neg_diff a = sym (nil_⊕ (⊖ a))

  pub diff_⊕ : (p n a : A) → diff p n ⊕ a ≡ diff (p ⊕ a) n
  unfolding diff
  diff_⊕ p n a = simp (⊕_assoc, ⊕_comm, ⊕_left)

  pub ⊕_diff : (a p n : A) → a ⊕ diff p n ≡ diff (a ⊕ p) n
  unfolding diff
  ⊕_diff a p n = simp (⊕_assoc, ⊕_comm, ⊕_left)

  pub diff_diff : (p n a : A) → diff (diff p n) a ≡ diff p (n ⊕ a)
  diff_diff p n a = is_diff (diff (diff p n) a) p (n ⊕ a) (ap (λ t. diff (diff p n) a ⊕ t) (⊕_comm n a) ∙ sym (⊕_assoc (diff (diff p n) a) a n) ∙ ap (λ t. t ⊕ n) (diff_add (diff p n) a) ∙ diff_add p n)

  pub diff_of_diff : (a p n : A) → diff a (diff p n) ≡ diff (a ⊕ n) p
  diff_of_diff a p n = is_diff (diff a (diff p n)) (a ⊕ n) p (ap (λ t. diff a (diff p n) ⊕ t) (sym (diff_add p n)) ∙ sym (⊕_assoc (diff a (diff p n)) (diff p n) n) ∙ ap (λ t. t ⊕ n) (diff_add a (diff p n)))

  pub ⊗_diff : (a p n : A) → a ⊗ diff p n ≡ diff (a ⊗ p) (a ⊗ n)
  ⊗_diff a p n = is_diff (a ⊗ diff p n) (a ⊗ p) (a ⊗ n) (sym (⊗_⊕ a (diff p n) n) ∙ ap (λ t. a ⊗ t) (diff_add p n))

  pub diff_⊗ : (p n a : A) → diff p n ⊗ a ≡ diff (p ⊗ a) (n ⊗ a)
  diff_⊗ p n a = is_diff (diff p n ⊗ a) (p ⊗ a) (n ⊗ a) (sym (⊕_⊗ (diff p n) n a) ∙ ap (λ t. t ⊗ a) (diff_add p n))

  pub close : {a b : A} → diff a b ≡ 𝟘 → a ≡ b
  close {a} {b} e = sym (diff_add a b) ∙ ap (λ t. t ⊕ b) e ∙ nil_⊕ b

  pub same : {a b : A} → a ≡ b → diff a b ≡ 𝟘
  same {a} {b} e = sym (is_diff 𝟘 a b (nil_⊕ b ∙ sym e))

  pub ruleset diffs = (sub, diff_diff, diff_of_diff, neg_diff, diff_⊕, ⊕_diff, ⊗_diff, diff_⊗)

  pub ruleset semi = (⊕_nil, nil_⊕, ⊗_nil, nil_⊗, ⊗_one, one_⊗, ⊗_⊕, ⊕_⊗, ⊕_assoc, ⊕_comm, ⊕_left, ⊗_assoc, ⊗_comm, ⊗_left)

  -- a sum of hypotheses: a ≡ b from p ≡ q and a + q ≡ b + p
  pub given : {a b p q : A} → p ≡ q → a ⊕ q ≡ b ⊕ p → a ≡ b
  given {a} {b} {p} {q} h e = ⊕_cancel a b p (ap (λ t. a ⊕ t) h ∙ e)
