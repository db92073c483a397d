-- What the scheme rests on: G is linear, an honest round completes, and agreeing openings give a preimage. Assumes nothing.
use Rattle.std.specs.Prelude.{◌≡◌, ℕ, ◌*◌, ◌<◌, List, length, ◌≢◌}
use Rattle.field.specs.Ring.{Ops, sub}
use Rattle.field.specs.Codes.{Vector}
use Rattle.algebra.specs.Quad.{size, vadd, vsub, scale, F, G}

-- what counts as an element, as a vector of n elements, and as two elements that differ
pub record Domain (A : Type 0) : Type 1 where
  pub element : A → Type 0
  pub vector : ℕ → List A → Type 0
  pub differ : A → A → Type 0

-- In a ring every element counts; two differ in that their difference has an inverse.
abbrev pub whole_ring : {A : Type 0} → Ops A → Domain A
whole_ring {A} o = record { element = λ a. Unit {0}; vector = λ n xs. length xs ≡ n; differ = λ a b. (u : A) × (o.mul u (sub o a b) ≡ o.one) }

-- In a field of q elements the codes below q count; two differ in that they are not the same.
abbrev pub codes_below : ℕ → Domain ℕ
codes_below q = record { element = λ a. a < q; vector = Vector q; differ = λ a b. a ≢ b }

module _ {A : Type 0} (o : Ops A) where
  -- What a verifier works out from the answers r0 and r1 of a round with the challenge α: from r0 the committed t0 and e0, and
  -- from r1 the committed G(t0, r1) + e0.
  pub record Opens (m n : ℕ) (cs : List A) (α : A) (v r0 r1 t0 e0 t1 e1 : List A) : Type 0 where
    pub first : vsub o n (scale o n α r0) t1 ≡ t0
    pub value : vsub o m (scale o m α (F o m n cs r0)) e1 ≡ e0
    pub second : vsub o m (vsub o m (scale o m α (vsub o m v (F o m n cs r1))) (G o m n cs t1 r1)) e1 ≡ vadd o m (G o m n cs t0 r1) e0

  -- Four openings that agree: of r0 and of r1, each under the challenges α and β, with t and e sent under α, and t' and e' under β.
  pub record Agree (m n : ℕ) (cs : List A) (α β : A) (v r0 r1 t e t' e' : List A) : Type 0 where
    pub first : vsub o n (scale o n α r0) t ≡ vsub o n (scale o n β r0) t'
    pub value : vsub o m (scale o m α (F o m n cs r0)) e ≡ vsub o m (scale o m β (F o m n cs r0)) e'
    pub second : vsub o m (vsub o m (scale o m α (vsub o m v (F o m n cs r1))) (G o m n cs t r1)) e
        ≡ vsub o m (vsub o m (scale o m β (vsub o m v (F o m n cs r1))) (G o m n cs t' r1)) e'

module _ {A : Type 0} (o : Ops A) (D : Domain A) where
  -- G is linear in its first argument: G(x + z, y) = G(x, y) + G(z, y), and G(a·x, y) = a·G(x, y).
  pub record Linear : Type 0 where
    pub sums : (m n : ℕ) (cs x z y : List A) → D.vector (m * size n) cs → D.vector n x → D.vector n z → D.vector n y
        → G o m n cs (vadd o n x z) y ≡ vadd o m (G o m n cs x y) (G o m n cs z y)
    pub multiples : (m n : ℕ) (cs : List A) (a : A) (x y : List A) → D.vector (m * size n) cs → D.element a → D.vector n x → D.vector n y
        → G o m n cs (scale o n a x) y ≡ scale o m a (G o m n cs x y)

  -- A round that is run honestly completes, whatever the challenge α: v = F(s), r1 = s - r0, t1 = α·r0 - t0 and e1 = α·F(r0) - e0.
  abbrev pub Completes : Type 0
  Completes = (m n : ℕ) (cs : List A) (α : A) (s r0 t0 e0 : List A)
      → D.vector (m * size n) cs → D.element α → D.vector n s → D.vector n r0 → D.vector n t0 → D.vector m e0
      → Opens o m n cs α (F o m n cs s) r0 (vsub o n s r0) t0 e0 (vsub o n (scale o n α r0) t0) (vsub o m (scale o m α (F o m n cs r0)) e0)

  -- Four openings that agree under two challenges that differ give a preimage of v: F(r0 + r1) = v.
  abbrev pub Extracts : Type 0
  Extracts = (m n : ℕ) (cs : List A) (α β : A) (v r0 r1 t e t' e' : List A)
      → D.vector (m * size n) cs → D.element α → D.element β → D.differ α β → D.vector m v → D.vector n r0 → D.vector n r1
      → D.vector n t → D.vector m e → D.vector n t' → D.vector m e'
      → Agree o m n cs α β v r0 r1 t e t' e' → F o m n cs (vadd o n r0 r1) ≡ v
