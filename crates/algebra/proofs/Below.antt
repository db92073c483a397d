-- The codes of a field as a ring, and the map over that ring read on codes. Assumes nothing.
use Rattle.std.proofs.Common.{◌≡◌, ℕ, zero, suc, ◌+◌, ◌-◌, ◌*◌, ◌<◌, List, [], ◌∷◌, map, length, get_or, refl, ap, ◌∙◌, ap₂, suc-le-suc, zero-le, arith}
use mathlib.Core.Path.{fun_ext}
use mathlib.Core.HLevel.{Σ_prop_path}
use native.Mathlib.Bridge.{le_prop}
use lib.ListN.{get_or-map, length-map}
use Rattle.std.specs.List.{range_with_len}
use Rattle.field.specs.Ring.{Ops, Laws, sub}
use Rattle.algebra.specs.Quad.{sum_to, row, eqn, size, at, tab, vadd, vsub, scale, F, G}
use Rattle.field.specs.Codes.{Field, Codes, Vector}
use Rattle.algebra.proofs.Vectors.{F_length, vadd_length, vsub_length, scale_length, G_length}

abbrev pub Below : ℕ → Type 0
Below q = (k : ℕ) × (k < q)

pub same_code : {q : ℕ} {x y : Below q} → x.0 ≡ y.0 → x ≡ y
same_code {q} {x} {y} e = Σ_prop_path (λ k. le_prop) {u = x} {v = y} e

-- the codes of a list of elements
unfoldable pub codes : (q : ℕ) → List (Below q) → List ℕ
codes q xs = map (λ x. x.0) xs

-- each list of codes is one of elements
pub lift : (q : ℕ) (xs : List ℕ) → Codes q xs → (ys : List (Below q)) × (codes q ys ≡ xs)
unfolding codes
lift q [] h = ([], refl)
lift q (x ∷ xs) h =
    let r = lift q xs (λ k l. h (suc k) (suc-le-suc l)) in
    ((x, h 0 (suc-le-suc zero-le)) ∷ r.0, ap (λ t. x ∷ t) r.1)

pub codes_length : (q : ℕ) (xs : List (Below q)) → length (codes q xs) ≡ length xs
unfolding codes
codes_length q xs = length-map xs (λ x. x.0)

module _ {q : ℕ} {o : Ops ℕ} {inv : ℕ → ℕ} (K : Field q o inv) where
  abbrev pub ring : Ops (Below q)
  ring = record {
    nil = (o.nil, K.nil_ok);
    one = (o.one, K.one_ok);
    add = λ a b. (o.add a.0 b.0, K.add_ok a.0 b.0 a.1 b.1);
    neg = λ a. (o.neg a.0, K.neg_ok a.0 a.1);
    mul = λ a b. (o.mul a.0 b.0, K.mul_ok a.0 b.0 a.1 b.1);
  }

  pub ring_laws : Laws ring
  ring_laws = record {
    add_assoc = λ a b c. same_code (K.add_assoc a.0 b.0 c.0 a.1 b.1 c.1);
    add_comm = λ a b. same_code (K.add_comm a.0 b.0 a.1 b.1);
    add_nil = λ a. same_code (K.add_nil a.0 a.1);
    add_neg = λ a. same_code (K.add_neg a.0 a.1);
    mul_assoc = λ a b c. same_code (K.mul_assoc a.0 b.0 c.0 a.1 b.1 c.1);
    mul_comm = λ a b. same_code (K.mul_comm a.0 b.0 a.1 b.1);
    mul_one = λ a. same_code (K.mul_one a.0 a.1);
    mul_add = λ a b c. same_code (K.mul_add a.0 b.0 c.0 a.1 b.1 c.1);
  }

  sum_code : (n : ℕ) (f : ℕ → Below q) → sum_to o n (λ i. (f i).0) ≡ (sum_to ring n f).0
  unfolding sum_to
  sum_code zero f = refl
  sum_code (suc n) f = ap (λ t. o.add t (f n).0) (sum_code n f)

  pub eqn_code : (n : ℕ) (c x : ℕ → Below q) → eqn o n (λ k. (c k).0) (λ k. (x k).0) ≡ (eqn ring n c x).0
  unfolding eqn
  eqn_code n c x =
      ap₂ o.add
      (ap (sum_to o n) (fun_ext (λ i. sum_code (n - i) (λ d. ring.mul (c (row n i + d)) (ring.mul (x i) (x (i + d)))))) ∙ sum_code n (λ i. sum_to ring (n - i) (λ d. ring.mul (c (row n i + d)) (ring.mul (x i) (x (i + d))))))
      (sum_code n (λ i. ring.mul (c (row n n + i)) (x i)))

  pub at_code : (xs : List (Below q)) (k : ℕ) → at o (codes q xs) k ≡ (at ring xs k).0
  unfolding codes
  at_code xs k = get_or-map (λ x. x.0) xs k ring.nil

  tab_code : (n : ℕ) (f : ℕ → Below q) → tab o n (λ k. (f k).0) ≡ codes q (tab ring n f)
  unfolding codes
  tab_code n f = go (range_with_len 0 n)
    where
      go : (l : List ℕ) → map (λ k. (f k).0) l ≡ map (λ (x : Below q). x.0) (map f l)
      go [] = refl
      go (k ∷ l) = ap (λ t. (f k).0 ∷ t) (go l)

  pub vadd_code : (n : ℕ) (x y : List (Below q)) → vadd o n (codes q x) (codes q y) ≡ codes q (vadd ring n x y)
  unfolding vadd
  vadd_code n x y = simp at_code (tab_code n (λ k. ring.add (at ring x k) (at ring y k)))

  pub vsub_code : (n : ℕ) (x y : List (Below q)) → vsub o n (codes q x) (codes q y) ≡ codes q (vsub ring n x y)
  unfolding vsub
  vsub_code n x y = simp at_code (tab_code n (λ k. sub ring (at ring x k) (at ring y k)))

  pub scale_code : (n : ℕ) (a : Below q) (x : List (Below q)) → scale o n a.0 (codes q x) ≡ codes q (scale ring n a x)
  unfolding scale
  scale_code n a x = simp at_code (tab_code n (λ k. ring.mul a (at ring x k)))

  pub F_code : (m n : ℕ) (cs x : List (Below q)) → F o m n (codes q cs) (codes q x) ≡ codes q (F ring m n cs x)
  unfolding F
  F_code m n cs x =
      ap (tab o m) (fun_ext (λ e. ap₂ (eqn o n) (fun_ext (λ k. at_code cs (e * size n + k))) (fun_ext (at_code x)) ∙ eqn_code n (λ k. at ring cs (e * size n + k)) (at ring x)))
      ∙ tab_code m (λ e. eqn ring n (λ k. at ring cs (e * size n + k)) (at ring x))

  pub G_code : (m n : ℕ) (cs x y : List (Below q)) → G o m n (codes q cs) (codes q x) (codes q y) ≡ codes q (G ring m n cs x y)
  unfolding G
  G_code m n cs x y = simp (vadd_code, F_code, vsub_code)

  pub ruleset to_codes = (vadd_code, vsub_code, scale_code, F_code, G_code)

  -- what the operations give are vectors of codes
  pub codes_below_lem : (xs : List (Below q)) (k : ℕ) → k < length (codes q xs) → get_or (codes q xs) k 0 < q
  unfolding codes
  codes_below_lem [] k l = absurd (omega arith)
  codes_below_lem (x ∷ xs) zero l = x.1
  codes_below_lem (x ∷ xs) (suc k) l = codes_below_lem xs k (omega arith)

  pub F_codes : (m n : ℕ) (cs x : List ℕ) → Codes q cs → Codes q x → Vector q m (F o m n cs x)
  F_codes m n cs x hc hx =
      let c = lift q cs hc in
      let w = lift q x hx in
      record {
        long = F_length o m n cs x;
        codes = rw (← F_code m n c.0 w.0, c.1, w.1) at (codes_below_lem (F ring m n c.0 w.0));
      }

  pub vadd_codes : (n : ℕ) (x y : List ℕ) → Codes q x → Codes q y → Vector q n (vadd o n x y)
  vadd_codes n x y hx hy =
      let c = lift q x hx in
      let w = lift q y hy in
      record { long = vadd_length o n x y; codes = rw (← vadd_code n c.0 w.0, c.1, w.1) at (codes_below_lem (vadd ring n c.0 w.0)) }

  pub vsub_codes : (n : ℕ) (x y : List ℕ) → Codes q x → Codes q y → Vector q n (vsub o n x y)
  vsub_codes n x y hx hy =
      let c = lift q x hx in
      let w = lift q y hy in
      record { long = vsub_length o n x y; codes = rw (← vsub_code n c.0 w.0, c.1, w.1) at (codes_below_lem (vsub ring n c.0 w.0)) }

  pub scale_codes : (n a : ℕ) (x : List ℕ) → a < q → Codes q x → Vector q n (scale o n a x)
  scale_codes n a x ha hx =
      let c = lift q x hx in
      record { long = scale_length o n a x; codes = rw (← scale_code n (a, ha) c.0, c.1) at (codes_below_lem (scale ring n (a, ha) c.0)) }

  pub G_codes : (m n : ℕ) (cs x y : List ℕ) → Codes q cs → Codes q x → Codes q y → Vector q m (G o m n cs x y)
  G_codes m n cs x y hc hx hy =
      let c = lift q cs hc in
      let w = lift q x hx in
      let z = lift q y hy in
      record { long = G_length o m n cs x y; codes = rw (← G_code m n c.0 w.0 z.0, c.1, w.1, z.1) at (codes_below_lem (G ring m n c.0 w.0 z.0)) }
