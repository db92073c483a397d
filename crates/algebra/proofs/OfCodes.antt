-- The laws over the codes of a field, brought down from the ring of the codes.
use Rattle.std.proofs.Common.{◌≡◌, ℕ, suc, ◌<◌, List, [], ◌∷◌, map, length, get_or, sym, refl, ap, ◌∙◌, ap₂, arith}
use Rattle.field.specs.Ring.{Ops, sub}
use Rattle.field.specs.Codes.{Field, Codes, Vector}
use Rattle.algebra.specs.Quad.{vadd, vsub, scale, F, G}
use Rattle.algebra.specs.Laws.{Linear, Completes, Extracts, codes_below}
use Rattle.algebra.proofs.Group.{close, diff}
use Rattle.algebra.proofs.Vectors.{G_add, G_scale, reopen, complete, extract}
use Rattle.algebra.proofs.Below.{Below, codes, codes_length, lift, same_code, ring, ring_laws, to_codes, F_codes}

module _ {q : ℕ} {o : Ops ℕ} {inv : ℕ → ℕ} (K : Field q o inv) where
  abbrev R : Ops (Below q)
  R = ring K

  -- G is linear
  sums_elems : (m n : ℕ) (cs x z y : List (Below q))
      → G o m n (codes q cs) (vadd o n (codes q x) (codes q z)) (codes q y) ≡ vadd o m (G o m n (codes q cs) (codes q x) (codes q y)) (G o m n (codes q cs) (codes q z) (codes q y))
  sums_elems m n cs x z y = simp (to_codes, K) (ap (codes q) (G_add (ring_laws K) m n cs x z y))

  multiples_elems : (m n : ℕ) (cs : List (Below q)) (a : Below q) (x y : List (Below q))
      → G o m n (codes q cs) (scale o n a.0 (codes q x)) (codes q y) ≡ scale o m a.0 (G o m n (codes q cs) (codes q x) (codes q y))
  multiples_elems m n cs a x y = simp (to_codes, K) (ap (codes q) (G_scale (ring_laws K) m n cs a x y))

  pub codes_linear : Linear o (codes_below q)
  codes_linear = record {
    sums = λ m n cs x z y hc hx hz hy.
        let c = lift q cs hc.codes in
        let x' = lift q x hx.codes in
        let z' = lift q z hz.codes in
        let y' = lift q y hy.codes in
        rw (c.1, x'.1, z'.1, y'.1) at (sums_elems m n c.0 x'.0 z'.0 y'.0);
    multiples = λ m n cs a x y hc ha hx hy.
        let c = lift q cs hc.codes in
        let x' = lift q x hx.codes in
        let y' = lift q y hy.codes in
        rw (c.1, x'.1, y'.1) at (multiples_elems m n c.0 (a, ha) x'.0 y'.0);
  }

  -- an honest round completes
  reopen_elems : (j : ℕ) (a : Below q) (x y : List (Below q)) → length y ≡ j
      → vsub o j (scale o j a.0 (codes q x)) (vsub o j (scale o j a.0 (codes q x)) (codes q y)) ≡ codes q y
  reopen_elems j a x y h = simp (to_codes, K) (ap (codes q) (reopen (ring_laws K) j a x y h))

  pub reopen_codes : (j a : ℕ) (x y : List ℕ) → a < q → Codes q x → Vector q j y → vsub o j (scale o j a x) (vsub o j (scale o j a x) y) ≡ y
  reopen_codes j a x y ha hx hy =
      let x' = lift q x hx in
      let y' = lift q y hy.codes in
      rw (x'.1, y'.1) at (reopen_elems j (a, ha) x'.0 y'.0 (sym (codes_length q y'.0) ∙ ap length y'.1 ∙ hy.long))

  complete_elems : (m n : ℕ) (cs : List (Below q)) (α : Below q) (s r0 t0 e0 : List (Below q))
      → vsub o m (vsub o m (scale o m α.0 (vsub o m (F o m n (codes q cs) (codes q s)) (F o m n (codes q cs) (vsub o n (codes q s) (codes q r0))))) (G o m n (codes q cs) (vsub o n (scale o n α.0 (codes q r0)) (codes q t0)) (vsub o n (codes q s) (codes q r0)))) (vsub o m (scale o m α.0 (F o m n (codes q cs) (codes q r0))) (codes q e0))
      ≡ vadd o m (G o m n (codes q cs) (codes q t0) (vsub o n (codes q s) (codes q r0))) (codes q e0)
  complete_elems m n cs α s r0 t0 e0 = simp (to_codes, K) (ap (codes q) (complete (ring_laws K) m n cs α s r0 t0 e0))

  pub codes_complete : Completes o (codes_below q)
  codes_complete m n cs α s r0 t0 e0 hc ha hs hr ht he =
      let c = lift q cs hc.codes in
      let s' = lift q s hs.codes in
      let r = lift q r0 hr.codes in
      let t = lift q t0 ht.codes in
      let e = lift q e0 he.codes in
      record {
        first = reopen_codes n α r0 t0 ha hr.codes ht;
        value = reopen_codes m α (F o m n cs r0) e0 ha (F_codes K m n cs r0 hc.codes hr.codes).codes he;
        second = rw (c.1, s'.1, r.1, t.1, e.1) at (complete_elems m n c.0 (α, ha) s'.0 r.0 t.0 e.0);
      }

  -- openings that agree give a preimage; codes are one for one, and codes that differ have a difference with an inverse
  codes_inj : (xs ys : List (Below q)) → codes q xs ≡ codes q ys → xs ≡ ys
  unfolding codes
  codes_inj [] [] e = refl
  codes_inj [] (y ∷ ys) e = let z : ◌≡◌ {A = ℕ} 0 (suc (length (map {B = ℕ} (λ y. y.0) ys))) = ap length e in absurd (omega arith)
  codes_inj (x ∷ xs) [] e = let z : ◌≡◌ {A = ℕ} (suc (length (map {B = ℕ} (λ y. y.0) xs))) 0 = ap length e in absurd (omega arith)
  codes_inj (x ∷ xs) (y ∷ ys) e = ap₂ ◌∷◌ (same_code (ap (λ l. get_or l 0 0) e)) (codes_inj xs ys (ap tail e))
    where
      tail : List ℕ → List ℕ
      tail [] = []
      tail (z ∷ zs) = zs

  invertible : (a b : Below q) → (a.0 ≡ b.0 → ⊥) → (u : Below q) × (R.mul u (sub R a b) ≡ R.one)
  unfolding diff
  invertible a b ne =
      let d : Below q = sub R a b in
      ((inv d.0, K.inv_ok d.0 d.1), same_code (K.mul_inv d.0 d.1 (λ z. ne (ap (λ (x : Below q). x.0) (close (ring_laws K) {a = a} {b = b} (same_code z))))))

  extract_elems : (m n : ℕ) (cs : List (Below q)) (a b : Below q) (v r0 r1 t t' e e' : List (Below q)) → length v ≡ m → (a.0 ≡ b.0 → ⊥)
      → vsub o n (scale o n a.0 (codes q r0)) (codes q t) ≡ vsub o n (scale o n b.0 (codes q r0)) (codes q t')
      → vsub o m (scale o m a.0 (F o m n (codes q cs) (codes q r0))) (codes q e) ≡ vsub o m (scale o m b.0 (F o m n (codes q cs) (codes q r0))) (codes q e')
      → vsub o m (vsub o m (scale o m a.0 (vsub o m (codes q v) (F o m n (codes q cs) (codes q r1)))) (G o m n (codes q cs) (codes q t) (codes q r1))) (codes q e)
      ≡ vsub o m (vsub o m (scale o m b.0 (vsub o m (codes q v) (F o m n (codes q cs) (codes q r1)))) (G o m n (codes q cs) (codes q t') (codes q r1))) (codes q e')
      → F o m n (codes q cs) (vadd o n (codes q r0) (codes q r1)) ≡ codes q v
  extract_elems m n cs a b v r0 r1 t t' e e' lv ne ht he hv =
      let i = invertible a b ne in
      simp (to_codes, K) (ap (codes q) (extract (ring_laws K) m n cs a b i.0 v r0 r1 t t' e e' lv i.1
      (codes_inj _ _ (simp (to_codes, K) at ht)) (codes_inj _ _ (simp (to_codes, K) at he)) (codes_inj _ _ (simp (to_codes, K) at hv))))

  pub codes_extract : Extracts o (codes_below q)
  codes_extract m n cs α β v r0 r1 t e t' e' hc ha hb ne hv h0 h1 ht he ht' he' g =
      let c = lift q cs hc.codes in
      let w = lift q v hv.codes in
      let r = lift q r0 h0.codes in
      let p = lift q r1 h1.codes in
      let x = lift q t ht.codes in
      let x' = lift q t' ht'.codes in
      let y = lift q e he.codes in
      let y' = lift q e' he'.codes in
      let all = rw (c.1, w.1, r.1, p.1, x.1, x'.1, y.1, y'.1) at (extract_elems m n c.0 (α, ha) (β, hb) w.0 r.0 p.0 x.0 x'.0 y.0 y'.0 (sym (codes_length q w.0) ∙ ap length w.1 ∙ hv.long) ne) in
      all g.first g.value g.second
