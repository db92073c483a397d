-- The vectors that lie one behind the other are t1, e1 and the response of each round.
use Rattle.std.proofs.Common.{◌≡◌, ℕ, zero, suc, ◌+◌, ◌*◌, ◌<◌, ◌≤◌, ◌⊎◌, List, ◌++◌, length, replicate, Ok, refl, subst, inl, inr, arith}
use Rattle.std.specs.List.{AllByRecursion}
use Rattle.std.proofs.lemmas.Bool.{eq-eqb}
use Rattle.packing.specs.Packed.{width}
use Rattle.packing.specs.Laws.{Judges}
use Rattle.params.specs.declared.Set.{Set}
use Rattle.params.specs.Sets.{set_of}
use Rattle.params.specs.Sizes.{signature_length}
use Rattle.wire.specs.Layout.{t1_at, e1_at, response_at, WrongAt, Faulty, firsts, vectors, scanned, vectors_of}
use Rattle.wire.proofs.Judged.{Among, In, judges_same, judged_scan}

module _ (b n m : ℕ) where
  abbrev wn : ℕ
  wn = width b n

  abbrev wm : ℕ
  wm = width b m

  abbrev both : ℕ
  both = wn + wm

  -- to the place of each
  here : (at at' : ℕ) (ks : List ℕ) (o k : ℕ) → at ≡ at' → Among b at ks o k → Among b at' ks o k
  here at at' ks o k e a = subst (λ (x : ℕ). Among b x ks o k) e a

  t1_among : (r i at : ℕ) (ks : List ℕ) → i < r → Among b at (firsts n m r ++ ks) (at + i * both) n
  t1_among zero i at ks h = absurd (omega arith)
  t1_among (suc r) zero at ks h = inl (omega arith, refl)
  t1_among (suc r) (suc i) at ks h =
      inr (inr (subst (λ (x : ℕ). Among b (at + wn + wm) (firsts n m r ++ ks) x n) (omega arith) (t1_among r i (at + wn + wm) ks (omega arith))))

  e1_among : (r i at : ℕ) (ks : List ℕ) → i < r → Among b at (firsts n m r ++ ks) (at + i * both + wn) m
  e1_among zero i at ks h = absurd (omega arith)
  e1_among (suc r) zero at ks h = inr (inl (omega arith, refl))
  e1_among (suc r) (suc i) at ks h =
      inr (inr (subst (λ (x : ℕ). Among b (at + wn + wm) (firsts n m r ++ ks) x m) (omega arith) (e1_among r i (at + wn + wm) ks (omega arith))))

  behind : (r at : ℕ) (ks : List ℕ) (o k : ℕ) → Among b (at + r * both) ks o k → Among b at (firsts n m r ++ ks) o k
  behind zero at ks o k a = here (at + 0 * both) at ks o k (omega arith) a
  behind (suc r) at ks o k a = inr (inr (behind r (at + wn + wm) ks o k (here (at + suc r * both) (at + wn + wm + r * both) ks o k (omega arith) a)))

  response_among : (r j at : ℕ) → j < r → Among b at (replicate r n) (at + j * wn) n
  response_among zero j at h = absurd (omega arith)
  response_among (suc r) zero at h = inl (omega arith, refl)
  response_among (suc r) (suc j) at h =
      inr (subst (λ (x : ℕ). Among b (at + wn) (replicate r n) x n) (omega arith) (response_among r j (at + wn) (omega arith)))

  -- and from it
  First : ℕ → ℕ → ℕ → ℕ → Type 0
  First r at o k = (i : ℕ) × ((i < r) × (((o ≡ at + i * both) × (k ≡ n)) ⊎ ((o ≡ at + i * both + wn) × (k ≡ m))))

  first_later : (r at o k : ℕ) → First r (at + wn + wm) o k → First (suc r) at o k
  unfolding First
  first_later r at o k f =
      (suc f.0, (omega (arith, f.1.0), elim f.1.1 [ inl e ↦ inl (omega (arith, e.0), e.1) | inr e ↦ inr (omega (arith, e.0), e.1) ]))

  of_firsts : (r at : ℕ) (ks : List ℕ) (o k : ℕ) → Among b at (firsts n m r ++ ks) o k → First r at o k ⊎ Among b (at + r * both) ks o k
  unfolding First
  of_firsts zero at ks o k a = inr (here at (at + 0 * both) ks o k (omega arith) a)
  of_firsts (suc r) at ks o k (inl e) = inl (0, (omega arith, inl (omega (arith, e.0), e.1)))
  of_firsts (suc r) at ks o k (inr (inl e)) = inl (0, (omega arith, inr (omega (arith, e.0), e.1)))
  of_firsts (suc r) at ks o k (inr (inr a)) =
      elim (of_firsts r (at + wn + wm) ks o k a) [
        | inl f ↦ inl (first_later r at o k f)
        | inr g ↦ inr (here (at + wn + wm + r * both) (at + suc r * both) ks o k (omega arith) g)
      ]

  Later : ℕ → ℕ → ℕ → ℕ → Type 0
  Later r at o k = (j : ℕ) × ((j < r) × ((o ≡ at + j * wn) × (k ≡ n)))

  of_responses : (r at o k : ℕ) → Among b at (replicate r n) o k → Later r at o k
  unfolding Later
  of_responses zero at o k a = absurd a
  of_responses (suc r) at o k (inl e) = (0, (omega arith, (omega (arith, e.0), e.1)))
  of_responses (suc r) at o k (inr a) =
      let f = of_responses r (at + wn) o k a in
      (suc f.0, (omega (arith, f.1.0), (omega (arith, f.1.1.0), f.1.1.1)))

module _ (q b : ℕ) (s : Set) (sig : List ℕ) (some : 1 ≤ b) where
  moved : (o o' k k' n p : ℕ) → o ≡ o' → k ≡ k' → WrongAt q b sig o k n p → WrongAt q b sig o' k' n p
  moved o o' k k' n p e f w = subst (λ (x : ℕ). WrongAt q b sig x k' n p) e (subst (λ (x : ℕ). WrongAt q b sig o x n p) f w)

  to_list : (n p : ℕ) → Faulty q b s sig n p → In q b sig some 64 (vectors s) n p
  to_list n p f =
      let i : ℕ = f.0 in
      elim f.2 [
        | inl w ↦ (t1_at b s i, (s.n, (t1_among b s.n s.m s.r i 64 (replicate s.r s.n) f.1, w)))
        | inr (inl w) ↦ (e1_at b s i, (s.m, (e1_among b s.n s.m s.r i 64 (replicate s.r s.n) f.1, w)))
        | inr (inr w) ↦ (response_at b s i, (s.n, (behind b s.n s.m s.r 64 (replicate s.r s.n) (response_at b s i) s.n (response_among b s.n s.m s.r i (64 + s.r * (width b s.n + width b s.m)) f.1), w)))
      ]

  from_list : (n p : ℕ) → In q b sig some 64 (vectors s) n p → Faulty q b s sig n p
  unfolding First Later
  from_list n p w =
      let o : ℕ = w.0 in
      let k : ℕ = w.1.0 in
      let u : WrongAt q b sig o k n p = w.1.1.1 in
      elim (of_firsts b s.n s.m s.r 64 (replicate s.r s.n) o k w.1.1.0) [
        | inl f ↦ elim f.1.1 [
          | inl e ↦ (f.0, f.1.0, inl (moved o (t1_at b s f.0) k s.n n p e.0 e.1 u))
          | inr e ↦ (f.0, f.1.0, inr (inl (moved o (e1_at b s f.0) k s.m n p e.0 e.1 u)))
        ]
        | inr a ↦
            let g = of_responses b s.n s.m s.r (64 + s.r * (width b s.n + width b s.m)) o k a in
            (g.0, g.1.0, inr (inr (moved o (response_at b s g.0) k s.n n p g.1.1.0 g.1.1.1 u)))
      ]

  -- each vector has some element
  all_firsts : (n m r : ℕ) (ks : List ℕ) → 1 ≤ n → 1 ≤ m → AllByRecursion (λ k. 1 ≤ k) ks → AllByRecursion (λ k. 1 ≤ k) (firsts n m r ++ ks)
  all_firsts n m zero ks h l a = a
  all_firsts n m (suc r) ks h l a = (h, (l, all_firsts n m r ks h l a))

  all_same : (r n : ℕ) → 1 ≤ n → AllByRecursion (λ k. 1 ≤ k) (replicate r n)
  all_same zero n h = tt
  all_same (suc r) n h = (h, all_same r n h)

  pub judged_whole : 1 ≤ s.n → 1 ≤ s.m → Judges (Faulty q b s sig) (scanned q b s sig)
  judged_whole h l =
      judges_same (scanned q b s sig) from_list to_list
      (judged_scan q b sig some 64 (vectors s) (all_firsts s.n s.m s.r (replicate s.r s.n) h l (all_same s.r s.n h)))

  -- where set and length are right, the vectors decide
  pub vectors_decide : set_of s ≡ Ok tt → length sig ≡ signature_length b s → vectors_of q b s sig ≡ scanned q b s sig
  vectors_decide g l = rw (g, eq-eqb (length sig) (signature_length b s) l)
