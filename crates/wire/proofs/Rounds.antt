-- One turn of the loops over the rounds.
use Rattle.std.proofs.Common.{◌≡◌, ℕ, suc, ◌+◌, ◌-◌, ◌<◌, ◌≤◌, List, ◌∷◌, ◌++◌, replicate, Ok, Err, sym, ap, ap₂, ◌∙◌, arith}
use Rattle.refusal.specs.declared.Refusal.{Refusal}
use Rattle.packing.specs.Packed.{width}
use Rattle.params.specs.declared.Set.{Set}
use Rattle.wire.specs.Layout.{t1_at, e1_at, response_at, vector_check_at, scan_from, firsts, scanned}

-- what is left of a count
count_step : (r i : ℕ) → i < r → r - i ≡ suc (r - (i + 1))
count_step r i h = omega arith

pub firsts_step : (n m r i : ℕ) → i < r → firsts n m (r - i) ≡ n ∷ (m ∷ firsts n m (r - (i + 1)))
firsts_step n m r i h = ap (firsts n m) (count_step r i h)

pub responses_step : (n r i : ℕ) → i < r → replicate (r - i) n ≡ n ∷ replicate (r - (i + 1)) n
responses_step n r i h = ap (λ (k : ℕ). replicate k n) (count_step r i h)

module _ (q b : ℕ) (sig : List ℕ) where
  pub scan_on : (at k : ℕ) (ks : List ℕ) → vector_check_at q b sig at k ≡ Ok tt → scan_from q b sig at (k ∷ ks) ≡ scan_from q b sig (at + width b k) ks
  scan_on at k ks e = rw e

  pub scan_stop : (at k : ℕ) (ks : List ℕ) (x : Refusal) → vector_check_at q b sig at k ≡ Err x → scan_from q b sig at (k ∷ ks) ≡ Err x
  scan_stop at k ks x e = rw e

-- i rounds of t1 and e1 are passed, and what is left decides
pub record Firsts (q b : ℕ) (s : Set) (sig : List ℕ) (i : ℕ) : Type 0 where
  pub left : scan_from q b sig (t1_at b s i) (firsts s.n s.m (s.r - i) ++ replicate s.r s.n) ≡ scanned q b s sig

-- all of them, and j responses
pub record Responses (q b : ℕ) (s : Set) (sig : List ℕ) (j : ℕ) : Type 0 where
  pub left : scan_from q b sig (response_at b s j) (replicate (s.r - j) s.n) ≡ scanned q b s sig

module _ {q b : ℕ} {s : Set} {sig : List ℕ} {i : ℕ} (p : Firsts q b s sig i) (h : i < s.r) where
  abbrev rest : List ℕ
  rest = firsts s.n s.m (s.r - (i + 1)) ++ replicate s.r s.n

  here : scan_from q b sig (t1_at b s i) (s.n ∷ (s.m ∷ rest)) ≡ scanned q b s sig
  here = ap (λ (l : List ℕ). scan_from q b sig (t1_at b s i) (l ++ replicate s.r s.n)) (sym (firsts_step s.n s.m s.r i h)) ∙ p.left

  pub t1_stop : (x : Refusal) → vector_check_at q b sig (t1_at b s i) s.n ≡ Err x → Err x ≡ scanned q b s sig
  t1_stop x e = sym (scan_stop q b sig (t1_at b s i) s.n (s.m ∷ rest) x e) ∙ here

  module _ (e : vector_check_at q b sig (t1_at b s i) s.n ≡ Ok tt) where
    passed : scan_from q b sig (e1_at b s i) (s.m ∷ rest) ≡ scanned q b s sig
    passed = sym (scan_on q b sig (t1_at b s i) s.n (s.m ∷ rest) e) ∙ here

    pub e1_stop : (x : Refusal) → vector_check_at q b sig (e1_at b s i) s.m ≡ Err x → Err x ≡ scanned q b s sig
    e1_stop x f = sym (scan_stop q b sig (e1_at b s i) s.m rest x f) ∙ passed

    next : e1_at b s i + width b s.m ≡ t1_at b s (i + 1)
    next = omega arith

    pub first_on : vector_check_at q b sig (e1_at b s i) s.m ≡ Ok tt → Firsts q b s sig (i + 1)
    first_on f = record { left = ap (λ (k : ℕ). scan_from q b sig k rest) (sym next) ∙ sym (scan_on q b sig (e1_at b s i) s.m rest f) ∙ passed }

-- before the first round, between the loops, and at the end
pub firsts_none : (q b : ℕ) (s : Set) (sig : List ℕ) → Firsts q b s sig 0
firsts_none q b s sig =
    let z : s.r - 0 ≡ s.r = omega arith in
    let y : t1_at b s 0 ≡ 64 = omega arith in
    record { left = ap₂ (λ (o k : ℕ). scan_from q b sig o (firsts s.n s.m k ++ replicate s.r s.n)) y z }

pub responses_none : {q b : ℕ} {s : Set} {sig : List ℕ} {i : ℕ} → Firsts q b s sig i → i ≤ s.r → s.r ≤ i → Responses q b s sig 0
responses_none {q} {b} {s} {sig} {i} p l h =
    let e : i ≡ s.r = omega arith in
    let z : s.r - i ≡ 0 = omega arith in
    let y : s.r - 0 ≡ s.r = omega arith in
    let at : response_at b s 0 ≡ t1_at b s i = rw e (omega arith) in
    record { left = ap₂ (λ (o k : ℕ). scan_from q b sig o (replicate k s.n)) at y ∙ ap (λ (k : ℕ). scan_from q b sig (t1_at b s i) (firsts s.n s.m k ++ replicate s.r s.n)) (sym z) ∙ p.left }

module _ {q b : ℕ} {s : Set} {sig : List ℕ} {j : ℕ} (p : Responses q b s sig j) where
  here_too : j < s.r → scan_from q b sig (response_at b s j) (s.n ∷ replicate (s.r - (j + 1)) s.n) ≡ scanned q b s sig
  here_too h = ap (scan_from q b sig (response_at b s j)) (sym (responses_step s.n s.r j h)) ∙ p.left

  pub response_stop : j < s.r → (x : Refusal) → vector_check_at q b sig (response_at b s j) s.n ≡ Err x → Err x ≡ scanned q b s sig
  response_stop h x e = sym (scan_stop q b sig (response_at b s j) s.n (replicate (s.r - (j + 1)) s.n) x e) ∙ here_too h

  behind : response_at b s j + width b s.n ≡ response_at b s (j + 1)
  behind = omega arith

  pub response_on : j < s.r → vector_check_at q b sig (response_at b s j) s.n ≡ Ok tt → Responses q b s sig (j + 1)
  response_on h e = record {
    left =
        ap (λ (k : ℕ). scan_from q b sig k (replicate (s.r - (j + 1)) s.n)) (sym behind)
        ∙ sym (scan_on q b sig (response_at b s j) s.n (replicate (s.r - (j + 1)) s.n) e)
        ∙ here_too h;
  }

  pub all_passed : s.r ≤ j → Ok tt ≡ scanned q b s sig
  all_passed h =
      let z : s.r - j ≡ 0 = omega arith in
      ap (λ (k : ℕ). scan_from q b sig (response_at b s j) (replicate k s.n)) (sym z) ∙ p.left
