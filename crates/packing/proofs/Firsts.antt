-- The first entry that is no code.
use Rattle.std.proofs.Common.{◌≡◌, ℕ, zero, suc, ◌+◌, ◌<◌, ◌≤◌, Bool, true, false, cond, ltb, List, [], ◌∷◌, length, get_or, refl, inl, inr, arith}
use Rattle.std.specs.List.{AllByRecursion}
use Rattle.std.proofs.lemmas.Bool.{ltb-true, ltb-false, lt-ltb, le-ltb, cases_lt}
use Rattle.packing.specs.Packed.{first_not}

pub first_le : (q : ℕ) (xs : List ℕ) → first_not q xs ≤ length xs
first_le q [] = omega arith
first_le q (y ∷ ys) = go (ltb y q) (first_le q ys)
  where
    go : (b : Bool) → first_not q ys ≤ length ys → cond b (suc (first_not q ys)) 0 ≤ suc (length ys)
    go true f = omega arith
    go false f = omega arith

pub first_is : (q : ℕ) (xs : List ℕ) → first_not q xs < length xs → q ≤ get_or xs (first_not q xs) 0
first_is q [] h = elim h [ ]
first_is q (y ∷ ys) h = go (ltb y q) refl (first_is q ys) h
  where
    go : (b : Bool) → ltb y q ≡ b → (first_not q ys < length ys → q ≤ get_or ys (first_not q ys) 0) → cond b (suc (first_not q ys)) 0 < suc (length ys)
        → q ≤ get_or (y ∷ ys) (cond b (suc (first_not q ys)) 0) 0
    go true e f l = f (omega arith)
    go false e f l = ltb-false y q e

pub first_least : (q : ℕ) (xs : List ℕ) (i : ℕ) → i < length xs → q ≤ get_or xs i 0 → first_not q xs ≤ i
first_least q [] i h e = elim h [ ]
first_least q (y ∷ ys) zero h e = rw (le-ltb y q e) (omega arith)
first_least q (y ∷ ys) (suc i) h e = go (ltb y q) (first_least q ys i (omega arith) e)
  where
    go : (b : Bool) → first_not q ys ≤ i → cond b (suc (first_not q ys)) 0 ≤ suc i
    go true f = omega arith
    go false f = omega arith

-- the first i entries are codes
pub first_after : (q : ℕ) (xs : List ℕ) (i : ℕ) → i ≤ length xs → ((k d : ℕ) → 0 ≤ k → k < i → get_or xs k d < q) → i ≤ first_not q xs
first_after q xs i h p =
    elim (cases_lt (first_not q xs) i) [
      | inl lt ↦ absurd (omega (arith, p (first_not q xs) 0 (omega arith) lt, first_is q xs (omega arith)))
      | inr ge ↦ ge
    ]

-- a loop that has passed i entries
module _ (q : ℕ) (xs : List ℕ) {i : ℕ} (p : i ≤ first_not q xs) (h : i < length xs) where
  pub first_here : q ≤ get_or xs i 0 → first_not q xs ≡ i
  first_here g = omega (arith, first_least q xs i h g)

  pub first_past : get_or xs i 0 < q → i + 1 ≤ first_not q xs
  first_past l =
      elim (cases_lt i (first_not q xs)) [
        | inl lt ↦ omega arith
        | inr ge ↦
            let e : first_not q xs ≡ i = omega arith in
            let w : q ≤ get_or xs i 0 = rw e at (first_is q xs (omega arith)) in
            absurd (omega arith)
      ]

past : (b : Bool) (f l : ℕ) → cond b (suc f) 0 ≡ suc l → (b ≡ true) × (f ≡ l)
past true f l h = (refl, omega arith)
past false f l h = absurd (omega arith)

-- none was found: all are codes
pub codes_from : (q : ℕ) (xs : List ℕ) → first_not q xs ≡ length xs → AllByRecursion (λ x. x < q) xs
codes_from q [] h = tt
codes_from q (y ∷ ys) h =
    let w = past (ltb y q) (first_not q ys) (length ys) h in
    (ltb-true y q w.0, codes_from q ys w.1)

pub first_codes : (q : ℕ) (xs : List ℕ) → AllByRecursion (λ x. x < q) xs → first_not q xs ≡ length xs
first_codes q [] a = refl
first_codes q (y ∷ ys) a =
    let e = first_codes q ys a.1 in
    rw (lt-ltb y q a.0, e)
