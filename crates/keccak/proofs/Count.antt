-- A fold over the numbers below n, by a fact of each number and of the value before its call.
use Rattle.std.proofs.Common.{◌≡◌, ℕ, ◌+◌, ◌<◌, List, [], ◌∷◌, ◌++◌, length, get_or, sym, refl, ◌∙◌, subst, zero-add, arith}
use denote.Param.Members.{Mut, Called}
use Rattle.std.specs.List.{FoldsTo, range_with_len}
use Rattle.std.specs.Iterator.{Drains}
use Rattle.std.proofs.iter.Yields.{nat_range_steps}
use Rattle.std.proofs.lemmas.Fn.{fold_over}
use Rattle.std.proofs.lemmas.Iterator.{YieldsList-from_range}
use Rattle.std.proofs.lemmas.List.FromFn.{get_or-range_with_len, length-range_with_len}
use Rattle.std.proofs.lemmas.List.{get_or_at, get_or_append_left, length_push}

-- J holds of 0 and the first value, and a call at i takes it from i to i + 1
pub fold_count : {F C : Type 0} (g : Mut F (C × (ℕ × Unit {0})) C) (J : ℕ → C → Type 0) (f : F) →
    ((i : ℕ) (s r : C) (f' : F) → Called g f (s, (i, tt)) r f' → f' ≡ f) →
    ((i : ℕ) (s r : C) (f' : F) → J i s → Called g f (s, (i, tt)) r f' → J (i + 1) r) →
    (n : ℕ) (a r : C) → J 0 a →
    (xs : List ℕ) × (f' : F) × Drains nat_range_steps (record { start = 0; end = n }) xs × FoldsTo {P = F × C} (λ p x q. Called g p.0 (p.1, (x, tt)) q.1 q.0) (f, a) xs (f', r) → J n r
fold_count {F} {C} g J f same step n a r none ran =
    let K : List ℕ → C → Type 0 = λ is s. ((k : ℕ) → k < length is → get_or is k 0 ≡ k) → J (length is) s in
    let made : K (range_with_len 0 n) r =
    fold_over nat_range_steps (λ i. i) g K f
    (λ is s i t f' done call. (
      λ counted.
          let long : length (is ++ (i ∷ [])) ≡ length is + 1 = length_push is i in
          let e : i ≡ length is = sym (get_or_at is i [] 0 (length is) refl) ∙ counted (length is) (omega arith) in
          let before : J (length is) s = done (λ k h. sym (get_or_append_left is (i ∷ []) 0 k h) ∙ counted k (omega arith)) in
          subst (λ (k : ℕ). J k t) (sym long) (step (length is) s t f' before (subst (λ (k : ℕ). Called g f (s, (k, tt)) t f') e call)),
      same i s t f' call,
    ))
    (record { start = 0; end = n }) (range_with_len 0 n) a r (YieldsList-from_range 0 n n refl (omega arith)).runs (λ counted. none) ran in
    subst (λ (k : ℕ). J k r) (length-range_with_len 0 n) (made (λ k h. get_or-range_with_len 0 n k 0 (omega (arith, length-range_with_len 0 n)) ∙ zero-add k))
