-- A triangle of terms is the list of the elements that they stand for, row by row.
use Rattle.std.proofs.Common.{◌≡◌, ℕ, zero, suc, ◌+◌, ◌-◌, ◌<◌, ◌≤◌, List, [], ◌∷◌, ◌++◌, map, length, get_or, take, drop, sym, refl, ap, ◌∙◌, subst, ap₂, arith, length-append, length-drop}
use native.Mathlib.Decide.{dec_lt}
use Rattle.std.proofs.lemmas.List.{get_or_append_left, get_or-append-add, get_or-append_right, get_or-drop, get_or-take, length-take-le, take-append-drop, map-append}
use Rattle.field.specs.Codes.{Codes}
use Rattle.field.specs.Coding.{Coding}
use Rattle.algebra.specs.Quad.{row}
use Rattle.algebra.proofs.Sizes.{row_suc, row_zero}

pub row_less : (n : ℕ) → 0 < n → row n n ≡ n + row (n - 1) (n - 1)
row_less zero h = absurd (omega arith)
row_less (suc n) h = let e : suc n - 1 ≡ n = omega arith in row_suc n n ∙ ap (λ (k : ℕ). suc n + row k k) (sym e)

-- the places of a triangle with one row more in front
pub rows_more : (Q : ℕ → ℕ → ℕ → Type 0) (left : ℕ) (front behind : List ℕ) → 0 < left → length front ≡ left
    → ((d : ℕ) → d < length front → Q 0 d (get_or front d 0))
    → ((k d : ℕ) → k + d < left - 1 → Q (suc k) d (get_or behind (row (left - 1) k + d) 0))
    → (k d : ℕ) → k + d < left → Q k d (get_or (front ++ behind) (row left k + d) 0)
rows_more Q zero front behind h e p q k d l = absurd (omega arith)
rows_more Q (suc left) front behind h e p q zero d l =
    let m : d < length front = omega arith in
    let z : row (suc left) 0 + d ≡ d = omega (arith, row_zero (suc left)) in
    subst (λ (j : ℕ). Q 0 d (get_or (front ++ behind) j 0)) (sym z) (subst (Q 0 d) (sym (get_or_append_left front behind 0 d m)) (p d m))
rows_more Q (suc left) front behind h e p q (suc k) d l =
    let z : row (suc left) (suc k) + d ≡ length front + (row left k + d) = omega (arith, row_suc left k) in
    let s : suc left - 1 ≡ left = omega arith in
    subst (λ (j : ℕ). Q (suc k) d (get_or (front ++ behind) j 0)) (sym z)
    (subst (Q (suc k) d) (sym (get_or-append-add front behind (row left k + d) 0))
    (subst (λ (n : ℕ). Q (suc k) d (get_or behind (row n k + d) 0)) s (q k d (omega arith))))

module _ (K : Coding) where
  -- the terms stand for the elements, and are small
  pub record Filled (all ts : List ℕ) : Type 0 where
    pub value : map K.stands ts ≡ all
    pub small : Codes K.limit ts

  abbrev pub Stands : ℕ → ℕ → Type 0
  Stands v t = (K.stands t ≡ v) × (t < K.limit)

  map_is : (ts zs : List ℕ) → length ts ≡ length zs → ((d : ℕ) → d < length zs → K.stands (get_or ts d 0) ≡ get_or zs d 0) → map K.stands ts ≡ zs
  map_is [] [] e h = refl
  map_is [] (z ∷ zs) e h = absurd (omega arith)
  map_is (t ∷ ts) [] e h = absurd (omega arith)
  map_is (t ∷ ts) (z ∷ zs) e h = ap₂ ◌∷◌ (h 0 (omega arith)) (map_is ts zs (omega arith) (λ d l. h (suc d) (omega arith)))

  pub filled_row : (zs ts : List ℕ) → length ts ≡ length zs → ((d : ℕ) → d < length zs → Stands (get_or zs d 0) (get_or ts d 0)) → Filled zs ts
  filled_row zs ts e h = record { value = map_is ts zs e (λ d l. (h d l).0); small = λ d l. (h d (omega arith)).1 }

  pub filled_both : (us vs ts ws : List ℕ) → Filled us ts → Filled vs ws → Filled (us ++ vs) (ts ++ ws)
  filled_both us vs ts ws p q = record {
    value = map-append K.stands ts ws ∙ ap₂ ◌++◌ p.value q.value;
    small = λ k l.
        let n = length-append ts ws in
        elim (dec_lt k (length ts)) [
          | yes h ↦ subst (λ (t : ℕ). t < K.limit) (sym (get_or_append_left ts ws 0 k h)) (p.small k h)
          | no h ↦ (let m : length ts ≤ k = omega arith in subst (λ (t : ℕ). t < K.limit) (sym (get_or-append_right ts ws (length ts) k 0 refl m)) (q.small (k - length ts) (omega arith)))
        ];
  }

  -- `all i` is what stands from row i on, and `line i` is row i
  module _ (n : ℕ) (all line : ℕ → List ℕ) (next : (i : ℕ) → i < n → all i ≡ line i ++ all (i + 1)) (last : all n ≡ []) (wide : (i : ℕ) → i < n → length (line i) ≡ n - i) where
    pub filled_triangle : (i left : ℕ) (ts : List ℕ) → i + left ≡ n → length ts ≡ row left left
        → ((k d : ℕ) → k + d < left → Stands (get_or (line (i + k)) d 0) (get_or ts (row left k + d) 0)) → Filled (all i) ts
    filled_triangle i zero [] e l says =
        let k : n ≡ i = omega arith in
        record { value = sym last ∙ ap all k; small = λ d h. absurd (omega arith) }
    filled_triangle i zero (x ∷ ts) e l says = absurd (omega (arith, row_zero 0))
    filled_triangle i (suc left) ts e l says =
        let w = row_suc left left in
        let m : i < n = omega arith in
        let fits : suc left ≤ length ts = omega arith in
        let long = length-take-le (suc left) ts fits in
        let wd = wide i m in
        let front : Filled (line i) (take (suc left) ts) = filled_row (line i) (take (suc left) ts) (omega arith) (λ d h.
        let in_row : d < suc left = omega arith in
        let z : row (suc left) 0 + d ≡ d = omega (arith, row_zero (suc left)) in
        let y : i + 0 ≡ i = omega arith in
        subst (Stands (get_or (line i) d 0)) (sym (get_or-take (suc left) ts d 0 in_row))
        (subst (λ (j : ℕ). Stands (get_or (line j) d 0) (get_or ts d 0)) y
        (subst (λ (j : ℕ). Stands (get_or (line (i + 0)) d 0) (get_or ts j 0)) z (says 0 d (omega arith))))) in
        let behind : Filled (all (i + 1)) (drop (suc left) ts) = filled_triangle (i + 1) left (drop (suc left) ts) (omega arith) (omega (arith, length-drop (suc left) ts)) (λ k d h.
        let z : row (suc left) (suc k) + d ≡ suc left + (row left k + d) = omega (arith, row_suc left k) in
        let y : i + suc k ≡ i + 1 + k = omega arith in
        subst (Stands (get_or (line (i + 1 + k)) d 0)) (sym (get_or-drop (suc left) ts (row left k + d) 0))
        (subst (λ (j : ℕ). Stands (get_or (line j) d 0) (get_or ts (suc left + (row left k + d)) 0)) y
        (subst (λ (j : ℕ). Stands (get_or (line (i + suc k)) d 0) (get_or ts j 0)) z (says (suc k) d (omega arith))))) in
        subst (Filled (all i)) (take-append-drop (suc left) ts) (subst (λ zs. Filled zs (take (suc left) ts ++ drop (suc left) ts)) (sym (next i m)) (filled_both (line i) (all (i + 1)) (take (suc left) ts) (drop (suc left) ts) front behind))
