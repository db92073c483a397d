-- How large products of codes get, and the sum of an equation.
use Rattle.std.proofs.Common.{◌≡◌, ℕ, zero, suc, ◌+◌, ◌*◌, ◌<◌, ◌≤◌, List, [], ◌∷◌, ◌++◌, map, length, get_or, drop, sym, refl, ap, ◌∙◌, suc-le-suc, zero-le, add_assoc, zero-add, mul-add, arith, length-drop}
use Rattle.std.proofs.lemmas.Nat.{mul-le}
use Rattle.std.proofs.lemmas.List.{get_or-drop}
use Rattle.field.specs.Codes.{Codes}
use Rattle.field.specs.Terms.{pairs}
use Rattle.field.proofs.Pairs.{length_pairs}
use Rattle.gf31.specs.Whole.{whole, AtMonomials}

pub pair_few : (a b : ℕ) → a < 31 → b < 31 → a * b ≤ 900
pair_few a b h k = mul-le a b 30 30 (omega arith) (omega arith)

-- of a code and a term at the same place
pub product_few : (a b : List ℕ) (i x y : ℕ) → i < length a → i < length b → x ≡ get_or a i 0 → y ≡ get_or b i 0 → Codes 31 a → Codes 1801 b → x * y ≤ 54000
product_few a b i x y h k e f p q = mul-le x y 30 1800 (omega (arith, p i h)) (omega (arith, q i k))

-- a sum of products whose second factors are at most b
bounded : (b : ℕ) (cs ys : List ℕ) → Codes 31 cs → Codes (b + 1) ys → whole cs ys ≤ 30 * b * length ys
bounded b [] ys e f = omega arith
bounded b (c ∷ cs) [] e f = omega arith
bounded b (c ∷ cs) (y ∷ ys) e f =
    let u : c ≤ 30 = omega (arith, e zero (suc-le-suc zero-le)) in
    let v : y ≤ b = omega (arith, f zero (suc-le-suc zero-le)) in
    let s : suc (length ys) ≡ length ys + 1 = omega arith in
    omega (arith, mul-le c y 30 b u v, bounded b cs ys (λ k h. e (suc k) (suc-le-suc h)) (λ k h. f (suc k) (suc-le-suc h)), mul-add (30 * b) (length ys) 1, ap (λ (n : ℕ). 30 * b * n) s)

whole_nil : (cs : List ℕ) → whole cs [] ≡ 0
whole_nil [] = refl
whole_nil (c ∷ cs) = refl

whole_append : (cs us vs : List ℕ) → whole cs (us ++ vs) ≡ whole cs us + whole (drop (length us) cs) vs
whole_append cs [] vs = sym (ap (λ (n : ℕ). n + whole cs vs) (whole_nil cs) ∙ zero-add (whole cs vs))
whole_append [] (u ∷ us) vs = refl
whole_append (c ∷ cs) (u ∷ us) vs = ap (λ (n : ℕ). c * u + n) (whole_append cs us vs) ∙ sym (add_assoc (c * u) (whole cs us) (whole (drop (length us) cs) vs))

codes_drop : (q : ℕ) (xs : List ℕ) (i : ℕ) → Codes q xs → Codes q (drop i xs)
codes_drop q xs i h k l = rw (get_or-drop i xs k 0) (h (i + k) (omega (arith, length-drop i xs)))

-- products of two codes
codes_append : (q : ℕ) (us vs : List ℕ) → Codes q us → Codes q vs → Codes q (us ++ vs)
codes_append q [] vs e f k l = f k l
codes_append q (u ∷ us) vs e f zero l = e zero (suc-le-suc zero-le)
codes_append q (u ∷ us) vs e f (suc k) l = codes_append q us vs (λ j h. e (suc j) (suc-le-suc h)) f k (omega arith)

row_small : (a : ℕ) (xs : List ℕ) → a < 31 → Codes 31 xs → Codes 901 (map (λ y. a * y) xs)
row_small a [] h e k l = absurd (omega arith)
row_small a (x ∷ xs) h e zero l = omega (arith, pair_few a x h (e zero (suc-le-suc zero-le)))
row_small a (x ∷ xs) h e (suc k) l = row_small a xs h (λ j w. e (suc j) (suc-le-suc w)) k (omega arith)

pairs_small : (xs : List ℕ) → Codes 31 xs → Codes 901 (pairs ◌*◌ xs)
pairs_small [] e = λ k l. absurd (omega arith)
pairs_small (x ∷ xs) e =
    codes_append 901 (map (λ y. x * y) (x ∷ xs)) (pairs ◌*◌ xs) (row_small x (x ∷ xs) (e zero (suc-le-suc zero-le)) e) (pairs_small xs (λ j h. e (suc j) (suc-le-suc h)))

pub at_monomials : (cs ts : List ℕ) (r : ℕ) → r ≡ whole cs ts → Codes 31 cs → AtMonomials ts r
at_monomials cs ts r e hc x hx short is =
    let ps : List ℕ = pairs ◌*◌ x in
    let few : length x + 1 ≤ 65 = omega arith in
    omega (
      arith,
      e ∙ ap (whole cs) is ∙ whole_append cs ps x,
      bounded 900 cs ps hc (pairs_small x hx),
      bounded 30 (drop (length ps) cs) x (codes_drop 31 cs (length ps) hc) hx,
      length_pairs ◌*◌ x,
      mul-le (length x) (length x + 1) 64 65 short few,
    )
