-- Digits and the number that they write give each other back.
use Rattle.std.proofs.Common.{◌≡◌, ℕ, zero, suc, ◌+◌, ◌-◌, ◌*◌, ◌/◌, ◌%◌, ◌^◌, ◌<◌, ◌≤◌, List, [], ◌∷◌, length, get_or, sym, refl, ap, ◌∙◌, mod-lt, mod-eq_of_lt, mul-le-mul_left, div-one, sub-one, arith}
use native.Mathlib.Nat.{pow-zero, pow-succ', add-mul-mod_self_left, add-mul-div_left, div-eq_of_lt, div-div-eq-div-mul}
use Rattle.std.specs.List.{AllByRecursion}
use Rattle.std.proofs.lemmas.Nat.{div-add-mod', div_below}
use Rattle.packing.specs.Numeral.{amount, digits}

pub length_digits : (b n N : ℕ) → length (digits b n N) ≡ n
length_digits b zero N = refl
length_digits b (suc n) N = ap suc (length_digits b n (N / b))

pub digits_step : (b n N : ℕ) → 0 < n → digits b n N ≡ N % b ∷ digits b (n - 1) (N / b)
digits_step b zero N h = elim h [ ]
digits_step b (suc n) N h = ap (λ (m : ℕ). N % b ∷ digits b m (N / b)) (sym (sub-one (suc n)))

pub all_digits : (b n N : ℕ) → 0 < b → AllByRecursion (λ d. d < b) (digits b n N)
all_digits b zero N h = tt
all_digits b (suc n) N h = (mod-lt N h, all_digits b n (N / b) h)

-- one digit
pub get_or_digits : (b n N i : ℕ) → i < n → get_or (digits b n N) i 0 ≡ N / b ^ i % b
get_or_digits b zero N i h = elim h [ ]
get_or_digits b (suc n) N zero h = ap (λ (m : ℕ). m % b) (sym (div-one N) ∙ ap (λ (m : ℕ). N / m) (sym (pow-zero b)))
get_or_digits b (suc n) N (suc i) h =
    get_or_digits b n (N / b) i (omega arith)
    ∙ ap (λ (m : ℕ). m % b) (div-div-eq-div-mul N b (b ^ i) ∙ ap (λ (m : ℕ). N / m) (sym (pow-succ' b i)))

-- a lowest digit, and what is above it
low_digit : (b d r : ℕ) → d < b → (d + b * r) % b ≡ d
low_digit b d r h = add-mul-mod_self_left d b r ∙ mod-eq_of_lt h

pub rest_digits : (b d r : ℕ) → d < b → (d + b * r) / b ≡ r
rest_digits b d r h =
    let p : 0 < b = omega arith in
    let z : d / b ≡ 0 = div-eq_of_lt h in
    add-mul-div_left d r p ∙ omega arith

pub digits_amount : (b : ℕ) (ds : List ℕ) → AllByRecursion (λ d. d < b) ds → digits b (length ds) (amount b ds) ≡ ds
digits_amount b [] a = refl
digits_amount b (d ∷ ds) a =
    let m = low_digit b d (amount b ds) a.0 in
    let q = rest_digits b d (amount b ds) a.0 in
    let e = digits_amount b ds a.1 in
    rw (m, q, e)

pub amount_lt : (b : ℕ) (ds : List ℕ) → AllByRecursion (λ d. d < b) ds → amount b ds < b ^ length ds
amount_lt b [] a = omega (arith, pow-zero b)
amount_lt b (d ∷ ds) a =
    let e = amount_lt b ds a.1 in
    let p = pow-succ' b (length ds) in
    let m : b * (amount b ds + 1) ≤ b * b ^ length ds = search (arith, mul-le-mul_left) in
    let h : d < b = a.0 in
    omega arith

pub amount_digits : (b n N : ℕ) → 0 < b → N < b ^ n → amount b (digits b n N) ≡ N
amount_digits b zero N p h = omega (arith, pow-zero b)
amount_digits b (suc n) N p h =
    let w = pow-succ' b n in
    let below : N / b < b ^ n = div_below N b (b ^ n) p (omega arith) in
    let e = amount_digits b n (N / b) p below in
    let s = div-add-mod' N b in
    rw e (omega arith)
