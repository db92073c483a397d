-- The bytes and lanes of an input in three parts l, h and t with a filling f, by their places.
use Rattle.std.proofs.Common.{◌≡◌, ℕ, zero, suc, ◌+◌, ◌-◌, ◌*◌, ◌%◌, ◌<◌, ◌≤◌, List, [], ◌∷◌, ◌++◌, length, get_or, drop, replicate, sym, refl, ap, ◌∙◌, ⊎_elim, add-zero, arith, length-append}
use lib.ListN.{length-replicate}
use Rattle.std.proofs.lemmas.List.{get_or_append_left, get_or-append_right, append-nil, drop-drop, drop_at, drop-append-le}
use Rattle.std.proofs.lemmas.Bool.{cases_lt, cond_below, cond_above}
use Rattle.sha3.specs.Padding.{filling}
use Rattle.keccak.specs.State.{rows}
use Rattle.sha3.specs.Sponge.{lane_from, block_lane, block_rows}
use Rattle.sha3.specs.Fed.{joint}

-- ---- the filling

pub length_filling : (s q : ℕ) → length (filling s q) ≡ q
length_filling s zero = refl
length_filling s (suc zero) = refl
length_filling s (suc (suc n)) = ap suc (length-append (replicate n 0) (128 ∷ []) ∙ ap (λ (k : ℕ). k + 1) (length-replicate n 0) ∙ omega arith)

-- ---- bytes

-- past the label
past_label : (l h t f : List ℕ) (k : ℕ) → length l ≤ k → k - length l < length (h ++ t) → get_or (joint l h t ++ f) k 0 ≡ get_or (h ++ t) (k - length l) 0
past_label l h t f k p q =
    get_or_append_left (l ++ (h ++ t)) f 0 k (omega (arith, length-append l (h ++ t))) ∙ get_or-append_right l (h ++ t) (length l) k 0 refl p

pub in_head : (l h t f : List ℕ) (k : ℕ) → length l ≤ k → k - length l < length h → get_or (joint l h t ++ f) k 0 ≡ get_or h (k - length l) 0
in_head l h t f k p q = past_label l h t f k p (omega (arith, length-append h t)) ∙ get_or_append_left h t 0 (k - length l) q

pub in_tail : (l h t f : List ℕ) (k : ℕ) → length l ≤ k → length h ≤ k - length l → k - length l - length h < length t → get_or (joint l h t ++ f) k 0 ≡ get_or t (k - length l - length h) 0
in_tail l h t f k p q r = past_label l h t f k p (omega (arith, length-append h t)) ∙ get_or-append_right h t (length h) (k - length l) 0 refl q

-- ---- lanes

lane_same : (p r : List ℕ) (k i : ℕ) → ((b : ℕ) → b < 8 → get_or p (k + b) 0 ≡ get_or r (i + b) 0) → lane_from p k ≡ lane_from r i
lane_same p r k i same =
    let e0 : get_or p k 0 ≡ get_or r i 0 = ap (λ (n : ℕ). get_or p n 0) (sym (add-zero k)) ∙ same 0 (omega arith) ∙ ap (λ (n : ℕ). get_or r n 0) (add-zero i) in
    let e1 : get_or p (k + 1) 0 ≡ get_or r (i + 1) 0 = same 1 (omega arith) in
    let e2 : get_or p (k + 2) 0 ≡ get_or r (i + 2) 0 = same 2 (omega arith) in
    let e3 : get_or p (k + 3) 0 ≡ get_or r (i + 3) 0 = same 3 (omega arith) in
    let e4 : get_or p (k + 4) 0 ≡ get_or r (i + 4) 0 = same 4 (omega arith) in
    let e5 : get_or p (k + 5) 0 ≡ get_or r (i + 5) 0 = same 5 (omega arith) in
    let e6 : get_or p (k + 6) 0 ≡ get_or r (i + 6) 0 = same 6 (omega arith) in
    let e7 : get_or p (k + 7) 0 ≡ get_or r (i + 7) 0 = same 7 (omega arith) in
    cc

pub lane_in_head : (l h t f : List ℕ) (k : ℕ) → length l ≤ k → k - length l + 8 ≤ length h → lane_from (joint l h t ++ f) k ≡ lane_from h (k - length l)
lane_in_head l h t f k p q =
    lane_same (joint l h t ++ f) h k (k - length l)
    (λ b s. in_head l h t f (k + b) (omega arith) (omega arith) ∙ ap (λ (n : ℕ). get_or h n 0) (let e : k + b - length l ≡ k - length l + b = omega arith in e))

pub lane_in_tail : (l h t f : List ℕ) (k : ℕ) → length l ≤ k → length h ≤ k - length l → k - length l - length h + 8 ≤ length t → lane_from (joint l h t ++ f) k ≡ lane_from t (k - length l - length h)
lane_in_tail l h t f k p q r =
    lane_same (joint l h t ++ f) t k (k - length l - length h)
    (λ b s. in_tail l h t f (k + b) (omega arith) (omega arith) (omega arith) ∙ ap (λ (n : ℕ). get_or t n 0) (let e : k + b - length l - length h ≡ k - length l - length h + b = omega arith in e))

-- ---- what is left past the first bytes of the message

past : (xs ys : List ℕ) (k : ℕ) → drop (length xs + k) (xs ++ ys) ≡ drop k ys
past xs ys k = sym (drop-drop k (length xs) (xs ++ ys)) ∙ ap (λ (l : List ℕ). drop k l) (drop_at xs ys (length xs) refl)

rest_parts : (l r f : List ℕ) (at : ℕ) → length l ≤ at → at ≤ length l + length r → drop at ((l ++ r) ++ f) ≡ drop (at - length l) r ++ f
rest_parts l r f at p q =
    drop-append-le at (l ++ r) f (omega (arith, length-append l r))
    ∙ ap (λ (x : List ℕ). x ++ f) (ap (λ (n : ℕ). drop n (l ++ r)) (let e : at ≡ length l + (at - length l) = omega arith in e) ∙ past l r (at - length l))

pub rest_head : (l h t f : List ℕ) (at : ℕ) → length l ≤ at → at - length l ≤ length h → joint [] (drop (at - length l) h) t ++ f ≡ drop at (joint l h t ++ f)
rest_head l h t f at p q =
    sym (rest_parts l (h ++ t) f at p (omega (arith, length-append h t)) ∙ ap (λ (x : List ℕ). x ++ f) (drop-append-le (at - length l) h t q))

pub rest_tail : (l h t f : List ℕ) (at : ℕ) → length l ≤ at → length h ≤ at - length l → at ≤ length l + length h + length t → joint [] (drop (at - length l - length h) t) [] ++ f ≡ drop at (joint l h t ++ f)
rest_tail l h t f at p q r =
    sym (rest_parts l (h ++ t) f at p (omega (arith, length-append h t))
    ∙ ap (λ (x : List ℕ). x ++ f)
    (ap (λ (n : ℕ). drop n (h ++ t)) (let e : at - length l ≡ length h + (at - length l - length h) = omega arith in e)
    ∙ past h t (at - length l - length h) ∙ sym (append-nil (drop (at - length l - length h) t))))

-- ---- a block that lies in the head

block_lane_same : (rate : ℕ) (p r : List ℕ) → ((j : ℕ) → 8 * j < rate → lane_from p (8 * j) ≡ lane_from r (8 * j)) → (j : ℕ) → block_lane rate p j ≡ block_lane rate r j
block_lane_same rate p r same j =
    ⊎_elim
    (λ l. sym (cond_below (8 * j) rate (lane_from p (8 * j)) 0 l) ∙ same j l ∙ cond_below (8 * j) rate (lane_from r (8 * j)) 0 l)
    (λ g. sym (cond_above (8 * j) rate (lane_from p (8 * j)) 0 0 g refl) ∙ cond_above (8 * j) rate (lane_from r (8 * j)) 0 0 g refl)
    (cases_lt (8 * j) rate)

pub block_in_head : (rate : ℕ) (l h t f : List ℕ) → rate % 8 ≡ 0 → length l ≡ 0 → rate ≤ length h → block_rows rate h ≡ block_rows rate (joint l h t ++ f)
block_in_head rate l h t f whole none room =
    let same : (j : ℕ) → 8 * j < rate → lane_from h (8 * j) ≡ lane_from (joint l h t ++ f) (8 * j) =
    λ j k. ap (λ (n : ℕ). lane_from h n) (let e : 8 * j ≡ 8 * j - length l = omega arith in e) ∙ sym (lane_in_head l h t f (8 * j) (omega arith) (omega arith)) in
    λ i. rows (λ x y. block_lane_same rate h (joint l h t ++ f) same (5 * y + x) i)
