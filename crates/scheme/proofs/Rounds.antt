-- What rounds put together: one more round, lengths, and the part of each round.
use Rattle.std.proofs.Common.{◌≡◌, ℕ, zero, suc, ◌+◌, ◌*◌, ◌<◌, ◌≤◌, List, [], ◌++◌, length, sym, refl, ap, ◌∙◌, ap₂, mul-le-mul_right, arith}
use native.Mathlib.Decide.{dec_lt}
use Rattle.std.specs.List.{range_with_len, flat_map}
use Rattle.std.proofs.lemmas.List.{append-nil, append_assoc, length-append}
use Rattle.wire.specs.Layout.{part}
use Rattle.scheme.specs.Rounds.{rounds}
use Rattle.scheme.proofs.Parts.{part_left, part_right, part_all}

pub rounds_none : (x : ℕ → List ℕ) → rounds 0 x ≡ []
unfolding rounds
rounds_none x = refl

joined_counting : (x : ℕ → List ℕ) (a i j : ℕ) → a + i ≡ j → flat_map x (range_with_len a (suc i)) ≡ flat_map x (range_with_len a i) ++ x j
joined_counting x a zero j e =
    let f : a ≡ j = omega arith in
    append-nil (x a) ∙ ap x f
joined_counting x a (suc i) j e = ap (λ (t : List ℕ). x a ++ t) (joined_counting x (a + 1) i j (omega arith)) ∙ sym (append_assoc (x a) (flat_map x (range_with_len (a + 1) i)) (x j))

pub rounds_suc : (i : ℕ) (x : ℕ → List ℕ) → rounds (suc i) x ≡ rounds i x ++ x i
unfolding rounds
rounds_suc i x = joined_counting x 0 i i (omega arith)

pub rounds_more : (i : ℕ) (x : ℕ → List ℕ) → rounds (i + 1) x ≡ rounds i x ++ x i
rounds_more i x =
    let e : i + 1 ≡ suc i = omega arith in
    ap (λ (k : ℕ). rounds k x) e ∙ rounds_suc i x

pub rounds_length : (r w : ℕ) (x : ℕ → List ℕ) → ((i : ℕ) → i < r → length (x i) ≡ w) → length (rounds r x) ≡ r * w
rounds_length zero w x h = ap length (rounds_none x) ∙ omega arith
rounds_length (suc r) w x h =
    let i = rounds_length r w x (λ i l. h i (omega arith)) in
    let k = h r (omega arith) in
    ap length (rounds_suc r x) ∙ simp length-append (omega arith)

-- the rounds need to agree only up to the last
pub rounds_cong : (r : ℕ) (x y : ℕ → List ℕ) → ((i : ℕ) → i < r → x i ≡ y i) → rounds r x ≡ rounds r y
rounds_cong zero x y h = rounds_none x ∙ sym (rounds_none y)
rounds_cong (suc r) x y h =
    rounds_suc r x ∙ ap₂ ◌++◌ (rounds_cong r x y (λ i l. h i (omega arith))) (h r (omega arith)) ∙ sym (rounds_suc r y)

-- a part of what one round gives
pub rounds_sub : (r w : ℕ) (x : ℕ → List ℕ) → ((i : ℕ) → i < r → length (x i) ≡ w) → (i k len : ℕ) → i < r → k + len ≤ w
    → part (rounds r x) (i * w + k) len ≡ part (x i) k len
rounds_sub zero w x h i k len l m = absurd (omega arith)
rounds_sub (suc r) w x h i k len l m =
    let long = rounds_length r w x (λ i l. h i (omega arith)) in
    ap (λ (t : List ℕ). part t (i * w + k) len) (rounds_suc r x)
    ∙ elim (dec_lt i r) [
      | yes lt ↦
          let c : suc i * w ≤ r * w = mul-le-mul_right w lt in
          part_left (rounds r x) (x r) (i * w + k) len (omega arith) ∙ rounds_sub r w x (λ i l. h i (omega arith)) i k len lt m
      | no ge ↦
          let e : i ≡ r = omega arith in
          rw e (part_right (rounds r x) (x r) (r * w + k) len (r * w) k long refl)
    ]

-- what one round gives
pub rounds_part : (r w : ℕ) (x : ℕ → List ℕ) → ((i : ℕ) → i < r → length (x i) ≡ w) → (i : ℕ) → i < r → part (rounds r x) (i * w) w ≡ x i
rounds_part r w x h i l =
    let e : i * w ≡ i * w + 0 = omega arith in
    ap (λ (k : ℕ). part (rounds r x) k w) e ∙ rounds_sub r w x h i 0 w l (omega arith) ∙ part_all (x i) w (h i l)
