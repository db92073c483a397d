-- Lanes of joined lists, and one byte more.
use Rattle.std.specs.Prelude.{◌≡◌, ℕ, ◌+◌, ◌%◌, ◌<◌, cond, List, [], ◌∷◌, ◌++◌, map, length, take, ◌==◌, slice_index, slice_index_or, slice_set}
use Rattle.std.proofs.Common.{⊎_elim, ap, sym, ◌∙◌, arith}
use Rattle.std.proofs.lemmas.List.{take_more, length-take-le, get_or-set_same, get_or-set_other}
use Rattle.std.specs.List.{range_with_len}
use Rattle.std.proofs.lemmas.List.FromFn.{length-map-range_with_len, get_or-map-range_with_len, fill_by_all}
use Rattle.std.proofs.lemmas.Bool.{cases_eq, eq-eqb, ne_eqb, cond-true, cond-false}
use Rattle.suite.proofs.Bytes.{byte_anywhere}
use Rattle.suite_bench.specs.Sums.{lane, bench_d}

pub lane_append : (k i : ℕ) (xs ys : List ℕ) → lane k i (xs ++ ys) ≡ lane k i xs + lane (k + length xs) i ys
lane_append k i [] ys = let e : k + length {A = ℕ} [] ≡ k = omega arith in omega (arith, ap (λ n. lane n i ys) e)
lane_append k i (x ∷ xs) ys =
    let e : (k + 1) + length xs ≡ k + length (x ∷ xs) = omega arith in
    omega (arith, lane_append (k + 1) i xs ys, ap (λ n. lane n i ys) e)

pub lane_push : (k i : ℕ) (xs : List ℕ) (x : ℕ) → lane k i (xs ++ x ∷ []) ≡ lane k i xs + cond ((k + length xs) % 32 == i) x 0
lane_push k i xs x = omega (arith, lane_append k i xs (x ∷ []))

pub absorb_more : (out was part : List ℕ) (at k : ℕ) → length out ≡ 32 → k < length part →
    ((i : ℕ) → i < 32 → slice_index out i ≡ (slice_index was i + lane at i (take k part)) % 256) →
    (i : ℕ) → i < 32 →
    slice_index (slice_set out ((at + k) % 32) ((slice_index out ((at + k) % 32) + slice_index part k) % 256)) i ≡ (slice_index was i + lane at i (take (k + 1) part)) % 256
absorb_more out was part at k len lt inv i il =
    let b : ℕ = slice_index_or part k 0 in
    let j : ℕ = (at + k) % 32 in
    let v : ℕ = (slice_index out j + b) % 256 in
    let t : take (k + 1) part ≡ take k part ++ b ∷ [] = take_more part k 0 lt in
    let n : length (take k part) ≡ k = length-take-le k part (omega arith) in
    let p : lane at i (take (k + 1) part) ≡ lane at i (take k part) + cond (j == i) b 0 =
    ap (lane at i) t ∙ lane_push at i (take k part) b ∙ ap (λ m. lane at i (take k part) + cond ((at + m) % 32 == i) b 0) n in
    let o : slice_index_or out i 0 ≡ (slice_index was i + lane at i (take k part)) % 256 = inv i il in
    ⊎_elim
    (λ (q : j ≡ i).
    let same : slice_index_or (slice_set out j v) i 0 ≡ v = ap (λ m. slice_index (slice_set out m v) i) q ∙ get_or-set_same out i v 0 (omega arith) in
    let x : slice_index_or out j 0 ≡ slice_index_or out i 0 = ap (λ m. slice_index out m) q in
    let y : cond (j == i) b 0 ≡ b = cond-true (j == i) b 0 (eq-eqb j i q) in
    omega arith)
    (λ (q : j ≡ i → ⊥).
    let other : slice_index_or (slice_set out j v) i 0 ≡ slice_index_or out i 0 = get_or-set_other out j i v 0 (λ e. q (sym e)) in
    let y : cond (j == i) b 0 ≡ 0 = cond-false (j == i) b 0 (ne_eqb j i q) in
    omega arith)
    (cases_eq j i)

pub bench_d_length : (l : ℕ) (x : List ℕ) → length (bench_d l x) ≡ 32
unfolding bench_d
bench_d_length l x = length-map-range_with_len (λ i. (l + lane 0 i x) % 256) 0 32

pub bench_d_byte : (l : ℕ) (x : List ℕ) (k : ℕ) → slice_index (bench_d l x) k < 256
unfolding bench_d
bench_d_byte l x =
    let f : ℕ → ℕ = λ i. (l + lane 0 i x) % 256 in
    byte_anywhere (map f (range_with_len 0 32)) (λ k h. omega (arith, get_or-map-range_with_len f 0 32 k k 0 h (omega arith)))

-- 32 bytes, each of them its lane's, are d
pub bench_d_is : (l : ℕ) (x out : List ℕ) → length out ≡ 32 → ((i : ℕ) → i < 32 → slice_index out i ≡ (l + lane 0 i x) % 256) → out ≡ bench_d l x
unfolding bench_d
bench_d_is l x out n h = fill_by_all (λ i. (l + lane 0 i x) % 256) out 32 0 n h
