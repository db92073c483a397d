-- The two functions of the bench suite: sums of bytes, for trials by hand.
use Rattle.std.specs.Prelude.{ℕ, ◌+◌, ◌%◌, cond, List, [], ◌∷◌, map, ◌==◌, slice_index}
use Rattle.std.specs.List.{range_with_len}
use Rattle.suite.specs.Meaning.{Meaning}

-- the sum of the bytes of x that stand at a place k, counted from k on, with k mod 32 = i
abbrev pub lane : ℕ → ℕ → List ℕ → ℕ
lane k i [] = 0
lane k i (x ∷ xs) = cond (k % 32 == i) x 0 + lane (k + 1) i xs

-- byte i is the label plus all X[k] with k mod 32 = i, modulo 256
unfoldable pub bench_d : ℕ → List ℕ → List ℕ
bench_d label x = map (λ i. (label + lane 0 i x) % 256) (range_with_len 0 32)

-- byte k is seed[k mod 32] plus the label, modulo 256
abbrev pub bench_e : ℕ → List ℕ → ℕ → ℕ
bench_e label seed k = (slice_index seed (k % 32) + label) % 256

abbrev pub bench_meaning : Meaning
bench_meaning = record { d = bench_d; e = bench_e }
