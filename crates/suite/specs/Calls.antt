-- What the calls digest and stream come to.
use Rattle.std.specs.Prelude.{ℕ, ◌+◌, List, ◌++◌, map, length, Ok, Result, nat_le}
use Rattle.std.specs.List.{range_with_len}
use Rattle.refusal.specs.declared.Refusal.{Refusal}
use Rattle.refusal.specs.declared.Refusal.TheVariants.{SuiteLimit}
use Rattle.refusal.specs.Outcome.{and_then, unless}
use Rattle.suite.specs.Meaning.{Meaning}

abbrev pub digest_of : Meaning → ℕ → List ℕ → List ℕ → Result (List ℕ) Refusal
digest_of M label head tail =
    and_then (unless (nat_le (length head + length tail) 131072) (SuiteLimit label)) (λ _.
    Ok (M.d label (head ++ tail)))

-- bytes 0 to n - 1 of a stream
abbrev pub first : (ℕ → ℕ) → ℕ → List ℕ
first byte n = map byte (range_with_len 0 n)

abbrev pub stream_of : Meaning → ℕ → List ℕ → ℕ → Result (List ℕ) Refusal
stream_of M label seed n =
    and_then (unless (nat_le n 262144) (SuiteLimit label)) (λ _.
    Ok (first (M.e label seed) n))
