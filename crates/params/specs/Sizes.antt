-- The sizes that follow from a set, with elements of b bits.
use Rattle.std.specs.Prelude.{ℕ, ◌+◌, ◌*◌, ◌/◌}
use Rattle.packing.specs.Packed.{width}
use Rattle.params.specs.declared.Set.{Set}

-- C: for each equation one coefficient for each pair of variables, and one for each variable
abbrev pub coefficients_of : Set → ℕ
coefficients_of s = s.m * (s.n * (s.n + 1) / 2 + s.n)

-- a seed, and one packed element for each equation
abbrev pub key_length : ℕ → Set → ℕ
key_length b s = 32 + width b s.m

-- R and σ0; for each round t1 and e1, the response, and the other side's commitment
abbrev pub signature_length : ℕ → Set → ℕ
signature_length b s = 64 + s.r * (32 + 2 * width b s.n + width b s.m)
