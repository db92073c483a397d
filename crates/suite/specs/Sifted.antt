-- The codes among the low bits of bytes.
use Rattle.std.specs.Prelude.{ℕ, ◌%◌, ◌^◌, List, map, filter, nat_lt}

-- the low b bits of each byte, without those that are no code below q
abbrev pub sifted : ℕ → ℕ → List ℕ → List ℕ
sifted q b bytes = filter (λ x. nat_lt x q) (map (λ y. y % 2 ^ b) bytes)
