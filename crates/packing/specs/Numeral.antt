-- Numbers written with the lowest digit first. Assumes nothing.
use Rattle.std.specs.Prelude.{ℕ, zero, suc, ◌+◌, ◌*◌, ◌/◌, ◌%◌, List, [], ◌∷◌}

-- the number that the digits ds write in base b: the sum of d(i) * b^i
abbrev pub amount : ℕ → List ℕ → ℕ
amount b [] = 0
amount b (d ∷ ds) = d + b * amount b ds

-- the n lowest digits of N in base b
abbrev pub digits : ℕ → ℕ → ℕ → List ℕ
digits b zero N = []
digits b (suc n) N = N % b ∷ digits b n (N / b)
