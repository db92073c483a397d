-- F and G as C calls them: answered exactly where lengths and codes are right.
use Rattle.std.specs.Prelude.{ℕ, ◌*◌, Bool, true, cond, ◌&&◌, List, [], ◌∷◌, length, Some, None, Option, ◌==◌, nat_le, nat_lt}
use Rattle.gf31.specs.Modulo.{ops31}
use Rattle.algebra.specs.Quad.{size, F, G}

-- every entry is a code
abbrev pub coded : List ℕ → Bool
coded [] = true
coded (x ∷ xs) = nat_lt x 31 && coded xs

-- m equations in n variables, with their coefficients
abbrev pub fits : ℕ → ℕ → ℕ → Bool
fits coefficients n m = nat_le n 64 && nat_le m 64 && coefficients == m * size n

abbrev pub map_call : List ℕ → List ℕ → ℕ → Option (List ℕ)
map_call cs x m = cond (fits (length cs) (length x) m && coded cs && coded x) (Some (F ops31 m (length x) cs x)) None

abbrev pub polar_call : List ℕ → List ℕ → List ℕ → ℕ → Option (List ℕ)
polar_call cs x y m =
    cond (fits (length cs) (length x) m && length y == length x && coded cs && coded x && coded y)
    (Some (G ops31 m (length x) cs x y))
    None
