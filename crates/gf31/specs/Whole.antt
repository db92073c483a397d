-- The sum of an equation in whole numbers, before its one remainder, and how large it gets.
use Rattle.std.specs.Prelude.{◌≡◌, ℕ, ◌+◌, ◌*◌, ◌≤◌, List, [], ◌∷◌, length}
use Rattle.field.specs.Codes.{Codes}
use Rattle.field.specs.Terms.{monomials}

-- the sum of the products, place by place, up to the end of the shorter list
abbrev pub whole : List ℕ → List ℕ → ℕ
whole [] ys = 0
whole (c ∷ cs) [] = 0
whole (c ∷ cs) (y ∷ ys) = c * y + whole cs ys

-- Over the monomials of a vector of up to 64 elements the sum r is at most 56,217,600:
-- 2,080 products c·x(i)·x(j) of at most 27,000 each, and 64 products c·x(i) of at most 900 each.
abbrev pub AtMonomials : List ℕ → ℕ → Type 0
AtMonomials terms r = (x : List ℕ) → Codes 31 x → length x ≤ 64 → terms ≡ monomials ◌*◌ x → r ≤ 56217600
