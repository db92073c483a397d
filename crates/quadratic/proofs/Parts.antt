-- The part of the coefficients that one equation adds up.
use Rattle.std.proofs.Common.{◌≡◌, ℕ, zero, suc, ◌+◌, ◌-◌, ◌≤◌, List, [], ◌∷◌, length, take, drop, refl, ap, arith}
use Rattle.field.specs.Ring.{Ops}
use Rattle.field.specs.Terms.{dot}

-- only as many coefficients count as there are terms
dot_take : (o : Ops ℕ) (cs ys : List ℕ) (n : ℕ) → length ys ≤ n → dot o (take n cs) ys ≡ dot o cs ys
dot_take o [] ys zero h = refl
dot_take o [] ys (suc n) h = refl
dot_take o (c ∷ cs) [] zero h = refl
dot_take o (c ∷ cs) [] (suc n) h = refl
dot_take o (c ∷ cs) (y ∷ ys) zero h = absurd (omega arith)
dot_take o (c ∷ cs) (y ∷ ys) (suc n) h = ap (o.add (o.mul c y)) (dot_take o cs ys n (omega arith))

pub dot_part : (o : Ops ℕ) (cs ys : List ℕ) (a l : ℕ) → length ys ≤ l → dot o (take (a + l - a) (drop a cs)) ys ≡ dot o (drop a cs) ys
dot_part o cs ys a l h = dot_take o (drop a cs) ys (a + l - a) (omega arith)
