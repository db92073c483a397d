-- The front of a buffer, as `&s[0..n]` has it.
use Rattle.std.proofs.Common.{◌≡◌, ℕ, ◌-◌, List, take, sym, ap, subst}
use native.Mathlib.Nat.{sub-zero}
use Rattle.suite.specs.Drawn.{Elements}

pub cut_front : (n : ℕ) (xs : List ℕ) → take (n - 0) xs ≡ take n xs
cut_front n xs = ap (λ (k : ℕ). take k xs) (sub-zero n)

pub of_front : (q n : ℕ) (xs : List ℕ) → Elements q n (take n xs) → Elements q n (take (n - 0) xs)
of_front q n xs d = subst (Elements q n) (sym (cut_front n xs)) d
