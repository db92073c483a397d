-- A vector whose entry at each place is worked out from those of two vectors.
use Rattle.std.proofs.Common.{◌≡◌, ℕ, ◌<◌, List, map, length, get_or, ◌∙◌, ap₂, arith}
use Rattle.std.specs.List.{range_with_len}
use Rattle.std.proofs.lemmas.List.FromFn.{fill_by_all}
use Rattle.std.proofs.lemmas.List.{get_or_default}

pub entries : (f : ℕ → ℕ → ℕ) (nil n : ℕ) (x y out : List ℕ) → length out ≡ n → length x ≡ n → length y ≡ n
    → ((k : ℕ) → k < n → get_or out k 0 ≡ f (get_or x k 0) (get_or y k 0))
    → out ≡ map (λ k. f (get_or x k nil) (get_or y k nil)) (range_with_len 0 n)
entries f nil n x y out lo lx ly is = fill_by_all (λ k. f (get_or x k nil) (get_or y k nil)) out n 0 lo
    (λ k l. is k l ∙ ap₂ f (get_or_default x k 0 nil (omega arith)) (get_or_default y k 0 nil (omega arith)))
