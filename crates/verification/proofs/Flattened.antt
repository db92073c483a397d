-- What each round gives, one behind the other, where it stands piece by piece.
use Rattle.std.proofs.Common.{◌≡◌, ℕ, ◌<◌, List, [], map, length, get_or, sym, ap, ◌∙◌, arith}
use Rattle.std.specs.List.{flat_map, range_with_len}
use Rattle.std.proofs.lemmas.List.{ext_get_or}
use Rattle.std.proofs.lemmas.List.Folds.{flat_map-map}
use Rattle.std.proofs.lemmas.List.FromFn.{length-map-range_with_len, get_or-map-range_with_len}
use Rattle.scheme.specs.Rounds.{rounds}

pub flattened : (x : ℕ → List ℕ) (r : ℕ) (xs : List (List ℕ)) → length xs ≡ r → ((k : ℕ) → k < r → get_or xs k [] ≡ x k) → flat_map (λ y. y) xs ≡ rounds r x
unfolding rounds
flattened x r xs long each =
    let same : xs ≡ map x (range_with_len 0 r) =
    ext_get_or [] xs (map x (range_with_len 0 r)) (long ∙ sym (length-map-range_with_len x 0 r)) (λ k l. each k (omega arith) ∙ sym (get_or-map-range_with_len x 0 r k k [] (omega arith) (omega arith))) in
    ap (flat_map (λ y. y)) same ∙ flat_map-map (λ y. y) x (range_with_len 0 r)
