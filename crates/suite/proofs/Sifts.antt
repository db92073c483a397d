-- One turn of the loop that sifts in place, and its end.
use Rattle.std.proofs.Common.{◌≡◌, ℕ, ◌+◌, ◌%◌, ◌^◌, ◌<◌, ◌≤◌, Bool, true, false, cond, ltb, List, [], ◌∷◌, ◌++◌, map, length, get_or, take, drop, set, filter, sym, ap, ◌∙◌, arith}
use Rattle.std.specs.List.{AllByRecursion}
use Rattle.std.proofs.lemmas.List.{append-nil, length-set, take_more_set, drop_more, drop-set-lt, map_more}
use Rattle.std.proofs.lemmas.List.Elements.{filter-append}
use Rattle.std.proofs.ByRecursion.{kept_by_passes, All-weaker}
use Rattle.std.proofs.lemmas.Bool.{lt-ltb, le-ltb, ltb-true}
use Rattle.suite.specs.Sifted.{sifted}

-- ys began as xs. What the first i bytes of xs give stands in the first k places of ys, and from i on ys is as it was
pub record Sifting (q b : ℕ) (xs ys : List ℕ) (k i : ℕ) : Type 0 where
  pub front : take k ys ≡ sifted q b (take i xs)
  pub rest : drop i ys ≡ drop i xs
  pub behind : k ≤ i
  pub within : i ≤ length xs
  pub long : length ys ≡ length xs

sifted_more : (q b : ℕ) (xs : List ℕ) (i : ℕ) → i < length xs → sifted q b (take (i + 1) xs) ≡ sifted q b (take i xs) ++ cond (ltb (get_or xs i 0 % 2 ^ b) q) (get_or xs i 0 % 2 ^ b ∷ []) []
sifted_more q b xs i h =
    ap (filter (λ x. ltb x q)) (map_more (λ y. y % 2 ^ b) xs i 0 h) ∙ filter-append (λ x. ltb x q) (map (λ y. y % 2 ^ b) (take i xs)) (get_or xs i 0 % 2 ^ b ∷ [])

module _ {q b : ℕ} {xs ys : List ℕ} {k i : ℕ} (p : Sifting q b xs ys k i) where
  same : i < length xs → get_or ys i 0 ∷ drop (i + 1) ys ≡ get_or xs i 0 ∷ drop (i + 1) xs
  same h =
      let lt : i < length ys = omega (arith, p.long) in
      sym (drop_more ys i 0 lt) ∙ p.rest ∙ drop_more xs i 0 h

  -- the byte at i is as it was, so it gives what xs has there
  step : (t : Bool) → i < length xs → ltb (get_or ys i 0 % 2 ^ b) q ≡ t → sifted q b (take (i + 1) xs) ≡ take k ys ++ cond t (get_or ys i 0 % 2 ^ b ∷ []) []
  step t h e =
      let read : get_or ys i 0 ≡ get_or xs i 0 = ap (λ (l : List ℕ). get_or l 0 0) (same h) in
      rw (sifted_more q b xs i h, ← read, e, p.front)

  pub sift_past : (x : ℕ) → x ≡ get_or ys i 0 % 2 ^ b → i < length xs → q ≤ x → Sifting q b xs ys k (i + 1)
  sift_past x is h le = record {
    front = sym (step false h (le-ltb (get_or ys i 0 % 2 ^ b) q (rw (← is) le)) ∙ append-nil (take k ys));
    rest = ap (drop 1) (same h);
    behind = omega (arith, p.behind);
    within = omega arith;
    long = p.long;
  }

  pub sift_keep : (x : ℕ) → x ≡ get_or ys i 0 % 2 ^ b → i < length xs → x < q → Sifting q b xs (set ys k x) (k + 1) (i + 1)
  sift_keep x is h lt =
      let in' : k < length ys = omega (arith, p.behind, p.long) in
      let e : sifted q b (take (i + 1) xs) ≡ take k ys ++ (x ∷ []) = step true h (lt-ltb (get_or ys i 0 % 2 ^ b) q (rw (← is) lt)) ∙ ap (λ (y : ℕ). take k ys ++ (y ∷ [])) (sym is) in
      record {
        front = take_more_set ys k x in' ∙ sym e;
        rest = drop-set-lt (i + 1) ys k x (omega (arith, p.behind)) ∙ ap (drop 1) (same h);
        behind = omega (arith, p.behind);
        within = omega arith;
        long = rw length-set p.long;
      }

-- what bytes give are codes
pub all_sifted : (q b : ℕ) (bytes : List ℕ) → AllByRecursion (λ x. x < q) (sifted q b bytes)
all_sifted q b bytes =
    let xs : List ℕ = map (λ y. y % 2 ^ b) bytes in
    All-weaker (λ x. ltb x q ≡ true) (λ x. x < q) (λ x h. ltb-true x q h) (filter (λ x. ltb x q) xs) (kept_by_passes (λ x. ltb x q) xs)
