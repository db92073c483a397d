-- Codes as the packing's loops want them, and two parts written one behind the other.
use Rattle.std.proofs.Common.{◌≡◌, ℕ, ◌-◌, ◌<◌, List, [], ◌++◌, length, take, drop, sym, ap, ◌∙◌, subst, ap₂, append-nil, arith, length-append, length-drop}
use borrow.Rule.Slice.PartMut.{put_mid}
use Rattle.std.proofs.ByRecursion.{All-from_get_or}
use Rattle.std.proofs.lemmas.List.{drop_all, drop_at, take-append-le, take_all}
use Rattle.field.specs.Codes.{Codes}
use Rattle.packing.specs.Packed.{first_not}
use Rattle.packing.proofs.Firsts.{first_codes}

pub codes_first : (q r : ℕ) (v : List ℕ) → r ≡ q → Codes q v → first_not r v ≡ length v
codes_first q r v e c = subst (λ (k : ℕ). first_not k v ≡ length v) (sym e) (first_codes q v (All-from_get_or (λ x. x < q) v 0 c))

-- a part of n bytes, and then all the rest written over
pub two_parts : (xs rest ys : List ℕ) (n : ℕ) → length xs ≡ n → put_mid n (length (xs ++ rest) - n) (xs ++ rest) ys ≡ xs ++ ys
two_parts xs rest ys n h =
    let l = length-append xs rest in
    let f : take n (xs ++ rest) ≡ xs = take-append-le n xs rest (omega arith) ∙ take_all n xs (omega arith) in
    let e : drop (length (xs ++ rest) - n) (drop n (xs ++ rest)) ≡ [] = drop_all (length (xs ++ rest) - n) (drop n (xs ++ rest)) (omega (arith, length-drop n (xs ++ rest))) in
    ap₂ ◌++◌ f (ap (λ (t : List ℕ). ys ++ t) e ∙ append-nil ys)

-- the part behind the first
pub behind : (xs rest : List ℕ) (n : ℕ) → length xs ≡ n → length (take (length (xs ++ rest) - n) (drop n (xs ++ rest))) ≡ length rest
behind xs rest n h =
    let l = length-append xs rest in
    let d : drop n (xs ++ rest) ≡ rest = drop_at xs rest n h in
    ap (λ (t : List ℕ). length (take (length (xs ++ rest) - n) t)) d ∙ ap length (take_all (length (xs ++ rest) - n) rest (omega arith))
