-- Parts written one behind the other, from the front of a buffer.
use Rattle.std.proofs.Common.{◌≡◌, ℕ, ◌+◌, ◌≤◌, List, ◌++◌, length, take, sym, refl, ap, ◌∙◌, append_assoc, arith, length-append, length-drop, length-take}
use borrow.Rule.Slice.PartMut.{put_mid}
use Rattle.std.proofs.lemmas.List.{take_all, take_at}
use Rattle.std.proofs.lemmas.Slice.{take-put_mid}

pub put_mid_length : (a : ℕ) (xs ys : List ℕ) (k : ℕ) → a + k ≤ length xs → length ys ≡ k → length (put_mid a k xs ys) ≡ length xs
put_mid_length a xs ys k h l =
    let t = length-take a xs in
    simp (length-append, length-drop) (omega arith)

-- three parts, of 32 bytes each but for the last
pub three_front : (xs rest ys zs : List ℕ) (j k n : ℕ) → length xs ≡ 32 → length ys ≡ 32 → j ≡ 32 → n ≡ 64 + length zs → 64 ≤ length (xs ++ rest)
    → take n (put_mid 64 k (put_mid 32 j (xs ++ rest) ys) zs) ≡ xs ++ (ys ++ zs)
three_front xs rest ys zs j k n lx ly lj ln room =
    let long = put_mid_length 32 (xs ++ rest) ys j (omega arith) (omega arith) in
    take-put_mid 64 k (put_mid 32 j (xs ++ rest) ys) zs n ln (omega arith)
    ∙ ap (λ (t : List ℕ). t ++ zs) (take-put_mid 32 j (xs ++ rest) ys 64 (omega arith) (omega arith) ∙ ap (λ (t : List ℕ). t ++ ys) (take_at xs rest 32 lx))
    ∙ append_assoc xs ys zs

-- two parts from byte c on, to the end
pub two_back : (out ys zs : List ℕ) (c e j k : ℕ) → e ≡ c + length ys → j ≡ length ys → length out ≡ e + length zs → k ≡ length zs
    → put_mid e k (put_mid c j out ys) zs ≡ take c out ++ (ys ++ zs)
two_back out ys zs c e j k he hj l hk =
    let long = put_mid_length c out ys j (omega arith) (sym hj) in
    let all : take (e + length zs) (put_mid e k (put_mid c j out ys) zs) ≡ put_mid e k (put_mid c j out ys) zs = take_all (e + length zs) (put_mid e k (put_mid c j out ys) zs) (omega (arith, put_mid_length e (put_mid c j out ys) zs k (omega arith) (sym hk))) in
    sym all
    ∙ take-put_mid e k (put_mid c j out ys) zs (e + length zs) refl (omega arith)
    ∙ ap (λ (t : List ℕ). t ++ zs) (take-put_mid c j out ys e he (omega arith))
    ∙ append_assoc (take c out) ys zs
