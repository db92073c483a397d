-- The lengths of a signature's sections.
use Rattle.std.proofs.Common.{◌≡◌, ℕ, ◌+◌, ◌-◌, ◌*◌, ◌≤◌, List, ◌++◌, length, take, drop, refl, ap, ◌∙◌, arith, length-append, length-drop, length-take}
use borrow.Rule.Slice.PartMut.{put_mid}
use Rattle.packing.specs.Packed.{width}
use Rattle.params.specs.declared.Set.{Set}
use Rattle.params.specs.Sizes.{signature_length}
use Rattle.scheme.specs.Verifying.{answers_length}
use Rattle.scheme.proofs.Fronts.{put_mid_length, three_front, two_back}

pub sections : (b : ℕ) (set : Set) → signature_length b set ≡ 64 + answers_length b set + set.r * width b set.n + set.r * 32
sections b set = omega arith

-- a part to the end
rest_long : (xs : List ℕ) (e : ℕ) → e ≤ length xs → length (take (length xs - e) (drop e xs)) ≡ length xs - e
rest_long xs e h = simp (length-take, length-drop) (omega arith)

mid_long : (xs : List ℕ) (a e : ℕ) → a ≤ e → e ≤ length xs → length (take (e - a) (drop a xs)) ≡ e - a
mid_long xs a e l h = simp (length-take, length-drop) (omega arith)

module _ (b : ℕ) (set : Set) (answer : List ℕ) (long : length answer ≡ signature_length b set) where
  -- R, σ0 and the first answers
  pub first_written : (xs ys zs : List ℕ) (size : ℕ) → length xs ≡ 32 → length ys ≡ 32 → size ≡ answers_length b set
      → length zs ≡ length (take (64 + size - 64) (drop 64 (put_mid 32 32 (xs ++ drop 32 answer) ys)))
      → take (64 + answers_length b set) (put_mid 64 (64 + size - 64) (put_mid 32 32 (xs ++ drop 32 answer) ys) zs) ≡ xs ++ (ys ++ zs)
  first_written xs ys zs size lx ly e lz =
      let s = sections b set in
      let all : length (xs ++ drop 32 answer) ≡ length answer = simp (length-append, length-drop) (omega arith) in
      let inner = put_mid_length 32 (xs ++ drop 32 answer) ys 32 (omega arith) ly in
      let m = mid_long (put_mid 32 32 (xs ++ drop 32 answer) ys) 64 (64 + size) (omega arith) (omega arith) in
      three_front xs (drop 32 answer) ys zs 32 (64 + size - 64) (64 + answers_length b set) lx ly refl (omega arith) (omega arith)

  -- the responses, and the other sides' commitments
  pub second_written : (ys zs : List ℕ) (al rl : ℕ) → al ≡ answers_length b set → rl ≡ set.r * width b set.n
      → length ys ≡ length (take (64 + al + rl - (64 + al)) (drop (64 + al) answer))
      → length zs ≡ length (take (length (put_mid (64 + al) (64 + al + rl - (64 + al)) answer ys) - (64 + al + rl)) (drop (64 + al + rl) (put_mid (64 + al) (64 + al + rl - (64 + al)) answer ys)))
      → put_mid (64 + al + rl) (length (put_mid (64 + al) (64 + al + rl - (64 + al)) answer ys) - (64 + al + rl)) (put_mid (64 + al) (64 + al + rl - (64 + al)) answer ys) zs
      ≡ take (64 + answers_length b set) answer ++ (ys ++ zs)
  second_written ys zs al rl ea er ly lz =
      let s = sections b set in
      let m = mid_long answer (64 + al) (64 + al + rl) (omega arith) (omega arith) in
      let p = put_mid_length (64 + al) answer ys (64 + al + rl - (64 + al)) (omega arith) (omega arith) in
      let t = rest_long (put_mid (64 + al) (64 + al + rl - (64 + al)) answer ys) (64 + al + rl) (omega arith) in
      two_back answer ys zs (64 + al) (64 + al + rl) (64 + al + rl - (64 + al)) (length (put_mid (64 + al) (64 + al + rl - (64 + al)) answer ys) - (64 + al + rl)) (omega arith) (omega arith) (omega arith) (omega arith)
      ∙ ap (λ (k : ℕ). take (64 + k) answer ++ (ys ++ zs)) ea
