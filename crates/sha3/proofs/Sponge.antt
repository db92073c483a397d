-- The steps of absorbing and squeezing.
use Rattle.std.proofs.Common.{◌≡◌, ℕ, zero, suc, ◌+◌, ◌-◌, ◌*◌, ◌/◌, ◌%◌, ◌^◌, ◌<◌, ◌≤◌, List, [], ◌∷◌, ◌++◌, length, get_or, take, drop, sym, refl, ap, ◌∙◌, ⊎_elim, add-one, arith}
use borrow.Rule.Slice.PartMut.{put_mid, post_of}
use Rattle.std.proofs.lemmas.Nat.{div-mul-add, mod-mul-add}
use Rattle.std.proofs.lemmas.List.{get_or_append_left, get_or-append_right, length-take-le}
use Rattle.std.proofs.lemmas.Bool.{cases_lt}
use Rattle.keccak.specs.State.{Rows}
use Rattle.keccak.specs.Rounds.{keccak_f}
use Rattle.sha3.specs.Sponge.{zeros, block_added, absorbed, later, state_byte_of, squeezed_byte}

-- ---- no blocks, and one more

pub absorbed_none : (rate : ℕ) (p : List ℕ) → absorbed rate p 0 ≡ zeros
unfolding absorbed
absorbed_none rate p = refl

pub absorbed_more : (rate : ℕ) (p : List ℕ) (n : ℕ) → absorbed rate p (n + 1) ≡ keccak_f (block_added rate (drop (n * rate) p) (absorbed rate p n))
unfolding absorbed
absorbed_more rate p n = ap (λ (k : ℕ). absorbed rate p k) (add-one n)

pub later_none : (s : Rows) → later 0 s ≡ s
unfolding later
later_none s = refl

pub later_more : (s : Rows) (n : ℕ) → later (n + 1) s ≡ keccak_f (later n s)
unfolding later
later_more s n = ap (λ (k : ℕ). later k s) (add-one n)

-- ---- a part of a list written over, and the bytes of a lane

pub put_here : (a k : ℕ) (xs ys : List ℕ) (b : ℕ) → b < length ys → a ≤ length xs → get_or (put_mid a k xs ys) (a + b) 0 ≡ get_or ys b 0
put_here a k xs ys b h r =
    get_or-append_right (take a xs) (ys ++ post_of a k xs) a (a + b) 0 (length-take-le a xs r) (omega arith)
    ∙ ap (λ (i : ℕ). get_or (ys ++ post_of a k xs) i 0) (let e : a + b - a ≡ b = omega arith in e)
    ∙ get_or_append_left ys (post_of a k xs) 0 b h

pub lane_byte : (v b : ℕ) → b < 8 →
    get_or (v % 256 ∷ v / 256 % 256 ∷ v / 65536 % 256 ∷ v / 16777216 % 256 ∷ v / 4294967296 % 256 ∷ v / 1099511627776 % 256 ∷ v / 281474976710656 % 256 ∷ v / 72057594037927936 % 256 ∷ []) b 0
    ≡ v / 2 ^ (8 * b) % 256
lane_byte v zero h = ap (λ (n : ℕ). n % 256) (let e : v ≡ v / 1 = omega arith in e)
lane_byte v (suc zero) h = refl
lane_byte v (suc (suc zero)) h = refl
lane_byte v (suc (suc (suc zero))) h = refl
lane_byte v (suc (suc (suc (suc zero)))) h = refl
lane_byte v (suc (suc (suc (suc (suc zero))))) h = refl
lane_byte v (suc (suc (suc (suc (suc (suc zero)))))) h = refl
lane_byte v (suc (suc (suc (suc (suc (suc (suc zero))))))) h = refl
lane_byte v (suc (suc (suc (suc (suc (suc (suc (suc b)))))))) h = absurd (omega arith)

-- ---- blocks

-- byte k of the state of block i is byte i * rate + k of all
pub block_byte : (rate i k : ℕ) (s t : Rows) → s ≡ later i t → k < rate → state_byte_of s k ≡ squeezed_byte rate t (i * rate + k)
block_byte rate i k s t e h =
    ap (λ (r : Rows). state_byte_of r k) e
    ∙ ap (λ (n : ℕ). state_byte_of (later n t) k) (sym (div-mul-add i rate k h))
    ∙ ap (λ (n : ℕ). state_byte_of (later ((i * rate + k) / rate) t) n) (sym (mod-mul-add i rate k h))

-- what is written up to i * rate, and a block of at most n ≤ rate bytes past it
pub blocks_more : (rate i n : ℕ) (s t : Rows) (was out : List ℕ) → s ≡ later i t → n ≤ rate →
    ((k : ℕ) → k < i * rate → get_or was k 0 ≡ squeezed_byte rate t k) →
    ((k : ℕ) → k < i * rate → get_or out k 0 ≡ get_or was k 0) →
    ((k : ℕ) → k < n → get_or out (i * rate + k) 0 ≡ state_byte_of s k) →
    (k : ℕ) → k < i * rate + n → get_or out k 0 ≡ squeezed_byte rate t k
blocks_more rate i n s t was out e m done before bytes k h =
    ⊎_elim
    (λ l. before k l ∙ done k l)
    (λ r.
    let f : k ≡ i * rate + (k - i * rate) = omega arith in
    ap (λ (j : ℕ). get_or out j 0) f
    ∙ bytes (k - i * rate) (omega arith)
    ∙ block_byte rate i (k - i * rate) s t e (omega arith)
    ∙ ap (λ (j : ℕ). squeezed_byte rate t j) (sym f))
    (cases_lt k (i * rate))
