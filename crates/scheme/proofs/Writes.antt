-- A loop that writes what each round gives, one behind the other.
use Rattle.std.proofs.Common.{◌≡◌, ℕ, ◌+◌, ◌*◌, ◌<◌, ◌≤◌, List, ◌++◌, length, take, sym, ap, ◌∙◌, ap₂, arith}
use borrow.Rule.Slice.PartMut.{put_mid}
use Rattle.std.proofs.lemmas.List.{take_all}
use Rattle.std.proofs.lemmas.Nat.{mul-le}
use Rattle.std.proofs.lemmas.Slice.{take-put_mid}
use Rattle.scheme.specs.Rounds.{rounds}
use Rattle.scheme.proofs.Rounds.{rounds_none, rounds_more}

-- w bytes of each of the first i rounds stand in front
abbrev pub Written : (ℕ → List ℕ) → ℕ → ℕ → List ℕ → Type 0
Written x w i out = take (i * w) out ≡ rounds i x

pub written_none : (x : ℕ → List ℕ) (w : ℕ) (out : List ℕ) → Written x w 0 out
written_none x w out =
    let z : 0 * w ≡ 0 = omega arith in
    ap (λ (k : ℕ). take k out) z ∙ sym (rounds_none x)

pub written_more : (x : ℕ → List ℕ) (w i : ℕ) (out ys : List ℕ) (k : ℕ) → Written x w i out → (i + 1) * w ≤ length out → length ys ≡ w → ys ≡ x i → Written x w (i + 1) (put_mid (i * w) k out ys)
written_more x w i out ys k p h l e =
    take-put_mid (i * w) k out ys ((i + 1) * w) (omega arith) (omega arith)
    ∙ ap₂ ◌++◌ p e
    ∙ sym (rounds_more i x)

pub written_all : (x : ℕ → List ℕ) (w r i : ℕ) (out : List ℕ) → Written x w i out → i ≡ r → length out ≡ r * w → out ≡ rounds r x
written_all x w r i out p e l =
    sym (take_all (i * w) out (omega (arith, ap (λ (k : ℕ). k * w) e))) ∙ p ∙ ap (λ (k : ℕ). rounds k x) e

-- the bytes of round i lie within those of all
pub round_room : (i r w : ℕ) → i < r → (i + 1) * w ≤ r * w
round_room i r w h = mul-le (i + 1) w r w (omega arith) (omega arith)
