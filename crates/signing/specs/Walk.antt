-- What a walk over the rounds asks of the call that it makes in each of them, and what it makes of that call's answers.
use Rattle.std.specs.Prelude.{◌≡◌, ℕ, ◌<◌, List, length}
use denote.Ref.{Bor, MutBor}
use Rattle.suite.specs.Drawn.{Elements}

-- It may be called in each of the r rounds, with the round's n elements, room to work in, and a part of w bytes.
abbrev pub Takes : (ℕ → Bor (List ℕ) → MutBor (List ℕ) → MutBor (List ℕ) → Type 0) → ℕ → ℕ → ℕ → ℕ → Type 0
Takes pre q n r w = (i : ℕ) (drawn : Bor (List ℕ)) (work part : MutBor (List ℕ)) → i < r → Elements q n drawn.now → length part.now ≡ w → pre i drawn work part

-- With the elements that round i drew, it leaves x i in the part.
abbrev pub Leaves : (ℕ → Bor (List ℕ) → MutBor (List ℕ) → MutBor (List ℕ) → Unit {0} → MutBor (List ℕ) → MutBor (List ℕ) → Type 0) → (ℕ → List ℕ) → ℕ → ℕ → (ℕ → List ℕ) → Type 0
Leaves post pool r w x =
    (i : ℕ) (drawn : Bor (List ℕ)) (work part work_after part_after : MutBor (List ℕ)) → i < r → drawn.now ≡ pool i → length part.now ≡ w
    → post i drawn work part tt work_after part_after → part_after.now ≡ x i
