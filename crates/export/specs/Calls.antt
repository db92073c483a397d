-- What a call from C comes to: a status, and what its buffers hold.
use Rattle.std.specs.Prelude.{ℕ, cond, List, [], ◌∷◌, replicate, Some, None, Ok, Err, Option, Result, ◌==◌}
use Rattle.refusal.specs.declared.Refusal.{Refusal}
use Rattle.refusal.specs.Numbers.{numbers_of}
use Rattle.refusal.specs.Outcome.{written}
use Rattle.params.specs.declared.Set.{Set}
use Rattle.suite.specs.Meaning.{Meaning}
use Rattle.suites.specs.declared.Named.{Named}
use Rattle.suites.specs.declared.Named.TheVariants.{Bench, Keccak}
use Rattle.suites.specs.Named.{meaning_of}

-- a call that is done or not: 0, or 1 with zeros in its buffer of n places
abbrev pub status_of : {A : Type 0} → Option A → ℕ
status_of (Some a) = 0
status_of None = 1

abbrev pub bytes_of : ℕ → Option (List ℕ) → List ℕ
bytes_of n (Some bytes) = bytes
bytes_of n None = replicate n 0

-- a call that answers or refuses: 0 or 1, and 2 where it is no call
abbrev pub answer_of : {A : Type 0} → Option (Result A Refusal) → ℕ
answer_of (Some (Ok a)) = 0
answer_of (Some (Err e)) = 1
answer_of None = 2

-- number, layer and place of a refusal; else n zeros
abbrev pub numbers_in : {A : Type 0} → ℕ → Option (Result A Refusal) → List ℕ
numbers_in n (Some (Ok a)) = 0 ∷ 0 ∷ 0 ∷ []
numbers_in n (Some (Err e)) = (numbers_of e).0 ∷ (numbers_of e).1 ∷ (numbers_of e).2 ∷ []
numbers_in n None = replicate n 0

-- an answer buffer of n bytes
abbrev pub written_by : ℕ → Option (Result (List ℕ) Refusal) → List ℕ
written_by n (Some outcome) = written n outcome
written_by n None = replicate n 0

abbrev pub set_by : ℕ → ℕ → ℕ → Set
set_by n m r = record { n = n; m = m; r = r }

-- the suite of a number, as in the header of a bundle
abbrev pub suite_of : ℕ → Option Named
suite_of number = cond (number == 0) (Some Bench) (cond (number == 1) (Some Keccak) None)

-- what a call comes to that has three places for the numbers of a refusal
abbrev pub heard : {A : Type 0} → ℕ → A → Option A
heard places outcome = cond (places == 3) (Some outcome) None

abbrev pub under : {A : Type 0} → Option Named → (Meaning → A) → Option A
under (Some s) f = Some (f (meaning_of s))
under None f = None

-- and the suite of a number
abbrev pub asked : {A : Type 0} → ℕ → ℕ → (Meaning → A) → Option A
asked places number f = cond (places == 3) (under (suite_of number) f) None
