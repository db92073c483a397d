-- A walk over the rounds: what each drawing answers, and the part of `out` that a round is given.
use Rattle.std.proofs.Common.{◌≡◌, ℕ, ◌+◌, ◌-◌, ◌≤◌, List, length, take, drop, Result, arith, length-drop, length-take}
use Rattle.refusal.specs.declared.Refusal.{Refusal}
use Rattle.refusal.specs.Outcome.{told}
use Rattle.field.specs.Coding.{Coding}
use Rattle.params.specs.declared.Set.{Set}
use Rattle.suite.specs.Meaning.{Meaning}
use Rattle.suite.specs.Drawn.{drawn}
use Rattle.scheme.specs.Signing.{round_seed, pool_size}

-- what round j's drawing answers
abbrev pub drew : Coding → Meaning → Set → List ℕ → List ℕ → ℕ → Result (Unit {0}) Refusal
drew C M set K D j = told (drawn C M 10 (round_seed M K D j) (pool_size set))

-- the part of one round has its length
pub part_long : (out : List ℕ) (a w : ℕ) → a + w ≤ length out → length (take (a + w - a) (drop a out)) ≡ w
part_long out a w h = simp (length-take, length-drop) (omega arith)
