-- What the scheme does once for each round, and what it draws. Assumes nothing.
use Rattle.std.specs.Prelude.{ℕ, zero, suc, ◌/◌, ◌%◌, cond, List, [], ◌∷◌, take, Ok, Result, ◌==◌}
use Rattle.std.specs.List.{range_with_len, flat_map}
use Rattle.refusal.specs.declared.Refusal.{Refusal}
use Rattle.refusal.specs.Outcome.{and_then}
use Rattle.field.specs.Coding.{Coding}
use Rattle.suite.specs.Meaning.{Meaning}
use Rattle.suite.specs.Drawn.{candidates}

-- x(0) ‖ x(1) ‖ .. ‖ x(r - 1)
unfoldable pub rounds : ℕ → (ℕ → List ℕ) → List ℕ
rounds r x = flat_map x (range_with_len 0 r)

-- one call for each of the rounds 0 to r - 1, the first refusal told
unfoldable pub each : ℕ → (ℕ → Result (Unit {0}) Refusal) → Result (Unit {0}) Refusal
each zero call = Ok tt
each (suc r) call = and_then (each r call) (λ _. call r)

-- what drawing n elements gives, where it is not refused
unfoldable pub taken : Coding → Meaning → ℕ → List ℕ → ℕ → List ℕ
taken C M label seed n = take n (candidates C M label seed n)

-- the number of a round, in two bytes
abbrev pub two : ℕ → List ℕ
two i = i % 256 ∷ (i / 256 ∷ [])

-- by a bit: x where it is 0, else y
abbrev pub chosen_by_bit : {A : Type 0} → ℕ → A → A → A
chosen_by_bit bit x y = cond (bit == 0) x y
