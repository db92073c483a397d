-- What drawing elements of a field from a stream gives.
use Rattle.std.specs.Prelude.{◌≡◌, ℕ, ◌≤◌, List, length, take, Ok, Err, Result, nat_le}
use Rattle.refusal.specs.declared.Buffer.TheVariants.{Map}
use Rattle.refusal.specs.declared.Layer.TheVariants.{Suite}
use Rattle.refusal.specs.declared.Refusal.{Refusal}
use Rattle.refusal.specs.declared.Refusal.TheVariants.{BufferLength, SuiteLimit, TooFewElements}
use Rattle.refusal.specs.Outcome.{and_then, unless}
use Rattle.field.specs.Codes.{Codes}
use Rattle.field.specs.Coding.{Coding, given, reads}
use Rattle.suite.specs.Meaning.{Meaning}
use Rattle.suite.specs.Calls.{first}

-- the elements that the first B(n) bytes of a stream give
abbrev pub candidates : Coding → Meaning → ℕ → List ℕ → ℕ → List ℕ
candidates K M label seed n = given K (first (M.e label seed) (reads n))

-- the first n of them; refused exactly where fewer remain
abbrev pub drawn : Coding → Meaning → ℕ → List ℕ → ℕ → Result (List ℕ) Refusal
drawn K M label seed n =
    and_then (unless (nat_le n (length (candidates K M label seed n))) (TooFewElements label)) (λ _.
    Ok (take n (candidates K M label seed n)))

-- the call that draws into a buffer of `room` bytes
abbrev pub draw_of : Coding → Meaning → ℕ → List ℕ → ℕ → ℕ → Result (List ℕ) Refusal
draw_of K M label seed n room =
    and_then (unless (nat_le (reads n) room) (BufferLength Suite Map)) (λ _.
    and_then (unless (nat_le (reads n) 262144) (SuiteLimit label)) (λ _.
    drawn K M label seed n))

-- the front of the buffer is what was drawn, where anything was
abbrev pub Holds : Result (List ℕ) Refusal → List ℕ → Type 0
Holds (Ok ys) xs = xs ≡ ys
Holds (Err e) xs = Unit {0}

-- n elements, each of them a code
pub record Elements (q n : ℕ) (xs : List ℕ) : Type 0 where
  pub long : length xs ≡ n
  pub codes : Codes q xs

-- what was drawn are n elements, and a stream that gives enough is not refused
pub record Draws (K : Coding) (M : Meaning) (label : ℕ) (seed : List ℕ) (n room : ℕ) (r : Result (Unit {0}) Refusal) (front : List ℕ) : Type 0 where
  pub elements : r ≡ Ok tt → Elements K.q n front
  pub enough : reads n ≤ room → reads n ≤ 262144 → n ≤ length (candidates K M label seed n) → r ≡ Ok tt
