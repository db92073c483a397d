-- What was drawn: enough elements, and each of them a code.
use Rattle.std.proofs.Common.{◌≡◌, ℕ, ◌<◌, ◌≤◌, leb, List, length, take, Ok, Result, sym, arith}
use Rattle.std.proofs.ByRecursion.{All-get_or}
use Rattle.std.proofs.lemmas.List.{length-take-le, get_or-take}
use Rattle.std.proofs.lemmas.Bool.{le-leb, leb-true}
use Rattle.refusal.specs.declared.Refusal.{Refusal}
use Rattle.refusal.specs.declared.Refusal.TheVariants.{TooFewElements}
use Rattle.refusal.specs.Outcome.{unless, told}
use Rattle.field.specs.Codes.{Vector}
use Rattle.field.specs.Coding.{Coding, reads}
use Rattle.suite.specs.Meaning.{Meaning}
use Rattle.suite.specs.Calls.{first}
use Rattle.suite.specs.Drawn.{candidates, drawn}
use Rattle.suite.proofs.Sifts.{all_sifted}
use Rattle.scheme.specs.Rounds.{taken}
use Rattle.scheme.proofs.Outcomes.{then_parts, told_ok, unless_ok}

module _ (C : Coding) (M : Meaning) (label : ℕ) (seed : List ℕ) (n : ℕ) where
  parts : (xs : List ℕ) → drawn C M label seed n ≡ Ok xs → (n ≤ length (candidates C M label seed n)) × (take n (candidates C M label seed n) ≡ xs)
  parts xs h =
      let p = then_parts (unless (leb n (length (candidates C M label seed n))) (TooFewElements label)) (λ _. Ok (take n (candidates C M label seed n))) xs h in
      let e : ◌≡◌ {A = Result (List ℕ) Refusal} (Ok (take n (candidates C M label seed n))) (Ok xs) = p.1 in
      (leb-true n (length (candidates C M label seed n)) (unless_ok _ (TooFewElements label) p.0), cc)

  -- what is drawn is what is taken
  pub drawn_is : (xs : List ℕ) → drawn C M label seed n ≡ Ok xs → xs ≡ taken C M label seed n
  unfolding taken
  drawn_is xs h = sym (parts xs h).1

  pub drawn_enough : told (drawn C M label seed n) ≡ Ok tt → n ≤ length (candidates C M label seed n)
  drawn_enough h =
      let p = told_ok (drawn C M label seed n) h in
      (parts p.0 p.1).0

  pub enough_drawn : n ≤ length (candidates C M label seed n) → told (drawn C M label seed n) ≡ Ok tt
  enough_drawn h = rw (le-leb n (length (candidates C M label seed n)) h)

  pub taken_codes : n ≤ length (candidates C M label seed n) → Vector C.q n (taken C M label seed n)
  unfolding taken
  taken_codes h =
      let cs : List ℕ = candidates C M label seed n in
      let long : length (take n cs) ≡ n = length-take-le n cs h in
      record {
        long = long;
        codes = λ k l. rw (get_or-take n cs k 0 (omega arith)) (All-get_or (λ x. x < C.q) cs k 0 (omega arith) (all_sifted C.q C.bits (first (M.e label seed) (reads n))));
      }
