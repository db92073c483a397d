-- What a drawing gave, in the scheme's words.
use Rattle.std.proofs.Common.{◌≡◌, ℕ, ◌≤◌, List, Ok, Err, Result, sym, ap, ◌∙◌, arith}
use Rattle.refusal.specs.declared.Refusal.{Refusal}
use Rattle.refusal.specs.Outcome.{told}
use Rattle.field.specs.Coding.{Coding, reads}
use Rattle.suite.specs.Meaning.{Meaning}
use Rattle.suite.specs.Drawn.{drawn, draw_of, Holds, Elements, Draws}
use Rattle.suite.proofs.Draws.{limited}
use Rattle.scheme.specs.Rounds.{taken}
use Rattle.scheme.proofs.Draws.{drawn_is}

-- what stands in front of the buffer of a call that answered
held : (x : Result (List ℕ) Refusal) (ys : List ℕ) → told x ≡ Ok tt → Holds x ys → x ≡ Ok ys
held (Ok a) ys h s = ap Ok (sym s)
held (Err d) ys h s =
    let z : ◌≡◌ {A = ℕ} 0 1 = cc in
    absurd (omega arith)

module _ (C : Coding) (M : Meaning) (label : ℕ) (seed : List ℕ) (n room : ℕ) (few : n ≤ 137216) (fits : reads n ≤ room) where
  within : draw_of C M label seed n room ≡ drawn C M label seed n
  within = limited C M label seed n room fits (omega arith)

  pub record Drew (r : Result (Unit {0}) Refusal) (xs : List ℕ) : Type 0 where
    pub answer : r ≡ told (drawn C M label seed n)
    pub front : r ≡ Ok tt → xs ≡ taken C M label seed n
    pub elements : r ≡ Ok tt → Elements C.q n xs

  pub drew : (r : Result (Unit {0}) Refusal) (front : List ℕ) → r ≡ told (draw_of C M label seed n room) → Holds (draw_of C M label seed n room) front → Draws C M label seed n room r front → Drew r front
  drew r front a h d = record {
    answer = a ∙ ap told within;
    front = λ ok. drawn_is C M label seed n front (sym within ∙ held (draw_of C M label seed n room) front (sym a ∙ ok) h);
    elements = d.elements;
  }
