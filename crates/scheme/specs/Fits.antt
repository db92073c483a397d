-- Signing and verification fit: what signing gives is accepted under the key that key making made of the same secret key.
use Rattle.std.specs.Prelude.{◌≡◌, ℕ, ◌*◌, ◌≤◌, List, Ok, Result}
use Rattle.refusal.specs.declared.Refusal.{Refusal}
use Rattle.field.specs.Coding.{Coding, reads}
use Rattle.params.specs.declared.Set.{Set}
use Rattle.params.specs.Sizes.{coefficients_of}
use Rattle.suite.specs.Meaning.{Meaning}
use Rattle.keys.specs.Keys.{make_of}
use Rattle.scheme.specs.Signing.{sign_of}

-- lengths of the buffers that a call is lent
pub record Lengths : Type 0 where
  pub map : ℕ
  pub list : ℕ
  pub secret : ℕ
  pub answer : ℕ

-- some secret key of which key making gave the key, and for which signing gave the signature, in whatever buffers
pub record Signed (C : Coding) (M : Meaning) (set : Set) (message key sig : List ℕ) : Type 0 where
  pub secret : List ℕ
  pub making : Lengths
  pub made : make_of C M set making.map making.secret making.answer secret ≡ Ok key
  pub signing : Lengths
  pub signed : sign_of C M set message signing.map signing.list signing.secret signing.answer secret ≡ Ok sig

-- what was signed is accepted, in buffers that are long enough
abbrev pub Fits : Coding → Meaning → Set → List ℕ → ℕ → ℕ → List ℕ → List ℕ → Result (Unit {0}) Refusal → Type 0
Fits C M set message map list key sig r =
    Signed C M set message key sig → reads (coefficients_of set) ≤ map → 64 * set.r ≤ list → r ≡ Ok tt
