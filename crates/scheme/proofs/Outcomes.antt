-- Calls one after the other: where the last one answers, all before it did.
use Rattle.std.proofs.Common.{◌≡◌, ℕ, Bool, true, false, Ok, Err, Result, refl, arith}
use Rattle.refusal.specs.declared.Refusal.{Refusal}
use Rattle.refusal.specs.Outcome.{and_then, unless, told}

pub then_both : {A B : Type 0} (x : Result A Refusal) (f : A → Result B Refusal) (y : B) → and_then x f ≡ Ok y → (a : A) × ((x ≡ Ok a) × (f a ≡ Ok y))
then_both (Ok a) f y h = (a, (refl, h))
then_both (Err e) f y h =
    let z : ◌≡◌ {A = ℕ} 0 1 = cc in
    absurd (omega arith)

-- where the first has nothing to answer
pub then_parts : {B : Type 0} (x : Result (Unit {0}) Refusal) (f : Unit {0} → Result B Refusal) (y : B) → and_then x f ≡ Ok y → (x ≡ Ok tt) × (f tt ≡ Ok y)
then_parts (Ok tt) f y h = (refl, h)
then_parts (Err e) f y h =
    let z : ◌≡◌ {A = ℕ} 0 1 = cc in
    absurd (omega arith)

pub then_from : {B : Type 0} (x : Result (Unit {0}) Refusal) (f : Unit {0} → Result B Refusal) (y : Result B Refusal) → x ≡ Ok tt → f tt ≡ y → and_then x f ≡ y
then_from x f y h g = rw h g

pub unless_ok : (b : Bool) (e : Refusal) → unless b e ≡ Ok tt → b ≡ true
unless_ok true e h = refl
unless_ok false e h =
    let z : ◌≡◌ {A = ℕ} 0 1 = cc in
    absurd (omega arith)

pub unless_true : (b : Bool) (e : Refusal) → b ≡ true → unless b e ≡ Ok tt
unless_true b e h = rw h

pub told_ok : {A : Type 0} (x : Result A Refusal) → told x ≡ Ok tt → (a : A) × (x ≡ Ok a)
told_ok (Ok a) h = (a, refl)
told_ok (Err e) h =
    let z : ◌≡◌ {A = ℕ} 0 1 = cc in
    absurd (omega arith)
