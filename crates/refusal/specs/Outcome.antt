-- What a call comes to: its answer, or the first refusal. Assumes nothing.
use Rattle.std.specs.Prelude.{ℕ, Bool, cond, List, replicate, Ok, Err, Result}
use Rattle.refusal.specs.declared.Refusal.{Refusal}

-- one after the other, the first refusal told
abbrev pub and_then : {A B : Type 0} → Result A Refusal → (A → Result B Refusal) → Result B Refusal
and_then (Ok a) f = f a
and_then (Err e) f = Err e

-- nothing to answer where b holds, else the refusal
abbrev pub unless : Bool → Refusal → Result (Unit {0}) Refusal
unless b e = cond b (Ok tt) (Err e)

-- the answer of a call that writes its bytes
abbrev pub told : {A : Type 0} → Result A Refusal → Result (Unit {0}) Refusal
told (Ok a) = Ok tt
told (Err e) = Err e

-- the n bytes of its buffer then: what it makes, or zeros
abbrev pub written : ℕ → Result (List ℕ) Refusal → List ℕ
written n (Ok bytes) = bytes
written n (Err e) = replicate n 0
