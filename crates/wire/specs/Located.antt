-- The vector that holds a byte of a signature.
use Rattle.std.specs.Prelude.{◌≡◌, ℕ, ◌+◌, ◌<◌, ◌≤◌, true, Some, None, Option, List, codes}
use Rattle.packing.specs.Packed.{width}
use Rattle.params.specs.declared.Set.{Set}
use Rattle.params.specs.Sets.{good}
use Rattle.wire.specs.declared.locate.Kind.{Kind}
use Rattle.wire.specs.declared.locate.Kind.TheVariants.{T1, E1, Response}
use Rattle.wire.specs.declared.locate.Vector.{Vector}
use Rattle.wire.specs.Layout.{t1_at, e1_at, response_at}

-- a vector's name in the scheme
abbrev pub name_of : Kind → List ℕ
name_of T1 = codes "t1"
name_of E1 = codes "e1"
name_of Response = codes "response"

-- where a vector of a round begins, and its elements
abbrev pub start_of : ℕ → Set → Kind → ℕ → ℕ
start_of b s T1 i = t1_at b s i
start_of b s E1 i = e1_at b s i
start_of b s Response i = response_at b s i

abbrev pub elements_of : Set → Kind → ℕ
elements_of s T1 = s.n
elements_of s E1 = s.m
elements_of s Response = s.n

-- the byte lies in the vector of kind k of round i
pub record Lies (b : ℕ) (s : Set) (place : ℕ) (k : Kind) (i : ℕ) : Type 0 where
  pub round : i < s.r
  pub from : start_of b s k i ≤ place
  pub until : place < start_of b s k i + width b (elements_of s k)

pub record Found (b : ℕ) (s : Set) (place : ℕ) (v : Vector) : Type 0 where
  pub lies : Lies b s place v.kind v.round
  pub at : v.at ≡ start_of b s v.kind v.round
  pub elements : v.elements ≡ elements_of s v.kind

-- the vector that holds it, or none does
abbrev pub Locates : ℕ → Set → ℕ → Option Vector → Type 0
Locates b s place (Some v) = Found b s place v
Locates b s place None = good s ≡ true → (k : Kind) (i : ℕ) → Lies b s place k i → ⊥
