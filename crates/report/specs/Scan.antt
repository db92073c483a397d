-- What a report of `scan` holds.
use Rattle.std.specs.Prelude.{◌≡◌, ℕ, List, length, Some, None, Ok, Err, Option, Result}
use Rattle.refusal.specs.declared.Refusal.{Refusal}
use Rattle.refusal.specs.Numbers.{numbers_of}
use Rattle.packing.specs.Packed.{width, fault}
use Rattle.params.specs.declared.Set.{Set}
use Rattle.wire.specs.Layout.{part, vectors_of}
use Rattle.wire.specs.Located.{Found}
use Rattle.gf31.specs.Modulo.{coding31}
use Rattle.report.specs.declared.scan.Report.{Report}
use Rattle.report.specs.declared.scan.Spot.{Spot}

-- the vector that holds the byte, and what is wrong with it
pub record Spots (q b : ℕ) (s : Set) (sig : List ℕ) (place : ℕ) (x : Spot) : Type 0 where
  pub vector : Found b s place x.vector
  pub fault : fault q b x.vector.elements (part sig x.vector.at (width b x.vector.elements)) ≡ Err x.fault

-- words that are said are right
abbrev pub Spotted : ℕ → ℕ → Set → List ℕ → ℕ → Option Spot → Type 0
Spotted q b s sig place (Some x) = Spots q b s sig place x
Spotted q b s sig place None = Unit {0}

-- of a refusal, at its place; nothing is said of what is lawful
abbrev pub SpottedBy : ℕ → ℕ → Set → List ℕ → Result (Unit {0}) Refusal → Option Spot → Type 0
SpottedBy q b s sig (Ok u) o = o ≡ None
SpottedBy q b s sig (Err e) o = Spotted q b s sig (numbers_of e).2 o

-- the set, the length, the verdict of the check over the field of 31 elements, and where it lies
pub record Reports (s : Set) (sig : List ℕ) (r : Report) : Type 0 where
  pub set : r.set ≡ s
  pub bytes : r.bytes ≡ length sig
  pub verdict : r.verdict ≡ vectors_of coding31.q coding31.bits s sig
  pub spot : SpottedBy coding31.q coding31.bits s sig r.verdict r.spot
