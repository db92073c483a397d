-- A field by its codes: how they lie in bytes, which bytes of a stream give an element, and the terms that its sums are made of.
use Rattle.std.specs.Prelude.{ℕ, ◌+◌, ◌/◌, ◌%◌, ◌^◌, ◌≤◌, List, map, filter, nat_lt}
use Rattle.field.specs.Ring.{Ops}
use Rattle.field.specs.Codes.{Field}

pub record Coding : Type 0 where
  -- the codes are the numbers below q, each of `bits` bits
  pub q : ℕ
  pub bits : ℕ
  pub ops : Ops ℕ
  pub inv : ℕ → ℕ
  -- the element that a term stands for; a term is below the limit, and has no need to be a code
  pub stands : ℕ → ℕ
  pub limit : ℕ

-- what a field shows; at most 31 codes, of at most five bits, so that buffers sized for these hold every field's vectors
pub record Coded (K : Coding) : Type 0 where
  pub field : Field K.q K.ops K.inv
  pub some : 1 ≤ K.bits
  pub few : K.bits ≤ 5
  pub fits : K.q ≤ 2 ^ K.bits
  pub codes : K.q ≤ 31

-- how many bytes of a stream drawing n elements reads
abbrev pub reads : ℕ → ℕ
reads n = n + n / 8 + 64

-- the elements that bytes of a stream give: the low bits of each, without those that are no code
abbrev pub given : Coding → List ℕ → List ℕ
given K bytes = filter (λ x. nat_lt x K.q) (map (λ b. b % 2 ^ K.bits) bytes)
