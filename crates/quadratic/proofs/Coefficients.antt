-- A map has as many coefficients as its set says.
use Rattle.std.proofs.Common.{◌≡◌, ◌*◌, refl}
use Rattle.params.specs.declared.Set.{Set}
use Rattle.params.specs.Sizes.{coefficients_of}
use Rattle.algebra.specs.Quad.{size}

pub coefficients_size : (s : Set) → coefficients_of s ≡ s.m * size s.n
coefficients_size s = refl
