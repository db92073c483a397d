-- Where the vectors of a round lie, of widths that a program worked out.
use Rattle.std.proofs.Common.{◌≡◌, ℕ, ◌+◌, ◌*◌, ap₂}
use Rattle.packing.specs.Packed.{width}
use Rattle.params.specs.declared.Set.{Set}
use Rattle.wire.specs.Layout.{t1_at, e1_at, response_at}

module _ (b : ℕ) (set : Set) (x y i : ℕ) (ex : x ≡ width b set.n) (ey : y ≡ width b set.m) where
  pub t1_at_lem : 64 + i * (x + y) ≡ t1_at b set i
  t1_at_lem = ap₂ (λ (k j : ℕ). 64 + i * (k + j)) ex ey

  pub e1_at_lem : 64 + i * (x + y) + x ≡ e1_at b set i
  e1_at_lem = ap₂ (λ (k j : ℕ). 64 + i * (k + j) + k) ex ey

  pub response_at_lem : 64 + set.r * (x + y) + i * x ≡ response_at b set i
  response_at_lem = ap₂ (λ (k j : ℕ). 64 + set.r * (k + j) + i * k) ex ey
