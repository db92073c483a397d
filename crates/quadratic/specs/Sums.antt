-- The sums of m equations over one list of terms.
use Rattle.std.specs.Prelude.{ℕ, ◌*◌, List, map, drop}
use Rattle.std.specs.List.{range_with_len}
use Rattle.field.specs.Ring.{Ops}
use Rattle.field.specs.Terms.{dot}

-- the coefficients of an equation begin `step` places behind those of the one before
abbrev pub sums : Ops ℕ → ℕ → List ℕ → ℕ → List ℕ → List ℕ
sums o m cs step terms = map (λ e. dot o (drop (e * step) cs) terms) (range_with_len 0 m)
