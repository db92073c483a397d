use Rattle.std.proofs.Common.{◌≡◌, ℕ, ◌*◌, ◌<◌, map, get_or, drop}
use Rattle.field.specs.Terms.{dot}
use Rattle.quadratic.proofs.terms.add_up.Given as goal

abbrev pub invariant-loop-k : goal.invariant-loop-k
invariant-loop-k g l =
    ((j : ℕ) → j < l.k → get_or l.out j 0 ≡ dot g.F.Field.coding.ops (drop (j * l.step) l.cs) (map g.F.Field.coding.stands l.terms))
    × ((j : ℕ) → j < l.k → get_or l.out j 0 < g.F.Field.coding.q)
