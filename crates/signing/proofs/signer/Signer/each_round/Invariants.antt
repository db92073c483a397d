use Rattle.std.proofs.Common.{◌≡◌, ℕ, List, Ok}
use Rattle.scheme.specs.Rounds.{each}
use Rattle.scheme.specs.Signing.{pool}
use Rattle.scheme.proofs.Writes.{Written}
use Rattle.signing.specs.Walk.{Leaves}
use Rattle.signing.proofs.Walks.{drew}
use Rattle.signing.proofs.signer.Signer.each_round.Given as goal

abbrev pub invariant-loop-i : goal.invariant-loop-i
invariant-loop-i g l =
    (each l.i (drew g.F.Field.coding (g.S.Suite.meaning l.self.instance.suite.now) l.self.instance.set.set l.self.k.now l.self.d.now) ≡ Ok tt)
    × ((x : ℕ → List ℕ)
    → Leaves (goal.T-post g l.give) (pool g.F.Field.coding (g.S.Suite.meaning l.self.instance.suite.now) l.self.instance.set.set l.self.k.now l.self.d.now) l.self.instance.set.set.r l.size x
    → Written x l.size l.i l.out)
