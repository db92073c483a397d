use Rattle.std.proofs.Common.{◌≡◌, ℕ, ◌%◌, ◌<◌, get_or, []}
use Rattle.scheme.specs.Verifying.{recomputed}
use Rattle.verification.proofs.verifier.Verifier.open_all.Given as goal

abbrev pub invariant-loop-i : goal.invariant-loop-i
invariant-loop-i g l = (k : ℕ) → k < l.i → get_or l.half k [] ≡ recomputed g.F.Field.coding (g.S.Suite.meaning l.self.instance.now.suite.now) l.self.instance.now.set.set l.self.instance.now.map.cs.now l.self.v.now l.self.signature.now.bytes.now (λ i. get_or l.self.alphas.now i 0) (λ i. get_or l.self.bits.now i 0 % 2) k
