use Rattle.std.proofs.Common.{◌∙◌, arith}
use Rattle.verification.proofs.Flattened.{flattened}
use Rattle.verification.proofs.verifier.Verifier.open_all.Goals as goal

pub returns : goal.returns
returns g c = flattened _ c.args.self.now.instance.now.set.set.r c.loop-i.half (c.loop-i.auto.half ∙ c.requires) (λ k l. c.loop-i.invariant k (omega arith))
