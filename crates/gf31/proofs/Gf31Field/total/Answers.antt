use Rattle.std.proofs.Common.{ℕ, ◌%◌, ap, ◌∙◌}
use Rattle.gf31.proofs.Wholes.{whole_dot}
use Rattle.gf31.proofs.Gf31Field.total.Goals as goal

pub returns-clause-sum : goal.returns-clause-sum
returns-clause-sum c = ap (λ (n : ℕ). n % 31) c.whole_sum.ensures.value ∙ whole_dot c.args.cs.now c.args.terms.now
