use Rattle.params.proofs.Bounds.{bounds, terms_few}
use Rattle.params.proofs.good.GoodSet.coefficients.Goals as goal

pub returns-clause-few : goal.returns-clause-few
returns-clause-few c =
    let b = bounds c.args.self.set c.args.self.good in
    terms_few c.args.self.set.n c.args.self.set.m b.few_n b.few_m
