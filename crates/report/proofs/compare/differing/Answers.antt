-- The pairs that the filter leaves are as many as the places.
use Rattle.std.proofs.Common.{not, ◌==◌, ◌∙◌, rules, tests}
use Rattle.std.proofs.lemmas.Iterator.{YieldsList-from_slice, YieldsList-from_zip}
use Rattle.std.proofs.lemmas.Iterator.Consumers.{YieldsList-from_filter, count_from_yields_List}
use Rattle.report.proofs.Places.{differing-zip}
use Rattle.report.proofs.compare.differing.Goals as goal

pub returns : goal.returns
returns c =
    count_from_yields_List c.filter.result _ c.count.ensures.ran
    (YieldsList-from_filter _ (λ p. not (p.0 == p.1))
    (YieldsList-from_zip (YieldsList-from_slice c.args.a.now cc) (YieldsList-from_slice c.args.b.now cc))
    c.filter.ensures.closure (λ x r q k. search (rules, tests)))
    ∙ differing-zip c.args.a.now c.args.b.now
