use Rattle.params.proofs.Bounds.{bounds}
use Rattle.wire.proofs.Everywhere.{judged_whole}
use Rattle.wire.proofs.check_vectors.Goals as goal

pub returns-clause-judged : goal.returns-clause-judged
returns-clause-judged c = λ g _.
    let k = bounds c.args.set g in
    rw (c.scan.ensures, c.in_ok-set.ensures.set) (judged_whole c.args.encoding.order c.args.encoding.bits c.args.set c.args.signature.now c.args.encoding.some k.some_n k.some_m)
