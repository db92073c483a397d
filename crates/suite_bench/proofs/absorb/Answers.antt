use Rattle.std.proofs.Common.{arith}
use Rattle.suite_bench.specs.Lanes.{absorb_more}
use Rattle.suite_bench.proofs.absorb.Goals as goal

pub loop-k-preserved : goal.loop-k-preserved
loop-k-preserved c =
    absorb_more c.loop-k.out c.args.out.now c.args.part.now c.args.at c.loop-k.k
    (omega arith) c.loop-k-test.true c.loop-k.invariant
