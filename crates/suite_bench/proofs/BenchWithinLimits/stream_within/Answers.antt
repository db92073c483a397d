use Rattle.std.proofs.Common.{length, arith}
use Rattle.std.proofs.lemmas.List.FromFn.{fill_by_all}
use Rattle.suite_bench.specs.Sums.{bench_e}
use Rattle.suite_bench.proofs.BenchWithinLimits.stream_within.Goals as goal

pub returns : goal.returns
returns c =
    fill_by_all (bench_e c.args.label c.args.seed.now) c.loop-k.out (length c.args.out.now) 0 (omega arith) (λ k h. c.loop-k.invariant k (omega arith))
