use Rattle.std.proofs.Common.{◌≡◌, ℕ, ◌<◌, get_or}
use Rattle.suite_bench.specs.Sums.{bench_e}
use Rattle.suite_bench.proofs.BenchWithinLimits.stream_within.Given as goal

abbrev pub invariant-loop-k : goal.invariant-loop-k
invariant-loop-k l = (i : ℕ) → i < l.k → get_or l.out i 0 ≡ bench_e l.label l.seed i
