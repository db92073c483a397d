use Rattle.std.proofs.Common.{◌≡◌, ℕ, ◌+◌, List, ◌++◌, length, ap, arith}
use Rattle.std.proofs.lemmas.List.{get_or-replicate}
use Rattle.suite_bench.specs.Sums.{lane}
use Rattle.suite_bench.specs.Lanes.{bench_d_is, lane_append}
use Rattle.suite_bench.proofs.BenchWithinLimits.digest_within.Goals as goal

pub absorb-requires-clause-bytes : goal.absorb-requires-clause-bytes
absorb-requires-clause-bytes c = λ i il. omega (arith, get_or-replicate 32 i c.args.label 0 il)

pub returns : goal.returns
returns c =
    let head : List ℕ = c.args.head.now in
    let tail : List ℕ = c.args.tail.now in
    bench_d_is c.args.label (head ++ tail) c.absorb-2.new.out (omega arith)
    (λ i il.
    let first = get_or-replicate 32 i c.args.label 0 il in
    let joined = lane_append 0 i head tail in
    let z : lane (0 + length head) i tail ≡ lane (length head) i tail = ap (λ n. lane n i tail) (omega arith) in
    let a = c.absorb.ensures i il in
    let b = c.absorb-2.ensures i il in
    omega arith)
