-- The bench suite's functions give bytes, and its digest 32 of them.
use Rattle.std.proofs.Common.{arith}
use Rattle.suite.specs.Meaning.{Lawful}
use Rattle.suite_bench.specs.Sums.{bench_meaning}
use Rattle.suite_bench.specs.Lanes.{bench_d_length, bench_d_byte}

pub bench_lawful : Lawful bench_meaning
bench_lawful = record { digest_long = bench_d_length; digest_byte = bench_d_byte; stream_byte = λ l x k. omega arith }
