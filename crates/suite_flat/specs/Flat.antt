-- The two functions of the flat suite: a digest of the label alone, and the bench suite's stream.
use Rattle.std.specs.Prelude.{ℕ, ◌+◌, ◌%◌, replicate}
use Rattle.suite.specs.Meaning.{Meaning}
use Rattle.suite_bench.specs.Sums.{bench_meaning}

abbrev pub flat_meaning : ℕ → Meaning
flat_meaning shift = record { d = λ label x. replicate 32 ((label + shift) % 256); e = bench_meaning.e }
