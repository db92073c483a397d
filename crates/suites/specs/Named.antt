-- What a named suite means.
use Rattle.suite.specs.Meaning.{Meaning}
use Rattle.suite_bench.specs.Sums.{bench_meaning}
use Rattle.suite_keccak.specs.Hashes.{keccak_meaning}
use Rattle.suites.specs.declared.Named.{Named}
use Rattle.suites.specs.declared.Named.TheVariants.{Bench, Keccak}

abbrev pub meaning_of : Named → Meaning
meaning_of Bench = bench_meaning
meaning_of Keccak = keccak_meaning
