use Rattle.std.proofs.Common.{◌≡◌, ℕ, ◌+◌, ◌%◌, ◌<◌, get_or, take}
use Rattle.suite_bench.specs.Sums.{lane}
use Rattle.suite_bench.proofs.absorb.Given as goal

abbrev pub invariant-loop-k : goal.invariant-loop-k
invariant-loop-k l = (i : ℕ) → i < 32 → get_or l.out i 0 ≡ (get_or l.initial.out i 0 + lane l.at i (take l.k l.part)) % 256
