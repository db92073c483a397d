-- So many turns, so many permutations.
use Rattle.std.proofs.Common.{◌≡◌}
use Rattle.sha3.specs.Sponge.{later}
use Rattle.export.proofs.hashes.permute_often.Given as goal

abbrev pub invariant-loop : goal.invariant-loop
invariant-loop l = l.a ≡ later l.counter l.initial.a
