use Rattle.std.proofs.Common.{◌≡◌}
use Rattle.sha3.specs.Fed.{fed}
use Rattle.sha3.specs.Sponge.{absorbed}
use Rattle.sha3.proofs.absorb.absorb.Given as goal

abbrev pub invariant-loop-i : goal.invariant-loop-i
invariant-loop-i l = l.s ≡ absorbed l.function.rate (fed l.input) l.i
