use Rattle.std.proofs.Common.{◌+◌, ◌*◌, ◌%◌, get_or}
use Rattle.wire.specs.Layout.{part}
use Rattle.scheme.specs.Rounds.{chosen_by_bit}
use Rattle.scheme.proofs.Writes.{Written}
use Rattle.signing.proofs.response.carry.Given as goal

abbrev pub invariant-loop-i : goal.invariant-loop-i
invariant-loop-i l = Written (λ j. chosen_by_bit (get_or l.bits j 0 % 2) (part l.list (j * 64 + 32) 32) (part l.list (j * 64) 32)) 32 l.i l.out
