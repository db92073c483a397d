use Rattle.std.proofs.Common.{◌*◌, ◌%◌, ◌++◌, get_or}
use Rattle.wire.specs.Layout.{part}
use Rattle.scheme.specs.Verifying.{commitment_of, other_in}
use Rattle.scheme.proofs.Writes.{Written}
use Rattle.verification.proofs.verifier.Verifier.write_list.Given as goal

abbrev pub invariant-loop-i : goal.invariant-loop-i
invariant-loop-i g l = Written (λ j. commitment_of (get_or l.self.bits.now j 0 % 2) 0 (part l.commitments.1.1.0.now (j * 32) 32) (other_in l.commitments.0.encoding.bits l.commitments.0.set.set l.commitments.1.0.now j) ++ commitment_of (get_or l.self.bits.now j 0 % 2) 1 (part l.commitments.1.1.0.now (j * 32) 32) (other_in l.commitments.0.encoding.bits l.commitments.0.set.set l.commitments.1.0.now j)) 64 l.i l.list
