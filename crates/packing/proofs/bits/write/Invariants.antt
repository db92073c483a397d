use Rattle.packing.proofs.Packing.{Packing}
use Rattle.packing.proofs.bits.write.Given as goal

abbrev pub invariant-loop-x : goal.invariant-loop-x
invariant-loop-x l = Packing l.encoding.bits l.v l.out l.x-index l.j l.held l.bits
