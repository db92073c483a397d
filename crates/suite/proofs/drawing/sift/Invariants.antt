use Rattle.suite.proofs.Sifts.{Sifting}
use Rattle.suite.proofs.drawing.sift.Given as goal

abbrev pub invariant-loop-i : goal.invariant-loop-i
invariant-loop-i l = Sifting l.encoding.order l.encoding.bits l.initial.part l.part l.found l.i
