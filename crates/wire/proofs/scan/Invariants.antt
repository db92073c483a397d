use Rattle.wire.proofs.Rounds.{Firsts, Responses}
use Rattle.wire.proofs.scan.Given as goal

abbrev pub invariant-loop-i : goal.invariant-loop-i
invariant-loop-i l = Firsts l.layout.encoding.order l.layout.encoding.bits l.layout.set.set l.signature l.i

abbrev pub invariant-loop-j : goal.invariant-loop-j
invariant-loop-j l = Responses l.layout.encoding.order l.layout.encoding.bits l.layout.set.set l.signature l.j
