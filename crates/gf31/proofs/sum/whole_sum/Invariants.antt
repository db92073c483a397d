use Rattle.std.proofs.Common.{◌≡◌, ◌+◌, ◌*◌, ◌≤◌, drop, length}
use Rattle.gf31.specs.Whole.{whole}
use Rattle.gf31.proofs.sum.whole_sum.Given as goal

abbrev pub invariant-loop-c : goal.invariant-loop-c
invariant-loop-c l = (l.sum + whole (drop (length l.yielded) l.cs) (drop (length l.yielded) l.terms) ≡ whole l.cs l.terms) × (l.sum ≤ 54000 * length l.yielded)
