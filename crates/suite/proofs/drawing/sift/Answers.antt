use Rattle.std.proofs.Common.{◌≡◌, ℕ, ◌%◌, ◌^◌, get_or, ◌∙◌}
use Rattle.packing.proofs.Faults.{masked}
use Rattle.suite.proofs.Sifts.{sift_past, sift_keep}
use Rattle.suite.proofs.drawing.sift.Goals as goal
use Rattle.suite.proofs.drawing.sift.Goals.{then-from-encoding, else-from-encoding}

pub loop-i-preserved : goal.loop-i-preserved
loop-i-preserved c =
    let y : ℕ = get_or c.loop-i.part c.loop-i.i 0 in
    let x : ℕ = c.from.result in
    let low : x ≡ y % 2 ^ c.args.encoding.bits = c.from.ensures ∙ masked y c.args.encoding.bits c.args.encoding.few in
    elim c.if-from-encoding.branch [
      | then-from-encoding w ↦ rw (w.part-is, w.found-is, ← c.from.ensures) (sift_keep c.loop-i.invariant x low c.loop-i-test.true w.if-from-encoding.true)
      | else-from-encoding w ↦ rw (w.part-is, w.found-is) (sift_past c.loop-i.invariant x low c.loop-i-test.true w.if-from-encoding.false)
    ]
