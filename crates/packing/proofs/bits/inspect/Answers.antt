use Rattle.std.proofs.Common.{◌≡◌, ℕ, List, length, sym, arith}
use Rattle.packing.specs.Packed.{elements}
use Rattle.packing.proofs.Faults.{at_code}
use Rattle.packing.proofs.Firsts.{first_past}
use Rattle.packing.proofs.Numerals.{length_digits}
use Rattle.packing.proofs.Reading.{element_is, element_more}
use Rattle.packing.proofs.bits.inspect.Goals as goal

pub returns-then-from-encoding : goal.returns-then-from-encoding
returns-then-from-encoding c =
    let is = element_is c.loop-i.invariant.reading c.loop-i-test.true in
    sym (at_code c.args.encoding.order c.args.encoding.bits c.args.k c.args.bytes.now c.loop-i.i c.loop-i.invariant.codes c.loop-i-test.true (omega (arith, is, c.take.ensures.value, c.if-from-encoding.true)))

pub loop-i-preserved : goal.loop-i-preserved
loop-i-preserved c =
    let is = element_is c.loop-i.invariant.reading c.loop-i-test.true in
    let es : List ℕ = elements c.args.encoding.bits c.args.k c.args.bytes.now in
    let long : length es ≡ c.args.k = length_digits _ _ _ in
    record {
      reading = element_more c.loop-i.invariant.reading c.loop-i-test.true _ _ c.take.ensures.number c.take.ensures.left;
      codes = first_past c.args.encoding.order es c.loop-i.invariant.codes (omega (arith, c.loop-i-test.true)) (omega (arith, is, c.take.ensures.value, c.if-from-encoding.false));
    }
