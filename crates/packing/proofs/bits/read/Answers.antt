use Rattle.std.proofs.Common.{◌≡◌, ℕ, ◌+◌, ◌<◌, ◌≤◌, List, length, get_or, take, set, sym, ◌∙◌, arith}
use Rattle.std.proofs.lemmas.List.{take_more, take_more_set, take_all}
use Rattle.packing.specs.Packed.{elements}
use Rattle.packing.proofs.Numerals.{length_digits}
use Rattle.packing.proofs.Reading.{element_is, element_more}
use Rattle.packing.proofs.bits.read.Goals as goal

-- one more of the same list
one_more : (out es : List ℕ) (i x : ℕ) → i < length out → i < length es → get_or es i 0 ≡ x → take i out ≡ take i es → take (i + 1) (set out i x) ≡ take (i + 1) es
one_more out es i x a b e s = take_more_set out i x a ∙ rw (s, ← e) (sym (take_more es i 0 b))

pub loop-x-preserved : goal.loop-x-preserved
loop-x-preserved c =
    let h : c.loop-x.x-index < length c.args.out.now = omega arith in
    let es : List ℕ = elements c.args.encoding.bits (length c.args.out.now) c.args.bytes.now in
    let long : length es ≡ length c.args.out.now = length_digits _ _ _ in
    record {
      reading = element_more c.loop-x.invariant.reading h _ _ c.take.ensures.number c.take.ensures.left;
      written = one_more c.loop-x.out es c.loop-x.x-index _ (omega arith) (omega arith) (element_is c.loop-x.invariant.reading h ∙ sym c.take.ensures.value) c.loop-x.invariant.written;
    }

pub returns : goal.returns
returns c =
    let es : List ℕ = elements c.args.encoding.bits (length c.args.out.now) c.args.bytes.now in
    let long : length es ≡ length c.args.out.now = length_digits _ _ _ in
    let n : ℕ = c.loop-x.x-index in
    let a : length c.loop-x.out ≤ n = omega arith in
    let b : length es ≤ n = omega arith in
    sym (take_all n c.loop-x.out a) ∙ c.loop-x.invariant.written ∙ take_all n es b
