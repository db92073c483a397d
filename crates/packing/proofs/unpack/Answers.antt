use Rattle.std.proofs.Common.{length, rules}
use Rattle.packing.specs.Packed.{signature_refusal_of}
use Rattle.packing.specs.Laws.{Wrong}
use Rattle.packing.proofs.Earliest.{judged}
use Rattle.packing.proofs.Outcomes.{judged_by}
use Rattle.packing.proofs.unpack.Goals as goal

pub returns-clause-judged : goal.returns-clause-judged
returns-clause-judged c = λ long.
    judged_by (signature_refusal_of c.args.encoding.bits 0 (length c.args.out.now)) c.args.encoding.order c.args.encoding.bits (length c.args.out.now) c.args.bytes.now long
    (Wrong c.args.encoding.order c.args.encoding.bits 0 (length c.args.out.now) c.args.bytes.now) c.unpack_with.result
    (judged c.args.encoding.order c.args.encoding.bits (length c.args.out.now) c.args.bytes.now 0 c.args.encoding.some)
    (c.unpack_with.ensures.answer _ (λ x r h p. search rules))
