use Rattle.std.proofs.Common.{length, rules}
use Rattle.packing.specs.Packed.{key_refusal_of}
use Rattle.packing.specs.Laws.{KeyWrong}
use Rattle.packing.proofs.Earliest.{judged_key}
use Rattle.packing.proofs.Outcomes.{judged_by}
use Rattle.packing.proofs.unpack_key.Goals as goal

pub returns-clause-judged : goal.returns-clause-judged
returns-clause-judged c = λ long.
    judged_by (key_refusal_of (length c.args.out.now)) c.args.encoding.order c.args.encoding.bits (length c.args.out.now) c.args.bytes.now long
    (KeyWrong c.args.encoding.order c.args.encoding.bits (length c.args.out.now) c.args.bytes.now) c.unpack_with.result
    (judged_key c.args.encoding.order c.args.encoding.bits (length c.args.out.now) c.args.bytes.now)
    (c.unpack_with.ensures.answer _ (λ x r h p. search rules))
