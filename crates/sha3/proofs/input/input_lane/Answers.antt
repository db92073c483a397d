-- A lane that lies in the tail is the tail's.
use Rattle.std.proofs.Common.{sym, ◌∙◌, arith}
use Rattle.sha3.specs.Padding.{filling}
use Rattle.sha3.proofs.Parts.{lane_in_tail}
use Rattle.sha3.proofs.input.input_lane.Goals as goal

pub returns-then-j-tail : goal.returns-then-j-tail
returns-then-j-tail c =
    c.lane-then-j-tail.ensures
    ∙ sym (lane_in_tail c.args.input.message.label.now c.args.input.message.head.now c.args.input.message.tail.now (filling c.args.input.filling.suffix c.args.input.filling.q) c.args.k (omega arith) (omega arith) (omega arith))
