-- A block that lies in the head is the head's.
use Rattle.std.proofs.Common.{◌≡◌, ◌==◌, true, length, sym, ◌∙◌, arith}
use Rattle.std.proofs.lemmas.Bool.Decides.{nat_tests}
use Rattle.sha3.specs.Padding.{filling}
use Rattle.sha3.proofs.Parts.{block_in_head}
use Rattle.sha3.proofs.absorb.front_block.Goals as goal

pub returns-then-function-head : goal.returns-then-function-head
returns-then-function-head c =
    let none : length c.args.input.message.label.now ≡ 0 =
    let t : (length c.args.input.message.label.now == 0) ≡ true = sym c.is_empty.ensures ∙ c.if-is_empty.true in grind (arith, nat_tests) in
    c.front.ensures
    ∙ block_in_head c.args.function.rate c.args.input.message.label.now c.args.input.message.head.now c.args.input.message.tail.now (filling c.args.input.filling.suffix c.args.input.filling.q) c.args.function.whole none (omega arith)
