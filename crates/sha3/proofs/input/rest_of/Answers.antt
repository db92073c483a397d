-- What is left, by the part that the place lies in.
use Rattle.std.proofs.Common.{◌-◌, List, ℕ, [], ◌++◌, length, ap, ◌∙◌, arith, length-append}
use Rattle.std.proofs.lemmas.List.{take_rest}
use Rattle.sha3.specs.Padding.{filling}
use Rattle.sha3.specs.Fed.{joint}
use Rattle.sha3.proofs.Parts.{rest_head, rest_tail}
use Rattle.sha3.proofs.input.rest_of.Goals as goal

pub returns-then-i-head : goal.returns-then-i-head
returns-then-i-head c =
    let m = c.args.input.message in
    let f = filling c.args.input.filling.suffix c.args.input.filling.q in
    ap (λ (h : List ℕ). joint [] h m.tail.now ++ f) (take_rest m.head.now (c.args.at - length m.label.now))
    ∙ rest_head m.label.now m.head.now m.tail.now f c.args.at (omega arith) (omega arith)

pub returns : goal.returns
returns c =
    let m = c.args.input.message in
    let f = filling c.args.input.filling.suffix c.args.input.filling.q in
    ap (λ (h : List ℕ). joint [] h [] ++ f) (take_rest m.tail.now (c.args.at - length m.label.now - length m.head.now))
    ∙ rest_tail m.label.now m.head.now m.tail.now f c.args.at (omega arith) (omega arith)
    (omega (arith, c.requires, length-append m.label.now (m.head.now ++ m.tail.now), length-append m.head.now m.tail.now))
