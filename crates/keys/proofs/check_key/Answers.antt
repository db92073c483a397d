use Rattle.std.proofs.Common.{◌≡◌, ◌-◌, length, take, drop, sym, ◌∙◌, rules}
use Rattle.packing.specs.Packed.{fault, refusing, key_refusal_of}
use Rattle.params.specs.Sizes.{key_length}
use Rattle.keys.proofs.Checked.{checked}
use Rattle.keys.proofs.check_key.Goals as goal

pub returns : goal.returns
returns g c =
    let long : length c.args.key.now ≡ key_length g.F.Field.coding.bits c.args.set = c.if-key_len.false ∙ c.key_len.ensures ∙ search rules in
    let verdict : c.map_err.result ≡ refusing (key_refusal_of c.args.set.m) (fault c.encoding-encoding.result.order c.encoding-encoding.result.bits c.args.set.m (take (length c.args.key.now - 32) (drop 32 c.args.key.now))) = search rules in
    let w = checked g.F.Field.coding.q g.F.Field.coding.bits c.args.set c.args.key.now (sym c.in_ok-check.ensures.answer) long _ _ _ c.encoding-encoding.ensures.order c.encoding-encoding.ensures.bits verdict in
    record { answer = w.answer; judged = λ _ _. w.judged }
