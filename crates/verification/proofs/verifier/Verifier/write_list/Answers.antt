use Rattle.std.proofs.Common.{◌%◌, get_or, ap, ◌∙◌, arith}
use Rattle.scheme.proofs.Writes.{written_none, written_more, written_all, round_room}
use Rattle.verification.proofs.Joined.{joined_rounds}
use Rattle.verification.proofs.verifier.Verifier.write_list.Goals as goal

pub loop-i-init : goal.loop-i-init
loop-i-init g c = written_none _ 64 c.args.list.now

pub loop-i-preserved : goal.loop-i-preserved
loop-i-preserved g c =
    written_more _ 64 c.loop-i.i c.loop-i.list c.write_round.new.out _ c.loop-i.invariant (omega (arith, round_room c.loop-i.i c.args.self.now.instance.now.set.set.r 64 c.loop-i-test.true)) (omega arith) c.write_round.ensures

pub returns : goal.returns
returns g c =
    let self = c.args.self.now in
    written_all _ 64 self.instance.now.set.set.r c.loop-i.i c.loop-i.list c.loop-i.invariant (omega arith) (c.loop-i.auto.list ∙ c.requires)
    ∙ joined_rounds g.F.Field.coding (g.S.Suite.meaning self.instance.now.suite.now) (g.met.S.Suite.lawful self.instance.now.suite.now) self.instance.now.set.set
    self.instance.now.map.cs.now self.v.now self.signature.now.bytes.now (λ i. get_or self.alphas.now i 0) (λ i. get_or self.bits.now i 0 % 2)
    c.layout.result.encoding.bits c.layout.result.set.set c.as_flattened.result.now c.layout.ensures.bits (ap (λ s. s.set) c.layout.ensures.set ∙ self.same) (c.as_flattened.ensures.value ∙ c.open_all.ensures)
