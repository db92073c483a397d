use Rattle.std.proofs.Common.{◌<◌, arith}
use Rattle.scheme.proofs.Writes.{written_none, written_more, round_room}
use Rattle.signing.proofs.response.carry.Goals as goal

pub loop-i-init : goal.loop-i-init
loop-i-init c = written_none _ 32 c.args.out.now

pub loop-i-preserved : goal.loop-i-preserved
loop-i-preserved c =
    let l : c.loop-i.i < c.args.set.set.r = omega (arith, c.loop-i-test.true, c.requires.bits) in
    written_more _ 32 c.loop-i.i c.loop-i.out c.carry_round.new.out _ c.loop-i.invariant (omega (arith, round_room c.loop-i.i c.args.set.set.r 32 l, c.loop-i.auto.out, c.requires.out)) (omega arith) c.carry_round.ensures
