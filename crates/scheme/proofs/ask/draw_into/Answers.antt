use Rattle.std.proofs.Common.{length, take}
use Rattle.scheme.proofs.Taken.{drew}
use Rattle.scheme.proofs.ask.draw_into.Goals as goal

pub returns : goal.returns
returns g c =
    let w = drew g.F.Field.coding (g.S.Suite.meaning c.args.suite.now) c.args.label c.args.seed.now c.args.count (length c.args.buffer.now) c.requires.few c.requires.room c.draw.result (take c.args.count c.draw.new.buffer) c.draw.ensures.answer c.draw.ensures.front c.draw.ensures.law in
    record { answer = w.answer; front = w.front; elements = w.elements }
