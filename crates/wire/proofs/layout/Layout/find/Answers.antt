use Rattle.params.proofs.Bounds.{bounds}
use Rattle.wire.proofs.Locating.{found, lies_e1}
use Rattle.wire.proofs.layout.Layout.find.Goals as goal

pub returns : goal.returns
returns c =
    let v = c.vector-2.ensures in
    found _ v.kind v.round v.at v.elements (lies_e1 _ c.args.self.set.set _ c.args.self.encoding.some (bounds _ c.args.self.set.good) _ _ c.width-of_n.ensures.value c.width.ensures.value c.requires c.if-round-self.false c.if-behind-both.false)
