use Rattle.params.proofs.Bounds.{bounds}
use Rattle.wire.proofs.Locating.{found, lies_response, lies_nowhere}
use Rattle.wire.proofs.layout.Layout.find_response.Goals as goal

pub returns-then-round-self : goal.returns-then-round-self
returns-then-round-self c =
    let v = c.vector.ensures in
    found _ v.kind v.round v.at v.elements (lies_response _ c.args.self.set.set _ c.args.self.encoding.some (bounds _ c.args.self.set.good) _ _ c.start.ensures.value c.width.ensures.value c.requires c.if-round-self.true)

pub returns-else-round-self : goal.returns-else-round-self
returns-else-round-self c =
    λ _. lies_nowhere _ c.args.self.set.set _ c.args.self.encoding.some (bounds _ c.args.self.set.good) _ _ c.start.ensures.value c.width.ensures.value c.requires c.if-round-self.false
