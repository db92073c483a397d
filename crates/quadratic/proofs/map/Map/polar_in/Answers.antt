use Rattle.std.proofs.Common.{◌≡◌, ◌+◌, ◌*◌, length, sym, ◌∙◌, ap₂, arith}
use Rattle.algebra.specs.Quad.{size}
use Rattle.algebra.proofs.Sizes.{size_rows}
use Rattle.quadratic.specs.Sums.{sums}
use Rattle.quadratic.proofs.ByTerms.{polar_by_sums}
use Rattle.quadratic.proofs.map.Map.polar_in.Goals as goal

pub add_up-requires-clause-len : goal.add_up-requires-clause-len
add_up-requires-clause-len g c =
    let s : c.pairs-count.result + c.args.self.now.n ≡ size c.args.self.now.n = omega (arith, size_rows c.args.self.now.n) in
    let l : length c.args.self.now.cs.now ≡ c.args.self.now.m * size c.args.self.now.n = c.args.self.now.len in
    l ∙ ap₂ ◌*◌ (sym c.requires.places) (sym s)

pub returns-clause-value : goal.returns-clause-value
returns-clause-value g c =
    let s : c.pairs-count.result + c.args.self.now.n ≡ size c.args.self.now.n = omega (arith, size_rows c.args.self.now.n) in
    let l : length c.args.self.now.cs.now ≡ c.args.self.now.m * size c.args.self.now.n = c.args.self.now.len in
    c.add_up.ensures.value
    ∙ ap₂ (sums g.F.Field.coding.ops (length c.args.out.now) c.args.self.now.cs.now) s c.fill_crosses.ensures.value
    ∙ polar_by_sums g.met.F.Field.coded.field (length c.args.out.now) c.args.self.now.m c.args.self.now.n c.args.self.now.cs.now c.args.x.now c.args.y.now c.requires.places c.requires.left.long c.requires.right.long l
    c.args.self.now.coefficients c.requires.left.codes c.requires.right.codes
