use Rattle.std.proofs.Common.{◌≡◌, ◌+◌, ◌*◌, ◌≤◌, length, sym, ap, ◌∙◌, ap₂, arith}
use Rattle.std.proofs.lemmas.List.{length-take-le}
use Rattle.algebra.specs.Quad.{size}
use Rattle.algebra.proofs.Sizes.{size_rows}
use Rattle.quadratic.specs.Sums.{sums}
use Rattle.quadratic.proofs.ByTerms.{map_by_sums}
use Rattle.quadratic.proofs.map.Map.evaluate_in.Goals as goal

pub fill_monomials-requires-clause-room : goal.fill_monomials-requires-clause-room
fill_monomials-requires-clause-room g c =
    let h : c.args.self.now.n ≤ 64 = c.args.self.now.short in
    let s : c.pairs.result + c.args.self.now.n ≡ size c.args.self.now.n = omega (arith, size_rows c.args.self.now.n) in
    length-take-le _ c.args.terms.now (omega arith) ∙ s ∙ ap size (sym c.requires.entries.long)

pub add_up-requires-clause-len : goal.add_up-requires-clause-len
add_up-requires-clause-len g c =
    let s : c.pairs.result + c.args.self.now.n ≡ size c.args.self.now.n = omega (arith, size_rows c.args.self.now.n) in
    let l : length c.args.self.now.cs.now ≡ c.args.self.now.m * size c.args.self.now.n = c.args.self.now.len in
    l ∙ ap₂ ◌*◌ (sym c.requires.places) (sym s)

pub returns-clause-value : goal.returns-clause-value
returns-clause-value g c =
    let n : length c.args.x.now ≡ c.args.self.now.n = c.requires.entries.long in
    let s : c.pairs.result + c.args.self.now.n ≡ size c.args.self.now.n = omega (arith, size_rows c.args.self.now.n) in
    let l : length c.args.self.now.cs.now ≡ c.args.self.now.m * size c.args.self.now.n = c.args.self.now.len in
    c.add_up.ensures.value
    ∙ ap₂ (sums g.F.Field.coding.ops (length c.args.out.now) c.args.self.now.cs.now) s c.fill_monomials.ensures.value
    ∙ map_by_sums g.met.F.Field.coded.field (length c.args.out.now) c.args.self.now.m c.args.self.now.n c.args.self.now.cs.now c.args.x.now c.requires.places n l c.args.self.now.coefficients c.requires.entries.codes
