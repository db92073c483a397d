use Rattle.std.proofs.Common.{◌≡◌, ℕ, length, sym, subst, rules}
use Rattle.field.specs.Ring.{sub as minus}
use Rattle.field.specs.Codes.{Codes}
use Rattle.algebra.specs.Quad.{vsub}
use Rattle.algebra.proofs.Below.{vsub_codes}
use Rattle.vectors.proofs.Entries.{entries}
use Rattle.vectors.proofs.difference.Goals as goal

pub returns : goal.returns
unfolding vsub
returns g c =
    let n : ℕ = length c.args.out.now in
    let e : c.each.new.out ≡ vsub g.F.Field.coding.ops n c.args.x.now c.args.y.now =
    entries (minus g.F.Field.coding.ops) g.F.Field.coding.ops.nil n c.args.x.now c.args.y.now c.each.new.out c.each.auto.out c.requires.x c.requires.y (λ k l. let h = c.each.ensures k l in search rules) in
    record {
      value = e;
      codes = subst (Codes g.F.Field.coding.q) (sym e) (vsub_codes g.met.F.Field.coded.field n c.args.x.now c.args.y.now c.requires.left c.requires.right).codes;
    }
