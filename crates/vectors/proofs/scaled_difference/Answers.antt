use Rattle.std.proofs.Common.{◌≡◌, ℕ, length, get_or, sym, ap, ◌∙◌, subst, rules}
use Rattle.field.specs.Ring.{sub as minus}
use Rattle.field.specs.Codes.{Codes}
use Rattle.algebra.specs.Quad.{vsub, scale}
use Rattle.algebra.proofs.Below.{vsub_codes, scale_codes}
use Rattle.algebra.proofs.Vectors.{tab_cong, scale_at}
use Rattle.vectors.proofs.Entries.{entries}
use Rattle.vectors.proofs.scaled_difference.Goals as goal

pub returns : goal.returns
unfolding vsub
returns g c =
    let n : ℕ = length c.args.out.now in
    let e : c.each.new.out ≡ vsub g.F.Field.coding.ops n (scale g.F.Field.coding.ops n c.args.a c.args.x.now) c.args.y.now =
    entries (λ x y. minus g.F.Field.coding.ops (g.F.Field.coding.ops.mul c.args.a x) y) g.F.Field.coding.ops.nil n c.args.x.now c.args.y.now c.each.new.out c.each.auto.out c.requires.x c.requires.y (λ k l. let h = c.each.ensures k l in search rules)
    ∙ tab_cong g.F.Field.coding.ops n _ _ (λ k l. ap (λ (v : ℕ). minus g.F.Field.coding.ops v (get_or c.args.y.now k g.F.Field.coding.ops.nil)) (sym (scale_at g.F.Field.coding.ops n c.args.a c.args.x.now k l))) in
    record {
      value = e;
      codes = subst (Codes g.F.Field.coding.q) (sym e) (vsub_codes g.met.F.Field.coded.field n _ c.args.y.now (scale_codes g.met.F.Field.coded.field n c.args.a c.args.x.now c.requires.a c.requires.left).codes c.requires.right).codes;
    }
