use Rattle.std.proofs.Common.{ℕ, ◌+◌, List, length, rules, arith}
use Rattle.field.specs.Coding.{Coding}
use Rattle.quadratic.proofs.Triangles.{Filled, filled_triangle}
use Rattle.quadratic.proofs.Fills.{cross_terms, cross_row, cross_next, cross_last, cross_wide, cross_at}
use Rattle.quadratic.proofs.terms.fill_crosses.Goals as goal

pub returns : goal.returns
returns g c =
    let K : Coding = g.F.Field.coding in
    let x : List ℕ = c.args.x.now in
    let y : List ℕ = c.args.y.now in
    let n : ℕ = length x in
    let f : Filled K (cross_terms K.ops x y c.requires.same 0) c.fill_rows.new.terms =
    filled_triangle K n (cross_terms K.ops x y c.requires.same) (cross_row K.ops x y c.requires.same) (cross_next K.ops x y c.requires.same) (cross_last K.ops x y c.requires.same) (cross_wide K.ops x y c.requires.same)
    0 n c.fill_rows.new.terms (omega arith) (omega arith)
    (λ k d h. let p = c.fill_rows.ensures k d h in let e = cross_at K.ops x y c.requires.same (0 + k) d (omega arith) in search rules) in
    record { value = f.value; small = f.small }
