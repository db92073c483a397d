use Rattle.std.proofs.Common.{ℕ, ◌+◌, List, length, rules, arith}
use Rattle.algebra.proofs.Sizes.{size_rows}
use Rattle.field.specs.Coding.{Coding}
use Rattle.quadratic.proofs.Triangles.{Filled, filled_row, filled_both, filled_triangle}
use Rattle.quadratic.proofs.Fills.{products, product_row, products_next, products_last, product_wide, product_at}
use Rattle.quadratic.proofs.terms.fill_monomials.Goals as goal

pub split_at_mut-products-requires : goal.split_at_mut-products-requires
split_at_mut-products-requires g c = omega (arith, size_rows (length c.args.x.now))

pub fill_row-requires : goal.fill_row-requires
fill_row-requires g c =
    let s = size_rows (length c.args.x.now) in
    record { fits = omega arith; callable = λ d l. (omega arith, c.requires.codes) }

pub returns : goal.returns
returns g c =
    let K : Coding = g.F.Field.coding in
    let x : List ℕ = c.args.x.now in
    let n : ℕ = length x in
    let s = size_rows n in
    let f : Filled K (products K.ops x 0) c.fill_rows.new.terms =
    filled_triangle K n (products K.ops x) (product_row K.ops x) (products_next K.ops x) (products_last K.ops x) (product_wide K.ops x)
    0 n c.fill_rows.new.terms (omega arith) (omega arith)
    (λ k d h. let p = c.fill_rows.ensures k d h in let e = product_at K.ops x (0 + k) d (omega arith) in search rules) in
    let l : Filled K x c.fill_row.new.row = filled_row K x c.fill_row.new.row (omega arith) (λ d h. let p = c.fill_row.ensures d (omega arith) in search rules) in
    let b = filled_both K (products K.ops x 0) x c.fill_rows.new.terms c.fill_row.new.row f l in
    record { value = b.value; small = b.small }
