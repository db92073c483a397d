use Rattle.std.proofs.Common.{◌≡◌, ℕ, ◌+◌, ◌-◌, suc, get_or, subst, arith}
use Rattle.algebra.specs.Quad.{row}
use Rattle.quadratic.proofs.Triangles.{row_less, rows_more}
use Rattle.quadratic.specs.contracts.triangle.fill_rows.T-Fn.{words}
use Rattle.quadratic.proofs.triangle.+fill_rows.Goals as goal

pub split_at_mut-row-requires : goal.split_at_mut-row-requires
split_at_mut-row-requires g t c = omega (arith, row_less c.args.left c.if-left-gt0.true)

pub fill_rows-requires : goal.fill_rows-requires
fill_rows-requires g t c κs within =
    (omega arith, (within, (omega arith, (omega (arith, row_less c.args.left c.if-left-gt0.true), λ j k a b. c.requires.callable j k (omega arith) (omega arith)))))

pub returns-then-left-gt0 : goal.returns-then-left-gt0
returns-then-left-gt0 g t c =
    let i : ℕ = c.args.i in
    rows_more (λ k d v. (words g.row.T g.T.Fn).post c.args.term.now (i + k) (i + k + d) v) c.args.left c.fill_row.new.row c.fill_rows.new.terms c.if-left-gt0.true (omega arith)
    (λ d l. let z : i ≡ i + 0 = omega arith in subst (λ (j : ℕ). (words g.row.T g.T.Fn).post c.args.term.now j (j + d) (get_or c.fill_row.new.row d 0)) z (c.fill_row.ensures d (omega arith)))
    (λ k d l. let z : i + 1 + k ≡ i + suc k = omega arith in subst (λ (j : ℕ). (words g.row.T g.T.Fn).post c.args.term.now j (j + d) (get_or c.fill_rows.new.terms (row (c.args.left - 1) k + d) 0)) z (c.fill_rows.ensures k d l))
