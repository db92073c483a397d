use Rattle.std.proofs.Common.{sym}
use Rattle.algebra.proofs.Sizes.{row_half}
use Rattle.quadratic.proofs.terms.pairs.Goals as goal

pub returns-clause-rows : goal.returns-clause-rows
returns-clause-rows c = sym (row_half c.args.n)
