-- The terms are zeros, so the test of them never fails.
use Rattle.std.proofs.Common.{sym, ◌∙◌, rules}
use Rattle.std.proofs.lemmas.Bool.{false≢true}
use Rattle.quadratic.proofs.Zeros.{own_zeros}
use Rattle.quadratic.proofs.map.Map.evaluate.Goals as goal

pub returns-then-not-all_zero : goal.returns-then-not-all_zero
returns-then-not-all_zero g c =
    absurd (false≢true (sym c.if-not-all_zero.true ∙ c.all_zero.ensures.zeros (search (rules, own_zeros))))
