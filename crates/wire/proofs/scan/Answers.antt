use Rattle.std.proofs.Common.{sym}
use Rattle.std.proofs.lemmas.Result.{err_from_is_err_and}
use Rattle.wire.proofs.Rounds.{t1_stop, e1_stop, first_on, responses_none, response_stop, response_on}
use Rattle.wire.proofs.scan.Goals as goal

pub returns-in_err-check_vector : goal.returns-in_err-check_vector
returns-in_err-check_vector c =
    let p = err_from_is_err_and c.from_residual.result c.from_residual.ensures.1 in
    rw (p.1, p.2) (t1_stop c.loop-i.invariant c.loop-i-test.true _ (sym c.in_err-check_vector.ensures))

pub returns-in_err-check_vector-2 : goal.returns-in_err-check_vector-2
returns-in_err-check_vector-2 c =
    let p = err_from_is_err_and c.from_residual-in_err-check_vector-2.result c.from_residual-in_err-check_vector-2.ensures.1 in
    rw (p.1, p.2) (e1_stop c.loop-i.invariant c.loop-i-test.true (sym c.in_ok-check_vector.ensures) _ (sym c.in_err-check_vector-2.ensures))

pub loop-i-preserved : goal.loop-i-preserved
loop-i-preserved c = first_on c.loop-i.invariant c.loop-i-test.true (sym c.in_ok-check_vector.ensures) (sym c.in_ok-check_vector-2.ensures)

pub loop-j-init : goal.loop-j-init
loop-j-init c = responses_none c.loop-i.invariant c.loop-i.auto.i-end c.loop-i-test.false

pub returns-in_err-check_vector-3 : goal.returns-in_err-check_vector-3
returns-in_err-check_vector-3 c =
    let p = err_from_is_err_and c.from_residual-in_err-check_vector-3.result c.from_residual-in_err-check_vector-3.ensures.1 in
    rw (p.1, p.2) (response_stop c.loop-j.invariant c.loop-j-test.true _ (sym c.in_err-check_vector-3.ensures))

pub loop-j-preserved : goal.loop-j-preserved
loop-j-preserved c = response_on c.loop-j.invariant c.loop-j-test.true (sym c.in_ok-check_vector-3.ensures)
