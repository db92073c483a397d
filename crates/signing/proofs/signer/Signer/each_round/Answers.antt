use Rattle.std.proofs.Common.{ℕ, sym, refl, ◌∙◌, arith, ◌*◌, ◌+◌, ◌≤◌, length}
use Rattle.std.proofs.lemmas.Result.{err_from_is_err_and}
use Rattle.scheme.proofs.Each.{each_none, each_more, each_stops}
use Rattle.scheme.proofs.Writes.{written_none, written_more, round_room}
use Rattle.signing.proofs.Walks.{part_long}
use Rattle.signing.proofs.Fronts.{cut_front}
use Rattle.signing.proofs.signer.Signer.each_round.Goals as goal

pub loop-i-init : goal.loop-i-init
loop-i-init g c = (each_none _, λ x _. written_none x c.args.size c.args.out.now)

pub returns-in_err-draw-clause-answer : goal.returns-in_err-draw-clause-answer
returns-in_err-draw-clause-answer g c =
    let p = err_from_is_err_and c.from_residual.result c.from_residual.ensures.1 in
    rw (p.1, p.2) (sym (each_stops _ c.loop-i.i _ c.loop-i-test.true c.loop-i.invariant.0 (sym c.in_err-draw.ensures.answer)))

pub loop-i-preserved : goal.loop-i-preserved
loop-i-preserved g c =
    let i : ℕ = c.loop-i.i in
    let size : ℕ = c.args.size in
    let fits : (i + 1) * size ≤ length c.loop-i.out = omega (arith, round_room i c.args.self.now.instance.set.set.r size c.loop-i-test.true, c.loop-i.auto.out, c.requires.out) in (
      each_more _ i c.loop-i.invariant.0 (sym c.in_ok-draw.ensures.answer),
      λ x h. written_more x size i c.loop-i.out c.give.new.arg5 _ (c.loop-i.invariant.1 x h) fits
          (c.give.auto.arg5 ∙ part_long c.loop-i.out (i * size) size (omega arith))
          (h i _ _ _ _ _ c.loop-i-test.true (cut_front _ c.draw.new.pool ∙ c.in_ok-draw.ensures.front refl) (part_long c.loop-i.out (i * size) size (omega arith)) c.give.ensures),
    )
