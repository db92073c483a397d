use Rattle.std.proofs.Common.{◌≡◌, length, arith, drop}
use Rattle.std.proofs.lemmas.Grind.{common_steps}
use Rattle.std.proofs.lemmas.Slice.Zip.{zip_turn, zip_end}
use Rattle.gf31.specs.Whole.{whole}
use Rattle.gf31.proofs.Bounds.{product_few, at_monomials}
use Rattle.gf31.proofs.Wholes.{whole_more, whole_all}
use Rattle.gf31.proofs.sum.whole_sum.Goals as goal

pub overflow_mul-sum : goal.overflow_mul-sum
overflow_mul-sum c =
    let t = zip_turn c.args.cs.now c.args.terms.now c.loop-c.yielded c.into_iter-c-iterator.result c.loop-c.c-iterator c.next.new.self _ (cc) (cc) c.loop-c.yielded_by _ c.in-Some.is c.next.ensures.steps in
    omega (arith, product_few _ _ _ _ _ t.0 t.1 (t.2 0) (t.3 0) c.requires.codes c.requires.small)

pub loop-c-preserved : goal.loop-c-preserved
loop-c-preserved c =
    let t = zip_turn c.args.cs.now c.args.terms.now c.loop-c.yielded c.into_iter-c-iterator.result c.loop-c.c-iterator c.next.new.self _ (cc) (cc) c.loop-c.yielded_by _ c.in-Some.is c.next.ensures.steps in
    grind (arith, common_steps, product_few _ _ _ _ _ t.0 t.1 (t.2 0) (t.3 0) c.requires.codes c.requires.small, whole_more c.args.cs.now c.args.terms.now _ t.0 t.1)

pub returns-clause-equation : goal.returns-clause-equation
returns-clause-equation c =
    let t = zip_end c.args.cs.now c.args.terms.now c.loop-c.yielded c.into_iter-c-iterator.result c.loop-c.c-iterator c.next.new.self _ (cc) (cc) c.loop-c.yielded_by c.in-None.is c.next.ensures.steps in
    let e : c.loop-c.sum ≡ whole c.args.cs.now c.args.terms.now = omega (arith, t, c.loop-c.invariant.0, whole_all c.args.cs.now (drop (length c.loop-c.yielded) c.args.terms.now) (length c.loop-c.yielded) (omega (arith, t))) in
    at_monomials c.args.cs.now c.args.terms.now c.loop-c.sum e c.requires.codes
