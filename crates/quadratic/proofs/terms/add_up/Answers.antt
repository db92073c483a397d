use Rattle.std.proofs.Common.{ℕ, ◌*◌, ◌<◌, ◌≤◌, ◌≢◌, List, map, length, get_or, drop, set, ap, ◌∙◌, arith, get_or-set_other, get_or-set_same, below_more}
use Rattle.std.proofs.lemmas.List.Edits.{fill_by_more}
use Rattle.std.proofs.lemmas.List.FromFn.{fill_by_all}
use Rattle.std.proofs.lemmas.List.{length-map}
use Rattle.field.specs.Terms.{dot}
use Rattle.quadratic.proofs.Parts.{dot_part}
use Rattle.quadratic.proofs.terms.add_up.Goals as goal

pub loop-k-preserved : goal.loop-k-preserved
loop-k-preserved g c =
    let ts : List ℕ = map g.F.Field.coding.stands c.args.terms.now in
    let a : ℕ = c.loop-k.k * c.args.step in
    let few : length (map g.F.Field.coding.stands c.args.terms.now) ≤ length c.args.terms.now = omega (arith, length-map c.args.terms.now g.F.Field.coding.stands) in
    let e = c.total.ensures.sum ∙ dot_part g.F.Field.coding.ops c.args.cs.now ts a (length c.args.terms.now) few in
    let lt : c.loop-k.k < length c.loop-k.out = omega arith in (
      (λ j h. ap (λ (v : ℕ). get_or (set c.loop-k.out c.loop-k.k v) j 0) e
          ∙ fill_by_more (λ j. dot g.F.Field.coding.ops (drop (j * c.args.step) c.args.cs.now) ts) c.loop-k.out c.loop-k.k 0 (omega arith) c.loop-k.invariant.0 j h),
      below_more _ _
          (λ j h. let ne : j ≢ c.loop-k.k = omega arith in rw get_or-set_other (c.loop-k.invariant.1 j h))
          (rw get_or-set_same c.total.ensures.code),
    )

pub returns-clause-value : goal.returns-clause-value
returns-clause-value g c = fill_by_all (λ j. dot g.F.Field.coding.ops (drop (j * c.args.step) c.args.cs.now) (map g.F.Field.coding.stands c.args.terms.now)) c.loop-k.out (length c.args.out.now) 0 c.loop-k.auto.out (λ k h. c.loop-k.invariant.0 k (omega arith))
