use Rattle.std.proofs.Common.{ℕ, ◌<◌, ◌≤◌, Err, Result, sym, ap, ◌∙◌, arith, rules}
use Rattle.std.proofs.lemmas.Iterator.{IsFirst-from_position, YieldsList-from_slice}
use borrow.Author.Tests.{tests}
use Rattle.refusal.specs.declared.Refusal.{Refusal}
use Rattle.refusal.specs.declared.Refusal.TheVariants.{Element}
use Rattle.packing.proofs.Faults.{no_code, all_codes}
use Rattle.packing.proofs.Firsts.{first_after}
use Rattle.packing.proofs.bits.check_codes.Goals as goal

pub returns-in-Some : goal.returns-in-Some
returns-in-Some c =
    let q : ℕ = c.args.encoding.order in
    let f = IsFirst-from_position _ _ _ (λ x. q ≤ x) (λ x. x < q) c.in-Some.ensures.ran (YieldsList-from_slice c.args.v.now cc) (λ x q k. search (rules, tests)) (λ x q k. search (rules, tests)) in
    let w : ℕ → Result (Unit {0}) Refusal = λ n. Err (Element n) in
    ap w c.byte_of.ensures.value ∙ sym (no_code q c.args.encoding.bits c.args.v.now c.in-Some.i (first_after q c.args.v.now c.in-Some.i (omega (arith, f.0)) f.2) f.0 (f.1 0))

pub returns-in-None : goal.returns-in-None
returns-in-None c =
    let q : ℕ = c.args.encoding.order in
    let f = IsFirst-from_position _ _ _ (λ x. q ≤ x) (λ x. x < q) c.in-None.ensures.ran (YieldsList-from_slice c.args.v.now cc) (λ x q k. search (rules, tests)) (λ x q k. search (rules, tests)) in
    sym (all_codes q c.args.encoding.bits c.args.v.now (first_after q c.args.v.now _ (omega arith) f))
