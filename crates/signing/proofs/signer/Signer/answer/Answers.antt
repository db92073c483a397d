use Rattle.std.proofs.Common.{ℕ, List, get_or, rules}
use Rattle.field.specs.Coding.{Coding}
use Rattle.params.specs.declared.Set.{Set}
use Rattle.suite.specs.Meaning.{Meaning}
use Rattle.scheme.specs.Signing.{pool, first_answer, answers}
use Rattle.signing.proofs.signer.Signer.answer.Goals as goal

pub returns-clause-bytes : goal.returns-clause-bytes
unfolding answers
returns-clause-bytes g c =
    let C : Coding = g.F.Field.coding in
    let M : Meaning = g.S.Suite.meaning c.args.self.now.instance.suite.now in
    let set : Set = c.args.self.now.instance.set.set in
    let cs : List ℕ = c.args.self.now.instance.map.cs.now in
    let K : List ℕ = c.args.self.now.k.now in
    let D : List ℕ = c.args.self.now.d.now in
    c.each_round.ensures.bytes (λ j. first_answer C set cs (pool C M set K D j) (get_or c.args.alphas.now j 0)) (λ i drawn work part work' part' l e n p. search rules)
