use Rattle.std.proofs.Common.{ℕ, List, ◌++◌, rules}
use Rattle.field.specs.Coding.{Coding}
use Rattle.params.specs.declared.Set.{Set}
use Rattle.suite.specs.Meaning.{Meaning}
use Rattle.scheme.specs.Signing.{pool, c0, c1, list}
use Rattle.signing.proofs.signer.Signer.commit.Goals as goal

pub returns-clause-list : goal.returns-clause-list
unfolding list
returns-clause-list g c =
    let C : Coding = g.F.Field.coding in
    let M : Meaning = g.S.Suite.meaning c.args.self.now.instance.suite.now in
    let set : Set = c.args.self.now.instance.set.set in
    let cs : List ℕ = c.args.self.now.instance.map.cs.now in
    let s : List ℕ = c.args.self.now.s.now in
    let K : List ℕ = c.args.self.now.k.now in
    let D : List ℕ = c.args.self.now.d.now in
    c.each_round.ensures.bytes (λ j. c0 C M set (pool C M set K D j) ++ c1 C M set cs s (pool C M set K D j)) (λ i drawn work part work' part' l e n p. search rules)
