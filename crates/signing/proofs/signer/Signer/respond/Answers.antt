use Rattle.std.proofs.Common.{ℕ, ◌%◌, List, get_or, rules}
use Rattle.field.specs.Coding.{Coding}
use Rattle.params.specs.declared.Set.{Set}
use Rattle.suite.specs.Meaning.{Meaning}
use Rattle.packing.specs.Packed.{packed}
use Rattle.scheme.specs.Rounds.{chosen_by_bit}
use Rattle.scheme.specs.Signing.{pool, r0, r1, responses}
use Rattle.signing.proofs.signer.Signer.respond.Goals as goal

pub returns-clause-bytes : goal.returns-clause-bytes
unfolding responses
returns-clause-bytes g c =
    let C : Coding = g.F.Field.coding in
    let M : Meaning = g.S.Suite.meaning c.args.self.now.instance.suite.now in
    let set : Set = c.args.self.now.instance.set.set in
    let s : List ℕ = c.args.self.now.s.now in
    let K : List ℕ = c.args.self.now.k.now in
    let D : List ℕ = c.args.self.now.d.now in
    c.each_round.ensures.bytes (λ j. packed C.bits (chosen_by_bit (get_or c.args.bits.now j 0 % 2) (r0 set (pool C M set K D j)) (r1 C set s (pool C M set K D j)))) (λ i drawn work part work' part' l e n p. search rules)
