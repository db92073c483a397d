use Rattle.std.proofs.Common.{◌≡◌, ℕ, ◌+◌, ◌-◌, List, ◌++◌, length, take, drop, sym, ap, ◌∙◌, arith, rules}
use Rattle.field.specs.Coding.{Coding}
use Rattle.suite.specs.Meaning.{Meaning}
use Rattle.suite.specs.Calls.{first}
use Rattle.scheme.specs.Verifying.{answers_length}
use Rattle.signing.proofs.Signed.{whole}
use Rattle.signing.proofs.signer.Signer.finish.Goals as goal

pub returns : goal.returns
returns g c =
    let C : Coding = g.F.Field.coding in
    let M : Meaning = g.S.Suite.meaning c.args.self.now.instance.suite.now in
    let d : List ℕ = c.args.self.now.d.now in
    let ans : List ℕ = c.write_first.new.answer in
    let size : c.answers_len-size.result ≡ answers_length C.bits c.args.self.now.instance.set.set = c.answers_len-size.ensures.value ∙ ap (λ (b : ℕ). answers_length b c.args.self.now.instance.set.set) c.encoding.ensures.bits in
    let stream : ℕ → ℕ → List ℕ = λ k n. first (M.e 12 (M.d 6 (d ++ (c.args.base.now ++ (c.args.h1.now ++ take k (drop 64 ans)))))) n in
    let cut : 64 + c.answers_len-size.result - 64 ≡ c.answers_len-size.result = omega arith in
    let lR : length c.args.self.now.randomizer.now ≡ 32 = c.args.self.now.long in
    let lb : length c.args.base.now ≡ 32 = omega arith in
    let bits : List ℕ = c.challenge_bits.new.bits in
    let few : length c.challenge_bits.new.bits ≡ c.args.self.now.instance.set.set.r = search rules in
    whole C M (g.met.S.Suite.lawful c.args.self.now.instance.suite.now) c.args.self.now.instance.set.set c.args.self.now.instance.map.cs.now c.args.self.now.s.now c.args.self.now.k.now d
    c.args.self.now.randomizer.now c.args.base.now c.args.h1.now c.args.alphas.now ans (answers_length C.bits c.args.self.now.instance.set.set) lR lb c.requires.base c.requires.h1 c.requires.alphas c.write_first.ensures
    c.challenge_bits.new.bits c.args.list.now c.write_second.new.answer (length bits) few c.requires.list
    (c.challenge_bits.ensures
    ∙ ap (λ (n : ℕ). stream (64 + c.answers_len-size.result - 64) n) (sym c.challenge_bits.auto.bits)
    ∙ ap (λ (k : ℕ). stream k (length bits)) (cut ∙ size))
    c.write_second.ensures
