use Rattle.std.proofs.Common.{◌≡◌, ℕ, ◌-◌, ◌*◌, List, ◌++◌, length, take, sym, refl, ap, ◌∙◌, ap₂, arith}
use Rattle.field.specs.Coding.{Coding}
use Rattle.field.specs.Codes.{Vector}
use Rattle.params.specs.declared.Set.{Set}
use Rattle.params.specs.declared.good.GoodSet.{GoodSet}
use Rattle.params.specs.Sizes.{coefficients_of}
use Rattle.params.proofs.Bounds.{bounds}
use Rattle.refusal.specs.Outcome.{told, written}
use Rattle.algebra.specs.Quad.{size}
use Rattle.quadratic.proofs.Coefficients.{coefficients_size}
use Rattle.suite.specs.Meaning.{Meaning, Lawful}
use Rattle.suite.specs.Drawn.{Elements, drawn}
use Rattle.scheme.specs.Rounds.{taken}
use Rattle.scheme.specs.Signing.{R, D, coefficients, secret_vector}
use Rattle.signing.specs.Steps.{rounds_of}
use Rattle.signing.proofs.Fronts.{cut_front, of_front}
use Rattle.signing.proofs.Stepwise.{rounds_decide}
use Rattle.signing.proofs.sign_seeds.Goals as goal

-- what was drawn, as a vector
as_vector : (q n k : ℕ) (xs : List ℕ) → n ≡ k → Elements q n xs → Vector q k xs
as_vector q n k xs e d = record { long = d.long ∙ e; codes = d.codes }

pub draw_into-requires-clause-room : goal.draw_into-requires-clause-room
draw_into-requires-clause-room g c =
    let b = bounds c.args.set.set c.args.set.good in
    omega (arith, b.few_n, c.split_at_mut-own.ensures.front_len, c.requires.secret)

pub new-requires : goal.new-requires
new-requires g c =
    let q : ℕ = g.F.Field.coding.q in
    let set : Set = c.args.set.set in
    as_vector q c.coefficients-count.result (set.m * size set.n) _ (c.coefficients-count.ensures.value ∙ coefficients_size set) (of_front q c.coefficients-count.result c.draw_into-2.new.buffer (c.in_ok-draw_into-2.ensures.elements refl))

pub invariant_of-signer-clause-long : goal.invariant_of-signer-clause-long
invariant_of-signer-clause-long g c =
    let law : Lawful (g.S.Suite.meaning c.args.suite.now) = g.met.S.Suite.lawful c.args.suite.now in
    ap length c.digest_within-randomizer.ensures ∙ law.digest_long 3 _

pub returns : goal.returns
returns g c =
    let C : Coding = g.F.Field.coding in
    let M : Meaning = g.S.Suite.meaning c.args.suite.now in
    let set : Set = c.args.set.set in
    let k : List ℕ = c.args.k.now in
    let seed : List ℕ = c.args.seed.now in
    let message : List ℕ = c.args.message.now in
    let count : c.coefficients-count.result ≡ coefficients_of set = c.coefficients-count.ensures.value in
    let cs : c.new.result.map.cs.now ≡ coefficients C M set k seed message = c.new.ensures.cs ∙ cut_front c.coefficients-count.result c.draw_into-2.new.buffer ∙ c.in_ok-draw_into-2.ensures.front refl ∙ ap (taken C M 8 seed) count in
    let s : take (set.n - 0) c.draw_into.new.buffer ≡ secret_vector C M set k seed message = cut_front set.n c.draw_into.new.buffer ∙ c.in_ok-draw_into.ensures.front refl in
    let r : c.digest_within-randomizer.result ≡ R C M set k seed message = c.digest_within-randomizer.ensures in
    let d : c.digest_within-d.result ≡ D C M set k seed message = c.digest_within-d.ensures ∙ ap (λ (x : List ℕ). M.d 4 (x ++ message)) r in
    let o = ap (λ (x : GoodSet). rounds_of C (g.S.Suite.meaning c.new.result.suite.now) x.set c.new.result.map.cs.now (take (set.n - 0) c.draw_into.new.buffer) k c.digest_within-randomizer.result c.digest_within-d.result) c.new.ensures.set
    ∙ ap (λ x. rounds_of C (g.S.Suite.meaning x) set c.new.result.map.cs.now (take (set.n - 0) c.draw_into.new.buffer) k c.digest_within-randomizer.result c.digest_within-d.result) c.new.ensures.suite
    ∙ ap₂ (λ (x y : List ℕ). rounds_of C M set x y k c.digest_within-randomizer.result c.digest_within-d.result) cs s
    ∙ ap₂ (λ (x y : List ℕ). rounds_of C M set (coefficients C M set k seed message) (secret_vector C M set k seed message) k x y) r d
    ∙ sym (rounds_decide C M set k seed message c.in_ok-draw_into.ensures.answer (c.in_ok-draw_into-2.ensures.answer ∙ ap (λ (x : ℕ). told (drawn C M 8 seed x)) count)) in
    record { answer = c.sign.ensures.answer ∙ ap told o; bytes = c.sign.ensures.bytes ∙ ap (written (length c.args.answer.now)) o }
