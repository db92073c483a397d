use Rattle.std.proofs.Common.{◌≡◌, ℕ, ◌-◌, List, ◌++◌, take, replicate, refl, ap, ◌∙◌}
use Rattle.field.specs.Coding.{Coding}
use Rattle.refusal.specs.Outcome.{told}
use Rattle.params.specs.declared.Set.{Set}
use Rattle.params.proofs.Bounds.{bounds}
use Rattle.suite.specs.Meaning.{Meaning}
use Rattle.suite.specs.Drawn.{drawn}
use Rattle.scheme.specs.Rounds.{taken}
use Rattle.scheme.specs.Challenges.{D_of}
use Rattle.scheme.specs.Verifying.{R_in, σ0_in, σ1_in}
use Rattle.verification.specs.Steps.{first_seed}
use Rattle.verification.proofs.Loaded.{front_is, front_long}
use Rattle.verification.proofs.Heard.{first_is, bits_are, heard}
use Rattle.verification.proofs.decide_drawn.Goals as goal

pub returns : goal.returns
returns g c =
    let C : Coding = g.F.Field.coding in
    let instance = c.args.instance.now in
    let M : Meaning = g.S.Suite.meaning instance.suite.now in
    let set : Set = instance.set.set in
    let message : List ℕ = c.args.message.now in
    let sig : List ℕ = c.args.signature.now.bytes.now in
    let base : List ℕ = c.base-base.result.now in
    let d : List ℕ = c.digest_within-d.result in
    let h1 : List ℕ = c.digest_within-h1.result in
    let of-base : base ≡ σ0_in sig = c.base-base.ensures in
    let of-d : d ≡ D_of M (R_in sig) message = c.digest_within-d.ensures ∙ ap (λ (R : List ℕ). M.d 4 (R ++ message)) c.randomizer.ensures in
    let of-h1 : h1 ≡ first_seed C M set message sig = first_is C M set message sig d base h1 c.digest_within-h1.ensures of-d of-base in
    let of-σ1 : c.answers.result.now ≡ σ1_in C.bits set sig = c.answers.ensures ∙ ap (λ (s : Set). σ1_in C.bits s sig) c.requires.same in
    let of-bits = bits_are C M set message sig d base h1 c.answers.result.now _ c.challenge_bits.new.bits c.challenge_bits.ensures of-d of-base of-h1 of-σ1
    (front_long set.r (replicate {A = ℕ} 269 0) (bounds set instance.set.good).few_r) in
    heard C M set message sig c.judge.result instance.map.cs.now c.args.v.now base (take (set.r - 0) c.draw_into.new.buffer) c.challenge_bits.new.bits c.write_list.new.list
    (c.in_ok-draw_into.ensures.answer ∙ ap (λ (s : List ℕ). told (drawn C M 11 s set.r)) of-h1)
    of-base
    (front_is set.r c.draw_into.new.buffer ∙ c.in_ok-draw_into.ensures.front refl ∙ ap (λ (s : List ℕ). taken C M 11 s set.r) of-h1)
    of-bits c.write_list.ensures c.judge.ensures
