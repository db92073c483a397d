use Rattle.std.proofs.Common.{◌≡◌, ℕ, ◌+◌, ◌*◌, List, ◌++◌, take, ap, ◌∙◌, ap₂}
use Rattle.packing.specs.Packed.{width}
use Rattle.scheme.specs.Verifying.{answers_length}
use Rattle.signing.proofs.Lengths.{second_written}
use Rattle.signing.proofs.signer.Signer.write_second.Goals as goal

pub returns : goal.returns
returns g c =
    let b : ℕ = g.F.Field.coding.bits in
    let al : c.answers_len-at.result ≡ answers_length b c.args.self.now.instance.set.set = c.answers_len-at.ensures.value ∙ ap (λ (k : ℕ). answers_length k c.args.self.now.instance.set.set) c.encoding.ensures.bits in
    let rl : c.responses_len.result ≡ c.args.self.now.instance.set.set.r * width b c.args.self.now.instance.set.set.n = c.responses_len.ensures.value ∙ ap (λ (k : ℕ). c.args.self.now.instance.set.set.r * width k c.args.self.now.instance.set.set.n) c.encoding.ensures.bits in
    second_written b c.args.self.now.instance.set.set c.args.answer.now c.requires.answer c.respond.new.out c.carry.new.out c.answers_len-at.result c.responses_len.result al rl c.respond.auto.out c.carry.auto.out
    ∙ ap (λ (t : List ℕ). take (64 + answers_length b c.args.self.now.instance.set.set) c.args.answer.now ++ t) (ap₂ ◌++◌ (c.respond.ensures.bytes (c.respond.ensures.answer ∙ c.requires.pools)) c.carry.ensures)
