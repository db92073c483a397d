use Rattle.std.proofs.Common.{◌≡◌, ℕ, ◌++◌, ap, ◌∙◌, ap₂, arith}
use Rattle.scheme.specs.Verifying.{answers_length}
use Rattle.signing.proofs.Lengths.{first_written}
use Rattle.signing.proofs.signer.Signer.write_first.Goals as goal

pub returns : goal.returns
returns g c =
    let size : c.answers_len-end.result ≡ answers_length g.F.Field.coding.bits c.args.self.now.instance.set.set = c.answers_len-end.ensures.value ∙ ap (λ (b : ℕ). answers_length b c.args.self.now.instance.set.set) c.encoding.ensures.bits in
    first_written g.F.Field.coding.bits c.args.self.now.instance.set.set c.args.answer.now c.requires.answer c.copy_from_slice.new.self c.copy_from_slice-2.new.self c.answer.new.out c.answers_len-end.result (omega arith) (omega arith) size c.answer.auto.out
    ∙ ap₂ ◌++◌ c.copy_from_slice.ensures.after (ap₂ ◌++◌ c.copy_from_slice-2.ensures.after (c.answer.ensures.bytes (c.answer.ensures.answer ∙ c.requires.pools)))
