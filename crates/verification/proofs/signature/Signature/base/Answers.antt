use Rattle.std.proofs.Common.{take, ap, ◌∙◌}
use Rattle.std.proofs.lemmas.List.{take_rest}
use Rattle.verification.proofs.signature.Signature.base.Goals as goal

pub returns : goal.returns
returns g c =
    let h = rw c.unwrap.ensures at c.first_chunk.ensures.cases in
    h.same ∙ ap (take 32) (take_rest c.args.self.now.bytes.now 32)
