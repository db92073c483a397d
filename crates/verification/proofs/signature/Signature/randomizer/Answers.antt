use Rattle.verification.proofs.signature.Signature.randomizer.Goals as goal

pub returns : goal.returns
returns g c =
    let h = rw c.unwrap.ensures at c.first_chunk.ensures.cases in
    h.same
