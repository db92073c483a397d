use Rattle.algebra.proofs.OfCodes.{codes_linear, codes_complete, codes_extract}
use Rattle.algebra.proofs.field_laws_stand.Goals as goal

pub returns : goal.returns
returns g c =
    let K = g.met.F.Field.coded.field in
    record { linear = codes_linear K; completes = codes_complete K; extracts = codes_extract K }
