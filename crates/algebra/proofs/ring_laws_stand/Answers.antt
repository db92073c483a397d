use Rattle.algebra.proofs.OfRings.{ring_linear, ring_completes, ring_extracts}
use Rattle.algebra.proofs.ring_laws_stand.Goals as goal

pub returns : goal.returns
returns g c = record { linear = λ o L. ring_linear L; completes = λ o L. ring_completes L; extracts = λ o L. ring_extracts L }
