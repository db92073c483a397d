-- What is squeezed out of the state that took in the parts is the hash.
use Rattle.std.proofs.Common.{map, ap, ◌∙◌}
use Rattle.std.specs.List.{range_with_len}
use Rattle.keccak.specs.State.{Rows}
use Rattle.sha3.specs.Sponge.{squeezed_byte}
use Rattle.sha3.specs.Hash.{sha3_256_of}
use Rattle.sha3.proofs.sha3_256_joint.Goals as goal

pub returns : goal.returns
unfolding sha3_256_of
returns c = c.squeeze.ensures ∙ ap (λ (s : Rows). map (squeezed_byte 136 s) (range_with_len 0 32)) c.take_in-s.ensures
