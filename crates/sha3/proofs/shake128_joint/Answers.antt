-- What is squeezed out of the state that took in the parts is the stream.
use Rattle.std.proofs.Common.{map, length, ap, ◌∙◌}
use Rattle.std.specs.List.{range_with_len}
use Rattle.keccak.specs.State.{Rows}
use Rattle.sha3.specs.Sponge.{squeezed_byte}
use Rattle.sha3.specs.Hash.{shake128}
use Rattle.sha3.proofs.shake128_joint.Goals as goal

pub returns : goal.returns
unfolding shake128
returns c = c.squeeze.ensures ∙ ap (λ (s : Rows). map (squeezed_byte 168 s) (range_with_len 0 (length c.args.out.now))) c.take_in-s.ensures
