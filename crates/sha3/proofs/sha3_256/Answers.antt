-- The bytes of a message are bytes.
use Rattle.std.proofs.Common.{ℕ, List, sym, ap, ◌∙◌, subst, arith}
use Rattle.sha3.specs.Hash.{sha3_256_of, Sha3Bits}
use Rattle.sha3.proofs.Padding.{padded_sha3}
use Rattle.sha3.proofs.Strings.{sha3_bits}
use Rattle.sha3.proofs.sha3_256.Goals as goal

pub returns-clause-padding : goal.returns-clause-padding
returns-clause-padding c = padded_sha3 c.args.message.now

pub returns-clause-bits : goal.returns-clause-bits
returns-clause-bits c =
    subst (λ (r : List ℕ). Sha3Bits c.args.message.now r) (sym (c.sha3_256_joint.ensures ∙ ap sha3_256_of c.whole.ensures))
    (sha3_bits c.args.message.now (λ k. omega (arith, c.type_inv.message k)))
