-- The bytes of a message are bytes.
use Rattle.std.proofs.Common.{ℕ, List, length, sym, ap, ◌∙◌, subst, arith}
use Rattle.sha3.specs.Hash.{shake128, ShakeBits}
use Rattle.sha3.proofs.Padding.{padded_shake}
use Rattle.sha3.proofs.Strings.{shake_bits}
use Rattle.sha3.proofs.shake128.Goals as goal

pub returns-clause-padding : goal.returns-clause-padding
returns-clause-padding c = padded_shake c.args.message.now

pub returns-clause-bits : goal.returns-clause-bits
returns-clause-bits c =
    let n = length c.args.out.now in
    subst (λ (r : List ℕ). ShakeBits c.args.message.now r) (sym (c.shake128_joint.ensures ∙ ap (λ (m : List ℕ). shake128 m n) c.whole.ensures))
    (shake_bits c.args.message.now n (λ k. omega (arith, c.type_inv.message k)))
