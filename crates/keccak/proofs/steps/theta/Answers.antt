-- Each lane is that of θ, and so the bits are.
use Rattle.std.proofs.Common.{◌≡◌, ℕ, List, get_or, sym, ap, ◌∙◌, subst, rules}
use lib.Bits.{bit_xor}
use Rattle.keccak.specs.State.{Rows, lane, Lanes64}
use Rattle.keccak.specs.Lanes.{effect_d, theta_of}
use Rattle.keccak.specs.Bits.{ThetaBits}
use Rattle.keccak.proofs.BitByBit.{five_at, rows_same, theta_bits}
use Rattle.keccak.proofs.Whole.{parity_below}
use Rattle.keccak.proofs.steps.theta.Goals as goal

same : (c : goal.After-rows) → c.rows.result ≡ theta_of c.args.a
same c =
    c.rows.ensures.whole
    ∙ rows_same (λ x y. lane c.rows.result x y) (λ x y. bit_xor (lane c.args.a x y) (effect_d c.args.a x))
    (λ x y h k. let e = c.rows.ensures.lanes x y h k in let d = ap (λ (r : List ℕ). get_or r x 0) c.effects-d.ensures ∙ five_at (effect_d c.args.a) 0 x h in search rules)

small : (c : goal.After-rows) → Lanes64 c.args.a
small c y k x h = let e = c.rows.ensures.lanes x y h k in search rules

pub returns : goal.returns
returns c =
    record { lanes = same c; bits = subst (λ (r : Rows). ThetaBits c.args.a r) (sym (same c)) (theta_bits c.args.a (parity_below c.args.a (small c))) }
