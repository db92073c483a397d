-- Each lane is that of χ, and so the bits are.
use Rattle.std.proofs.Common.{◌≡◌, ◌+◌, ◌%◌, sym, ◌∙◌, subst, rules}
use lib.Bits.{bit_xor, bit_and}
use Rattle.keccak.specs.State.{Rows, lane, Lanes64}
use Rattle.keccak.specs.Lanes.{flipped, chi_of}
use Rattle.keccak.specs.Bits.{ChiBits}
use Rattle.keccak.proofs.BitByBit.{rows_same, chi_bits}
use Rattle.keccak.proofs.steps.chi.Goals as goal

same : (c : goal.After-rows) → c.rows.result ≡ chi_of c.args.a
same c =
    c.rows.ensures.whole
    ∙ rows_same (λ x y. lane c.rows.result x y)
    (λ x y. bit_xor (lane c.args.a x y) (bit_and (flipped (lane c.args.a ((x + 1) % 5) y)) (lane c.args.a ((x + 2) % 5) y)))
    (λ x y h k. let e = c.rows.ensures.lanes x y h k in search rules)

small : (c : goal.After-rows) → Lanes64 c.args.a
small c y k x h = let e = c.rows.ensures.lanes x y h k in search rules

pub returns : goal.returns
returns c = record { lanes = same c; bits = subst (λ (r : Rows). ChiBits c.args.a r) (sym (same c)) (chi_bits c.args.a (small c)) }
