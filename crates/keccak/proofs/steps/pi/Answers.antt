-- Each lane is that of π, and so the bits are.
use Rattle.std.proofs.Common.{◌≡◌, ◌+◌, ◌*◌, ◌%◌, sym, ◌∙◌, subst, rules}
use Rattle.keccak.specs.State.{Rows, lane}
use Rattle.keccak.specs.Lanes.{pi_of}
use Rattle.keccak.specs.Bits.{PiBits}
use Rattle.keccak.proofs.BitByBit.{rows_same}
use Rattle.keccak.proofs.Whole.{pi_bits}
use Rattle.keccak.proofs.steps.pi.Goals as goal

same : (c : goal.After-rows) → c.rows.result ≡ pi_of c.args.a
same c =
    c.rows.ensures.whole
    ∙ rows_same (λ x y. lane c.rows.result x y) (λ x y. lane c.args.a ((x + 3 * y) % 5) x)
    (λ x y h k. let e = c.rows.ensures.lanes x y h k in search rules)

pub returns : goal.returns
returns c = record { lanes = same c; bits = subst (λ (r : Rows). PiBits c.args.a r) (sym (same c)) (pi_bits c.args.a) }
