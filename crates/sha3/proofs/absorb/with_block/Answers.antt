-- Each lane has that of the block added.
use Rattle.std.proofs.Common.{ap, ◌∙◌, rules}
use lib.Bits.{bit_xor}
use Rattle.keccak.specs.State.{Rows, lane, rows}
use Rattle.keccak.proofs.BitByBit.{rows_same}
use Rattle.sha3.proofs.absorb.with_block.Goals as goal

pub returns : goal.returns
returns c =
    c.rows.ensures.whole
    ∙ rows_same (λ x y. lane c.rows.result x y) (λ x y. bit_xor (lane c.args.s x y) (lane c.front_block-block.result x y))
    (λ x y h k. let e = c.rows.ensures.lanes x y h k in search rules)
    ∙ ap (λ (b : Rows). rows (λ x y. bit_xor (lane c.args.s x y) (lane b x y))) c.front_block-block.ensures
