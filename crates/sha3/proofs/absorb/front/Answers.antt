-- Each lane is that of the block.
use Rattle.std.proofs.Common.{◌+◌, ◌*◌, ◌∙◌, rules}
use Rattle.keccak.specs.State.{lane}
use Rattle.keccak.proofs.BitByBit.{rows_same}
use Rattle.sha3.specs.Sponge.{block_lane}
use Rattle.sha3.proofs.absorb.front.Goals as goal

pub returns : goal.returns
returns g c =
    c.rows.ensures.whole
    ∙ rows_same (λ x y. lane c.rows.result x y) (λ x y. block_lane c.args.function.rate (g.L.Lanes.bytes c.args.bytes.now) (5 * y + x))
    (λ x y h k. let e = c.rows.ensures.lanes x y h k in search rules)
