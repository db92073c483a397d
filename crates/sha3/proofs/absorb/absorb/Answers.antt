-- Each turn adds the next block and permutes.
use Rattle.std.proofs.Common.{ℕ, ◌*◌, List, drop, sym, ap, ◌∙◌}
use Rattle.keccak.specs.State.{Rows}
use Rattle.keccak.specs.Rounds.{keccak_f}
use Rattle.sha3.specs.Sponge.{block_added}
use Rattle.sha3.specs.Fed.{fed}
use Rattle.sha3.proofs.Sponge.{absorbed_none, absorbed_more}
use Rattle.sha3.proofs.absorb.absorb.Goals as goal

pub loop-i-init : goal.loop-i-init
loop-i-init c = sym (absorbed_none c.args.function.rate (fed c.args.input))

pub loop-i-preserved : goal.loop-i-preserved
loop-i-preserved c =
    c.permute-next.ensures.lanes
    ∙ ap keccak_f
    (c.with_block.ensures
    ∙ ap (λ (p : List ℕ). block_added c.args.function.rate p c.loop-i.s) c.rest_of.ensures
    ∙ ap (λ (s : Rows). block_added c.args.function.rate (drop (c.loop-i.i * c.args.function.rate) (fed c.args.input)) s) c.loop-i.invariant)
    ∙ sym (absorbed_more c.args.function.rate (fed c.args.input) c.loop-i.i)
