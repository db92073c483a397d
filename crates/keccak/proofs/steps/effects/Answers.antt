-- Each lane is that of the effects.
use Rattle.std.proofs.Common.{◌≡◌, ℕ, ◌+◌, ◌%◌, ◌<◌, get_or, ◌∙◌, rules, arith}
use Rattle.keccak.specs.Lanes.{parity_c, effect_d}
use Rattle.keccak.proofs.BitByBit.{five_same}
use Rattle.keccak.proofs.steps.effects.Goals as goal

pub returns : goal.returns
returns c =
    let parity : (x : ℕ) → x < 5 → get_or c.five-c.result x 0 ≡ parity_c c.args.a x = λ x h. let e = c.five-c.ensures.lanes x h in search rules in
    c.five.ensures.whole
    ∙ five_same (λ x. get_or c.five.result x 0) (effect_d c.args.a)
    (λ x h.
    let e = c.five.ensures.lanes x h in
    let p = parity ((x + 4) % 5) (omega arith) in
    let q = parity ((x + 1) % 5) (omega arith) in
    search rules)
