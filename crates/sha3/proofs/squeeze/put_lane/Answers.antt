-- The places hold the front of the lane's bytes.
use Rattle.std.proofs.Common.{◌≡◌, ℕ, ◌+◌, ◌-◌, List, length, get_or, take, ap, ◌∙◌, rules, arith}
use Rattle.std.proofs.lemmas.List.{get_or-take}
use Rattle.sha3.proofs.Sponge.{put_here, lane_byte}
use Rattle.sha3.proofs.squeeze.put_lane.Goals as goal

pub returns-clause-bytes : goal.returns-clause-bytes
returns-clause-bytes c b h =
    let e : c.copy_from_slice.new.self ≡ take c.args.n c.to_le_bytes.result = search rules in
    let n : length c.copy_from_slice.new.self ≡ c.args.n = search rules in
    put_here c.args.at (c.args.at + c.args.n - c.args.at) c.args.out.now c.copy_from_slice.new.self b (omega (arith, n)) (omega (arith, c.requires.room))
    ∙ ap (λ (l : List ℕ). get_or l b 0) e
    ∙ get_or-take c.args.n c.to_le_bytes.result b 0 h
    ∙ ap (λ (l : List ℕ). get_or l b 0) c.to_le_bytes.ensures
    ∙ lane_byte c.args.lane b (omega (arith, c.requires.bytes))
