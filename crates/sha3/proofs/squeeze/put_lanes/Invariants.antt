use Rattle.std.proofs.Common.{◌≡◌, ℕ, ◌+◌, ◌*◌, ◌<◌, get_or}
use Rattle.sha3.specs.Sponge.{state_byte_of}
use Rattle.sha3.proofs.squeeze.put_lanes.Given as goal

abbrev pub invariant-loop-j : goal.invariant-loop-j
invariant-loop-j l =
    ((k : ℕ) → k < l.at → get_or l.out k 0 ≡ get_or l.initial.out k 0)
    × ((k : ℕ) → k < 8 * l.j → get_or l.out (l.at + k) 0 ≡ state_byte_of l.s k)
