use Rattle.std.proofs.Common.{◌≡◌, ℕ, ◌*◌, ◌<◌, get_or}
use Rattle.sha3.specs.Sponge.{later, squeezed_byte}
use Rattle.sha3.proofs.squeeze.squeeze.Given as goal

abbrev pub invariant-loop-i : goal.invariant-loop-i
invariant-loop-i l =
    (l.s ≡ later l.i l.initial.s)
    × ((k : ℕ) → k < l.i * l.rate → get_or l.out k 0 ≡ squeezed_byte l.rate l.initial.s k)
