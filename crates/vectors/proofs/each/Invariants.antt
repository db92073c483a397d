use Rattle.std.proofs.Common.{ℕ, ◌<◌, slice_index}
use Rattle.vectors.proofs.each.Given as goal

abbrev pub invariant-loop-k : goal.invariant-loop-k
invariant-loop-k g l = (j : ℕ) → j < l.k → goal.T-post g l.entry (slice_index l.x j) (slice_index l.y j) (slice_index l.out j)
