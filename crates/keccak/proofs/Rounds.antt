-- No rounds, and one more.
use Rattle.std.proofs.Common.{◌≡◌, ℕ, ◌+◌, sym, refl, ap, subst, add-one}
use Rattle.keccak.specs.State.{Rows}
use Rattle.keccak.specs.Bits.{RoundBits, RoundsBits}
use Rattle.keccak.specs.Rounds.{rounds, round_of}

pub rounds_none : (a : Rows) → rounds 0 a ≡ a
unfolding rounds
rounds_none a = refl

pub rounds_more : (a : Rows) (n : ℕ) → rounds (n + 1) a ≡ round_of (rounds n a) n
unfolding rounds
rounds_more a n = ap (λ (k : ℕ). rounds k a) (add-one n)

pub bits_none : (a : Rows) → RoundsBits 0 a a
unfolding RoundsBits
bits_none a = refl

pub bits_more : (a s r : Rows) (n : ℕ) → RoundsBits n a s → RoundBits s n r → RoundsBits (n + 1) a r
unfolding RoundsBits
bits_more a s r n done next = subst (λ (k : ℕ). RoundsBits k a r) (sym (add-one n)) (s, done, next)
